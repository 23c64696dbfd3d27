-- The end was printed, and its status says what the job did.
use Rattle.cli.proofs.PerformLemmas.{ends_bad_id, ends_read, ends_status, ends_told, none_or_fault, quiet_then}
use Rattle.cli.proofs.programs.perform.Goals as goal

pub returns : goal.returns
returns g c =
    let it = c.carry_out-ended in
    let told = c.tell.ensures in
    let j = c.args.call.job in
    record {
      status = ends_status j _ _ _ _ _ _ it.result it.ensures.ends _ told.status;
      read = ends_read j _ _ _ _ _ _ it.result it.ensures.ends _ told.status;
      told = ends_told j _ _ _ _ _ _ it.result it.ensures.ends _ told.status _ told.out;
      does = record {
        ended = it.result;
        noted = _;
        notes = _;
        printed = g.O.Write.contents it.new.out;
        did = it.ensures.did;
        told = told.out;
        errors = record { told = told.err };
        exits = told.status;
      };
      quiet = quiet_then _ _ it.result.end _ told.status told.err;
      err = none_or_fault _ _ it.result.end it.ensures.ends.job told.err;
      bad_id = ends_bad_id j _ _ _ _ _ _ it.result it.ensures.ends _ told.status _ told.out;
    }
