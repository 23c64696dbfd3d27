-- The notes were written before the end was explained, and its status says what the job did.
use Rattle.std.proofs.Common.{refl}
use Rattle.cli.proofs.PerformLemmas.{ends_bad_id, ends_read, ends_status, ends_told}
use Rattle.cli.proofs.programs.perform_explained.Goals as goal

pub returns : goal.returns
returns g c =
    let it = c.carry_out-ended in
    let told = c.explain.ensures in
    let j = c.args.call.job in
    record {
      status = ends_status j _ _ _ _ _ _ it.result it.ensures.ends _ told.status;
      read = ends_read j _ _ _ _ _ _ it.result it.ensures.ends _ told.status;
      told = ends_told j _ _ _ _ _ _ it.result it.ensures.ends _ told.status _ told.out;
      does = record {
        ended = it.result;
        noted = g.E.Write.contents c.args.err.now;
        notes = g.E.Write.contents it.new.notes;
        printed = g.O.Write.contents it.new.out;
        did = it.ensures.did;
        told = told.out;
        errors = record { first = refl; explained = told.err };
        exits = told.status;
      };
      err = record {
        end = it.result.end;
        job = it.ensures.ends.job;
        cause = it.result.cause;
        noted = g.E.Write.contents it.new.notes;
        note = it.ensures.ends.notes;
        explained = told.err;
      };
      bad_id = ends_bad_id j _ _ _ _ _ _ it.result it.ensures.ends _ told.status _ told.out;
    }
