-- What the end says by the job follows from what was done.
use Rattle.cli.proofs.CallLemmas.{call_ends}
use Rattle.cli.proofs.doing.do_at_file.Goals as goal

pub returns : goal.returns
returns g c =
    let it = c.do_action-ended in
    record {
      did = it.ensures.did;
      ends = λ job socket is. call_ends _ _ _ _ it.result.0 job socket c.args.action.now is it.ensures.did;
    }
