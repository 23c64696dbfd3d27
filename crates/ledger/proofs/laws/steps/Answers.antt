-- Each open journey of a legal ledger has one step, and no finished one goes on.
use Rattle.ledger.proofs.Deciding.{each_open_has_one, no_finished_goes_on}
use Rattle.ledger.proofs.laws.steps.Goals as goal

pub returns : goal.returns
returns c = record { one = each_open_has_one; finished = no_finished_goes_on }
