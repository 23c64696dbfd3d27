use Rattle.std.proofs.Common.{◌∷◌}
use Rattle.month_reports.specs.Examples.{on_29}
use Rattle.month_reports.proofs.laws.months_from_a_room.Goals as goal

-- the room is of a night
pub returns-clause-whole : goal.returns-clause-whole
returns-clause-whole c = λ later. c.each_month_is_one_run.ensures.whole (on_29 ∷ later)

pub returns-clause-apart : goal.returns-clause-apart
returns-clause-apart c = λ later nights ordered. c.each_month_is_one_run.ensures.apart (on_29 ∷ later) nights ordered

pub returns-clause-asked : goal.returns-clause-asked
returns-clause-asked c = λ f later nights ordered. c.each_month_is_one_run.ensures.asked f (on_29 ∷ later) nights ordered
