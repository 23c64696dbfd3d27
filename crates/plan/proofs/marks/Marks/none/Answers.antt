-- No flag stands, so the set is empty.
use Rattle.plan.proofs.FlagsLemmas.{is_taken_in-replicate}
use Rattle.plan.proofs.marks.Marks.none.Goals as goal

pub returns : goal.returns
returns c = record { empty = is_taken_in-replicate }
