-- Of the positions that the loop has passed, it is the last at which a save-point stands, or 0.
use Rattle.plan.specs.Marks.{is_taken_in}
use Rattle.plan.specs.Rules.{is_save_point}
use Rattle.plan.proofs.LandingLemmas.{IsLastTo}
use Rattle.plan.proofs.save_points.last_save.Given as goal

abbrev pub invariant-loop-below : goal.invariant-loop-below
invariant-loop-below l = IsLastTo (is_save_point l.plan (is_taken_in l.marks) l.pos) l.below l.last
