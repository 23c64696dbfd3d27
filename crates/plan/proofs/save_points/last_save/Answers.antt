-- Each position that the loop passes is the last save-point so far, if one stands there.
use Rattle.std.proofs.Common.{◌≡◌, arith}
use Rattle.plan.specs.PlanModel.{step_count}
use Rattle.plan.proofs.LandingLemmas.{IsLastTo-none, IsLastTo-here, IsLastTo-past, greatest-last}
use Rattle.plan.proofs.save_points.last_save.Goals as goal
use Rattle.plan.proofs.save_points.last_save.Goals.{then-is_save_point, else-is_save_point}

pub loop-below-init : goal.loop-below-init
loop-below-init c = IsLastTo-none _

pub loop-below-preserved : goal.loop-below-preserved
loop-below-preserved c = elim c.if-is_save_point.branch [
  | then-is_save_point w ↦ search (arith, IsLastTo-here)
  | else-is_save_point w ↦ search (arith, IsLastTo-past)
]

-- after all steps it is the last of all
pub returns : goal.returns
returns c =
    let all : c.loop-below.below ≡ step_count c.args.plan.now = omega arith in
    let walked = rw all at c.loop-below.invariant in
    record { last = greatest-last _ _ _ walked; lands = walked.lands; none_above = λ q high stands. walked.none_above q high stands }
