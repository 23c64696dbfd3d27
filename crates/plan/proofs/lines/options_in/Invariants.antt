use Rattle.std.proofs.Common.{◌≡◌, Ok, map}
use Rattle.plan.specs.PlanLine.{option_draft}
use Rattle.plan.specs.Levels.{judged_options}
use Rattle.plan.proofs.lines.options_in.Given as goal

-- the options so far are what is read of the parts so far
abbrev pub invariant-loop-part : goal.invariant-loop-part
invariant-loop-part l = judged_options l.step (map option_draft (map (λ part. part.now) l.yielded)) ≡ Ok l.options.items
