use Rattle.std.proofs.Common.{◌≡◌, Ok, take}
use Rattle.plan.specs.Levels.{judged_options, options_shown}
use Rattle.plan.proofs.json.options_of.Given as goal

-- the options so far are what is read of the values so far
abbrev pub invariant-loop-value : goal.invariant-loop-value
invariant-loop-value l = judged_options l.step (options_shown (take l.value-index l.values)) ≡ Ok l.options.items
