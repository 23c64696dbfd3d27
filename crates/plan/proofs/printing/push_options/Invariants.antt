use Rattle.std.proofs.Common.{◌+◌, take}
use Rattle.plan.specs.PlanLine.{options_text, Writes}
use Rattle.plan.proofs.printing.push_options.Given as goal

-- the options so far are appended to what the line had
abbrev pub invariant-loop-want : goal.invariant-loop-want
invariant-loop-want l = Writes l.fn.line l.line (options_text (take (l.want-index + 1) l.options))
