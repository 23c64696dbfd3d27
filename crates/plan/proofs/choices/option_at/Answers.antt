-- A step of a plan has an option, so the first one is there.
use Rattle.std.proofs.Common.{arith}
use Rattle.plan.proofs.ChoiceLemmas.{one_le-option_count}
use Rattle.plan.proofs.choices.option_at.Goals as goal

pub returns-clause-first : goal.returns-clause-first
returns-clause-first c =
    omega (
      arith,
      one_le-option_count c.args.plan.now c.args.step c.steps.ensures.limits
          c.requires.from_one c.requires.in_plan,
    )
