-- In each phase the move names the one item that may come next.
use Rattle.std.proofs.Common.{◌≡◌, arith}
use Rattle.plan.specs.Rules as rules
use Rattle.saga_core.proofs.DecidingLemmas.{only-take, one-take, only-turn, one-turn, only-undo, one-undo}
use Rattle.saga_core.proofs.deciding.decide.Goals as goal

-- the option is the rule's at the position, which is one less than the step
option-is : (c : goal.After-option_at)
    → c.option_at.result ≡ rules.next_option c.args.plan.now c.args.cursor.now.pos c.args.cursor.now.used
option-is c = grind arith

-- a running journey whose next want fits takes its next step
pub returns-then-fits-clause-only : goal.returns-then-fits-clause-only
returns-then-fits-clause-only c = search (arith, only-take, option-is)

pub returns-then-fits-clause-one : goal.returns-then-fits-clause-one
returns-then-fits-clause-one c = search (arith, one-take, option-is)

-- a running journey whose next want does not fit turns
pub returns-else-fits-clause-only : goal.returns-else-fits-clause-only
returns-else-fits-clause-only c = search (arith, only-turn)

pub returns-else-fits-clause-one : goal.returns-else-fits-clause-one
returns-else-fits-clause-one c = search (arith, one-turn)

-- a journey that goes back compensates its last step
pub returns-in-Back-clause-only : goal.returns-in-Back-clause-only
returns-in-Back-clause-only c =
    only-undo c.args.plan.now c.args.marks.now c.args.cursor.now c.args.fits c.in-Back.field-0 c.in-Back.is

pub returns-in-Back-clause-one : goal.returns-in-Back-clause-one
returns-in-Back-clause-one c = search (arith, one-undo)
