use Rattle.std.proofs.Common.{sym, subst, is_some}
use Rattle.commands.specs.Request as request
use Rattle.ledger.proofs.Deciding.{each_open_has_one}
use Rattle.recovery.specs.Asking.{SteppedTo, stays, goes}
use Rattle.recovery.specs.Following.{AfterMove}
use Rattle.recovery.proofs.FollowLemmas.{move-left, move-steps, standing}
use Rattle.recovery.proofs.TellLemmas.{step-moves}
use Rattle.recovery.proofs.asking.step.Goals as goal

-- the reply reports the phase after the journey's one step
pub returns-in-Ok-clause-made : goal.returns-in-Ok-clause-made
returns-in-Ok-clause-made g c sound following s here unfinished =
    let j = c.args.id in
    let book = g.B.Book in
    let after = AfterMove book.stands book.may_act following c.act.new.self in
    let legal = g.met.B.Book.legal c.args.book.now s (standing book.stands book.may_act following c.args.book.now s here) in
    let step = each_open_has_one s.ledger legal j unfinished in
    subst (λ o. SteppedTo (after (is_some o)) s j o) (sym c.phase_told.ensures)
    (move-steps sound following s here (request.Step j) tt j step.step (step-moves s.ledger j unfinished step) c.in-Ok.ensures
    step.forward step.allowed)

-- at a fault the journey made its one step, or it did not
pub returns-clause-made : goal.returns-clause-made
returns-clause-made g c sound following s here unfinished =
    let j = c.args.id in
    let book = g.B.Book in
    let legal = g.met.B.Book.legal c.args.book.now s (standing book.stands book.may_act following c.args.book.now s here) in
    let step = each_open_has_one s.ledger legal j unfinished in
    move-left sound following s here (request.Step j) tt j step.step (step-moves s.ledger j unfinished step) c.in-Err.fault
    g.met.B.Book.settled c.in-Err.ensures stays (goes step.step step.forward step.allowed)
