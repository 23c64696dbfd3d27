use Rattle.std.proofs.Common.{ap, sym, ◌∙◌, subst, is_some}
use Rattle.commands.specs.Request as request
use Rattle.recovery.specs.Asking.{stop_of, Adds, none, one}
use Rattle.recovery.specs.Following.{AfterMove}
use Rattle.recovery.proofs.FollowLemmas.{move-adds, move-left}
use Rattle.recovery.proofs.TellLemmas.{stop-moves}
use Rattle.recovery.proofs.asking.stop.Goals as goal

-- the reply reports a phase exactly if the journey turned
pub returns-in-Ok-clause-made : goal.returns-in-Ok-clause-made
returns-in-Ok-clause-made g c sound following s here runs =
    let j = c.args.id in
    let after = AfterMove g.B.Book.stands g.B.Book.may_act following c.act.new.self in
    subst (λ v. Adds (after v) s (stop_of s.ledger j) v) (sym (c.is_some.ensures ∙ ap is_some c.phase_told.ensures))
    (move-adds sound following s here (request.Stop j) tt j _ (stop-moves s.ledger j runs) c.in-Ok.ensures)

-- at a fault the journey turned, or it did not
pub returns-clause-made : goal.returns-clause-made
returns-clause-made g c sound following s here runs =
    move-left sound following s here (request.Stop c.args.id) tt c.args.id _ (stop-moves s.ledger c.args.id runs) c.in-Err.fault
    g.met.B.Book.settled c.in-Err.ensures none one
