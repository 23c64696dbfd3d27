-- One more slot, which is late or is not.
use Rattle.std.proofs.Common.{◌∙◌, arith, sym}
use Rattle.http_sockets.proofs.SlotLemmas.{found, late_added, timely_kept}
use Rattle.http_sockets.proofs.places.Places.add_overdue.Goals.{then-is_overdue+in_ok-push_back, else-is_overdue}
use Rattle.http_sockets.proofs.places.Places.add_overdue.Goals as goal

pub loop-at-preserved : goal.loop-at-preserved
loop-at-preserved c =
    let slots = c.deref-place-items.result.now in
    let slot = found slots c.loop-at.at c.place-item.result (omega (arith, c.loop-at-test.true)) c.place-item.is in
    elim c.if-is_overdue.branch [
      | then-is_overdue+in_ok-push_back w ↦ rw w.overdue-is (late_added c.args.tick c.args.patience slots c.loop-at.at
          c.place-item.result c.args.overdue.now.items c.loop-at.overdue.items w.push_back.new.self.items slot
          (sym c.is_overdue.ensures.overdue ∙ w.if-is_overdue.true) c.loop-at.invariant w.in_ok-push_back.ensures.items)
      | else-is_overdue w ↦ rw w.overdue-is (timely_kept c.args.tick c.args.patience slots c.loop-at.at
          c.place-item.result c.args.overdue.now.items c.loop-at.overdue.items slot
          (sym c.is_overdue.ensures.overdue ∙ w.if-is_overdue.false) c.loop-at.invariant)
    ]
