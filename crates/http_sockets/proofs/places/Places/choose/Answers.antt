-- One more slot, which is better than the best so far or is not.
use Rattle.std.proofs.Common.{◌≡◌, ◌∙◌, false, is_none, not, ap, arith}
use Rattle.http_sockets.proofs.SlotLemmas.{quiet_keeps, quiet_takes}
use Rattle.http_sockets.proofs.places.Places.choose.Goals.{then-place-oldest, else-place-oldest}
use Rattle.http_sockets.proofs.places.Places.choose.Goals as goal

pub loop-at-preserved : goal.loop-at-preserved
loop-at-preserved c =
    let held : is_none c.place-item.result.socket ≡ false = ap not (c.is_none.ensures ∙ ap not c.if-is_none.false) in
    elim c.if-place-oldest.branch [
      | then-place-oldest w ↦ rw (w.best-is, w.oldest-is) (quiet_takes c.deref-place-items.result.now c.loop-at.at c.loop-at.best
          c.loop-at.oldest c.place-item.result c.loop-at.invariant (omega (arith, c.loop-at-test.true)) c.place-item.is held
          w.if-place-oldest.true)
      | else-place-oldest w ↦ rw (w.best-is, w.oldest-is) (quiet_keeps c.deref-place-items.result.now c.loop-at.at c.loop-at.best
          c.loop-at.oldest c.place-item.result c.loop-at.invariant (omega (arith, c.loop-at-test.true)) c.place-item.is held
          w.if-place-oldest.false (omega arith))
    ]
