-- One more slot without any connection.
use Rattle.std.proofs.Common.{◌∷◌, [], All, ap, sym, subst, length, length-append, arith}
use Rattle.std.proofs.lemmas.List.Elements.{All-push}
use Rattle.http_live.specs.Calls.{IsEmpty}
use Rattle.http_live.proofs.slots.empty_slots.Goals as goal

pub loop-preserved : goal.loop-preserved
loop-preserved g c =
    let before = c.loop.slots.items in
    let items = c.in_ok-push.ensures.items in record {
      count = omega (arith, ap length items, length-append before (c.new.result ∷ []), c.loop.invariant.count);
      empty = subst (All IsEmpty) (sym items) (All-push IsEmpty before c.new.result c.loop.invariant.empty c.new.ensures.empty);
    }
