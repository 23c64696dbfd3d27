-- The first slot of the round has had its turn.
use Rattle.std.proofs.Common.{refl}
use Rattle.http_sockets.specs.Slots.{served}
use Rattle.http_sockets.proofs.SlotLemmas.{changed, found, turns_gone, turns_less}
use Rattle.http_sockets.proofs.places.Places.serve.Goals as goal

pub invariant_of-self-in-Some : goal.invariant_of-self-in-Some
invariant_of-self-in-Some c = let slot = found _ c.in_ok-at.at c.in-Some.place.now c.in-Some.ensures.item.3.0 c.in-Some.ensures.value in
    record { turns = turns_less _ _ _ _ _ _ _ c.args.self.now.turns c.in_ok-at.ensures.items slot refl }

pub invariant_of-self-in_default : goal.invariant_of-self-in_default
invariant_of-self-in_default c =
    record { turns = turns_gone _ c.in_ok-at.at _ _ _ c.args.self.now.turns c.in_ok-at.ensures.items c.in_default.ensures.item.3 }

pub returns-in-Some : goal.returns-in-Some
returns-in-Some c = record {
  served = (changed served _ c.in_ok-at.at _ _ c.in-Some.ensures.item.3.0 c.in-Some.ensures.value refl, c.in_ok-at.ensures.items);
}
