-- The slot waits, and has a turn in the next round.
use Rattle.std.proofs.Common.{◌∙◌, ap, not, refl}
use Rattle.http_sockets.specs.Slots.{queued}
use Rattle.http_sockets.proofs.SlotLemmas.{changed, found, queued_anew, turns_more, waiting_one}
use Rattle.http_sockets.proofs.places.Places.queue.Goals as goal

pub invariant_of-self-2 : goal.invariant_of-self-2
invariant_of-self-2 c = let slot = found _ c.args.at c.in-Some.place.now c.in-Some.ensures.item.3.0 c.in-Some.ensures.value in
    record { turns = rw c.in_ok-push_back.ensures.items (turns_more _ _ _ _ _ _ c.args.self.now.turns slot c.if-place.false refl) }

pub returns-clause-queued : goal.returns-clause-queued
returns-clause-queued c =
    changed queued _ c.args.at c.in-Some.place.now _ c.in-Some.ensures.item.3.0 c.in-Some.ensures.value
    (queued_anew c.in-Some.place.now (c.is_none.ensures ∙ ap not c.if-is_none.false))

pub returns-clause-waiting : goal.returns-clause-waiting
returns-clause-waiting c = let slot = found _ c.args.at c.in-Some.place.now c.in-Some.ensures.item.3.0 c.in-Some.ensures.value in
    waiting_one c.args.self.now.places.items c.args.at _ _ slot (queued_anew c.in-Some.place.now (c.is_none.ensures ∙ ap not c.if-is_none.false))
