-- A turn of a round is one, after rounds that began; at the end there is none.
use Rattle.std.proofs.Common.{◌≡◌, List, ap}
use Rattle.http_sockets.specs.declared.places.Place.{Place}
use Rattle.http_sockets.specs.declared.sockets.Sockets.{Sockets}
use Rattle.http_sockets.specs.Ends.{IsOver}
use Rattle.http_sockets.specs.Slots.{AddWaiting}
use Rattle.http_sockets.specs.Turns.{slots_in}
use Rattle.http_sockets.proofs.SlotLemmas.{waiting_both, waiting_same}
use Rattle.http_sockets.proofs.TurnLemmas.{gave_none, gave_turn, some_turn}
use Rattle.http_sockets.proofs.sockets.SocketsTurns.next_turn.Goals as goal
use Rattle.http_sockets.proofs.sockets.SocketsTurns.next_turn.Goals.{else-loop-test, then-loop-test+in_default+else-is_at_end+then-is_err}

abbrev slots : Sockets → List Place
slots sockets = slots_in sockets

-- where no slot has changed since, as many wait
waits_on : (old between new : Sockets) → AddWaiting (slots_in old) (slots_in between) → slots_in new ≡ slots_in between
    → AddWaiting (slots_in old) (slots_in new)
waits_on old between new waits same =
    waiting_both (slots_in old) (slots_in between) (slots_in new) waits (waiting_same (slots_in between) (slots_in new) same)

pub returns-in-Some-clause-over : goal.returns-in-Some-clause-over
returns-in-Some-clause-over c = some_turn (IsOver c.turn_of_round.new.self) c.in-Some.turn c.in-Some.ensures.taken.0.some

pub returns-in-Some-clause-takes : goal.returns-in-Some-clause-takes
returns-in-Some-clause-takes c =
    gave_turn c.args.self.now c.loop.self c.turn_of_round.new.self c.in-Some.turn c.loop.invariant c.in-Some.ensures.taken

pub returns-then-is_at_end-clause-takes : goal.returns-then-is_at_end-clause-takes
returns-then-is_at_end-clause-takes c =
    gave_none c.args.self.now c.turn_of_round.new.self (waits_on c.args.self.now c.loop.self c.turn_of_round.new.self c.loop.invariant
    c.in_default.ensures.taken.0)

pub returns-clause-takes : goal.returns-clause-takes
returns-clause-takes c = gave_none c.args.self.now _ (elim c.loop-test.branch [
  | else-loop-test w ↦ waits_on c.args.self.now c.loop.self c.loop-test.self c.loop.invariant (ap slots w.self-is)
  | then-loop-test+in_default+else-is_at_end+then-is_err w ↦ (
      let empty = waits_on c.args.self.now c.loop.self w.turn_of_round.new.self c.loop.invariant w.in_default.ensures.taken.0 in
      let begun = waiting_both (slots c.args.self.now) (slots w.turn_of_round.new.self) (slots w.begin_round.new.self) empty
      w.begin_round.ensures.slots in
      waits_on c.args.self.now w.begin_round.new.self c.loop-test.self begun (ap slots w.self-is))
])
