-- How the slots change by turns.
use Rattle.std.specs.Prelude.{◌≡◌, ◌≢◌, ◌<◌, ◌⊎◌, ⊤, ◌++◌, ◌∷◌, ℕ, List, [], Option, Some, None, true}
use Rattle.std.specs.declared.alloc.Global.{Global}
use Rattle.std.specs.declared.rc.Rc.{Rc}
use Rattle.http_live.specs.declared.slots.Standing.{Standing}
use Rattle.http_live.specs.declared.slots.Standing.TheVariants.{Answered, Busy, Over}
use Rattle.http_live.specs.declared.serving.Turn.{Turn}
use Rattle.http_live.specs.declared.serving.Turn.TheVariants.{Comes, Ready, Leaves, End}
use Rattle.http_sockets.specs.declared.places.Place.{Place}
use Rattle.http_sockets.specs.declared.places.ReadEnd.{ReadEnd}
use Rattle.http_sockets.specs.declared.places.Socket.{Socket}
use Rattle.http_sockets.specs.declared.places.WriteEnd.{WriteEnd}
use Rattle.http_sockets.specs.declared.sockets.Sockets.{Sockets}
use Rattle.http_sockets.specs.declared.sockets.TheConstants.{WELCOMES}
use Rattle.http_sockets.specs.Counts.{IsNoMore}
use Rattle.http_sockets.specs.Doors.{IsTurn}
use Rattle.http_sockets.specs.Options.{still_to_come}
use Rattle.http_sockets.specs.Places.{round_of, slots_of}
use Rattle.http_sockets.specs.Slots.{AddWaiting, Changes, IsChosen, cleared, heard_so, overdue_from, queued, served, taken}
use Rattle.http_sockets.specs.Waiting.{may_wait, waiting_at}

-- what is known of each slot
abbrev pub slots_in : Sockets → List Place
slots_in sockets = slots_of sockets.places

-- a peer takes a slot, with the socket of its reader
pub record Takes (tick at : ℕ) (reader : ReadEnd) (old new : List Place) : Type 0 where
  pub socket : Rc Socket Global
  pub same : socket.value ≡ reader.0.value
  pub taken : Changes (taken socket tick) at old new

-- who comes takes the slot that is chosen, who leaves has it no more, and who is ready has had its turn
abbrev pub ByTurn : ℕ → Turn ReadEnd WriteEnd → List Place → List Place → Type 0
ByTurn tick (Comes at door mode reader writer) old new = IsChosen old at × Takes tick at reader old new
ByTurn tick (Ready at) old new = Changes served at old new
ByTurn tick (Leaves at) old new = Changes cleared at old new
ByTurn tick End old new = new ≡ old

-- somebody comes in this turn
abbrev pub IsComing : Turn ReadEnd WriteEnd → Type 0
IsComing (Comes at door mode reader writer) = ⊤
IsComing _ = ⊥

-- one more peer may take a slot in this round: somebody may wait, not too many came in it, and one more may come
pub record IsWelcome (sockets : Sockets) : Type 0 where
  pub waits : may_wait (waiting_at sockets.listeners) ≡ true
  pub round : sockets.welcomed < WELCOMES
  pub limit : still_to_come sockets ≢ Some 0

-- a peer took a slot in this turn
pub record IsAdmitted (old new : Sockets) (turn : Turn ReadEnd WriteEnd) : Type 0 where
  pub peer : IsTurn turn
  pub comes : IsComing turn
  pub slots : ByTurn old.tick turn (slots_in old) (slots_in new)
  pub round : round_of new.places ≡ round_of old.places

-- nobody took a slot, and no more may come
pub record IsTurnedAway (old new : Sockets) : Type 0 where
  pub slots : slots_in new ≡ slots_in old
  pub no_more : IsNoMore (still_to_come old) (still_to_come new)
  pub round : round_of new.places ≡ round_of old.places
  pub tick : new.tick ≡ old.tick

-- who leaves is the first of those that are ended, and who is ready is the first of the round
abbrev pub IsFirst : Turn ReadEnd WriteEnd → Sockets → Sockets → Type 0
IsFirst (Comes at door mode reader writer) old new = ⊤
IsFirst (Ready at) old new = round_of old.places ≡ at ∷ round_of new.places
IsFirst (Leaves at) old new = old.leaving.items ≡ at ∷ new.leaving.items
IsFirst End old new = ⊥

-- a turn of this round was taken, or there is none
abbrev pub TurnTaken : Sockets → Sockets → Option (Turn ReadEnd WriteEnd) → Type 0
TurnTaken old new None = (slots_in new ≡ slots_in old) × (round_of old.places ≡ [])
TurnTaken old new (Some turn) = IsTurn turn × ByTurn old.tick turn (slots_in old) (slots_in new) × IsFirst turn old new

-- Rounds began, in which slots were added to those that wait, and then the sockets gave this turn of theirs, or none.
pub record GaveTurn (old : Sockets) (turn : Turn ReadEnd WriteEnd) (new : Sockets) : Type 0 where
  pub between : Sockets
  pub waiting : AddWaiting (slots_in old) (slots_in between)
  pub gives : TurnTaken between new (Some turn) ⊎ ((turn ≡ End) × (slots_in new ≡ slots_in between))

-- no tick passed; or those that owe something for too long now are ended
abbrev pub EndsLate : Sockets → Sockets → Type 0
EndsLate old new = ((new.tick ≡ old.tick) × (new.leaving.items ≡ old.leaving.items))
    ⊎ (new.leaving.items ≡ old.leaving.items ++ overdue_from new.tick old.patience 0 (slots_in new))

-- what follows a turn that ended so: whose connection is over has the slot no more, and who has more to do at once has one more
-- turn, unless memory runs out
abbrev pub Follows : Standing → ℕ → List Place → List Place → Type 0
Follows Over at old new = Changes cleared at old new
Follows Busy at old new = (new ≡ old) ⊎ Changes queued at old new
Follows Answered at old new = (new ≡ old) ⊎ Changes queued at old new
Follows _ at old new = new ≡ old

-- a turn of a slot ended so at this tick
pub record HearsSo (standing : Standing) (tick at : ℕ) (old new : List Place) : Type 0 where
  pub between : List Place
  pub heard : Changes (heard_so standing tick) at old between
  pub follows : Follows standing at between new
