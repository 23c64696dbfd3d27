-- What follows from a turn, and who may come after it. For Sockets.
use Rattle.std.proofs.Common.{◌≡◌, ◌≢◌, ◌∙◌, ◌<◌, zero, suc, inl, inr, ℕ, Option, Some, None, arith, refl}
use Rattle.http_live.specs.Doors.{EndsOnlyIf}
use Rattle.http_live.specs.declared.serving.Turn.{Turn}
use Rattle.http_live.specs.declared.serving.Turn.TheVariants.{Comes, Ready, Leaves, End}
use Rattle.http_sockets.specs.declared.places.ReadEnd.{ReadEnd}
use Rattle.http_sockets.specs.declared.places.WriteEnd.{WriteEnd}
use Rattle.http_sockets.specs.declared.sockets.Sockets.{Sockets}
use Rattle.http_sockets.specs.Counts.{IsFewer, IsNoMore, one_fewer}
use Rattle.http_sockets.specs.Options.{still_to_come}
use Rattle.http_sockets.specs.Slots.{AddWaiting}
use Rattle.http_sockets.specs.Turns.{GaveTurn, IsComing, IsFirst, IsAdmitted, IsTurnedAway, TurnTaken, slots_in}

-- a turn of somebody needs no reason that none comes
pub some_turn : {R W : Type 0} (reason : Type 0) (turn : Turn R W) → EndsOnlyIf ⊥ turn → EndsOnlyIf reason turn
some_turn reason (Comes at door mode reader writer) some = tt
some_turn reason (Ready at) some = tt
some_turn reason (Leaves at) some = tt
some_turn reason End some = absurd some

-- who comes takes no turn of others
pub first_of_coming : (turn : Turn ReadEnd WriteEnd) (old new : Sockets) → IsComing turn → IsFirst turn old new
first_of_coming (Comes at door mode reader writer) old new comes = tt
first_of_coming (Ready at) old new comes = absurd comes
first_of_coming (Leaves at) old new comes = absurd comes
first_of_coming End old new comes = absurd comes

positive : (n : ℕ) → ◌≢◌ {A = Option ℕ} (Some n) (Some 0) → 0 < n
positive zero some = absurd (some refl)
positive (suc n) some = omega arith

-- where some may come, one fewer of no more than those is fewer
pub fewer_of : (old mid new : Option ℕ) → IsNoMore old mid → mid ≢ Some 0 → new ≡ one_fewer mid → IsFewer old new
fewer_of None mid new one some fewer = rw one at fewer
fewer_of (Some o) None new one some fewer = absurd one
fewer_of (Some o) (Some m) new one some fewer = rw fewer (omega (arith, positive m some))

-- and no more
pub one_no_more : (count : Option ℕ) → IsNoMore count (one_fewer count)
one_no_more None = refl
one_no_more (Some n) = omega arith

pub no_more_same : (count : Option ℕ) → IsNoMore count count
no_more_same None = refl
no_more_same (Some n) = omega arith

no_more_both : (old mid new : Option ℕ) → IsNoMore old mid → IsNoMore mid new → IsNoMore old new
no_more_both None mid new one other = rw one at other
no_more_both (Some o) None new one other = absurd one
no_more_both (Some o) (Some m) None one other = absurd other
no_more_both (Some o) (Some m) (Some n) one other = omega arith

-- nobody took a slot, and nobody after that
pub turned_away_both : (old mid new : Sockets) → IsTurnedAway old mid → IsTurnedAway mid new → IsTurnedAway old new
turned_away_both old mid new one other = record {
  slots = other.slots ∙ one.slots;
  no_more = no_more_both (still_to_come old) (still_to_come mid) (still_to_come new) one.no_more other.no_more;
  round = other.round ∙ one.round;
  tick = other.tick ∙ one.tick;
}

-- nobody took a slot, and then somebody did
pub admitted_after : (old mid new : Sockets) (turn : Turn ReadEnd WriteEnd) → IsTurnedAway old mid → IsAdmitted mid new turn
    → IsAdmitted old new turn
admitted_after old mid new turn one other = record {
  peer = other.peer;
  comes = other.comes;
  slots = rw (one.tick, one.slots) at other.slots;
  round = other.round ∙ one.round;
}

pub turned_away_same : (now : Sockets) → IsTurnedAway now now
turned_away_same now = record {
  slots = refl;
  no_more = no_more_same (still_to_come now);
  round = refl;
  tick = refl;
}

-- after such rounds a turn was given
pub gave_turn : (old between new : Sockets) (turn : Turn ReadEnd WriteEnd) → AddWaiting (slots_in old) (slots_in between)
    → TurnTaken between new (Some turn) → GaveTurn old turn new
gave_turn old between new turn waiting taken = record { between = between; waiting = waiting; gives = inl taken }

-- after such rounds there was none
pub gave_none : (old new : Sockets) → AddWaiting (slots_in old) (slots_in new) → GaveTurn old End new
gave_none old new waiting = record { between = new; waiting = waiting; gives = inr (refl, refl) }
