-- What is known of each slot: its peer, what that owes and since when, when it last sent or took something, and whether the
-- slot waits for its turn.
use Rattle.std.specs.Prelude.{◌≡◌, ◌≤◌, ◌+◌, ◌-◌, ℕ, Bool, true, false, ◌&&◌, ◌||◌, Some, None, is_none, is_some, List, [], ◌∷◌, All, MatchOption, nat_lt, ◌==◌, slice_get, slice_set, if◌then◌else◌, ◌⊎◌, option_map}
use Rattle.std.specs.List.{list_any}
use Rattle.std.specs.Option.{option_map_or}
use Rattle.std.specs.declared.alloc.Global.{Global}
use Rattle.std.specs.declared.rc.Rc.{Rc}
use Rattle.http_live.specs.declared.slots.Standing.{Standing}
use Rattle.http_log.specs.declared.endings.Why.{Why}
use Rattle.http_log.specs.declared.endings.Why.TheVariants.{Closed}
use Rattle.http_sockets.specs.declared.places.TheConstants.{LINGERING}
use Rattle.http_sockets.specs.declared.places.Owed.{Owed}
use Rattle.http_sockets.specs.declared.places.Owed.TheVariants.{Nothing, Message, Page, End}
use Rattle.http_sockets.specs.declared.places.Place.{Place}
use Rattle.http_sockets.specs.declared.places.Socket.{Socket}
use Rattle.http_sockets.specs.Owed.{is_owed_anew, owed_after, shows_life, why_owing}

-- nobody has the slot
abbrev pub is_free : Place → Bool
is_free slot = is_none slot.socket

abbrev pub is_free_at : List Place → ℕ → Bool
is_free_at slots at = option_map_or is_free (slice_get slots at) false

-- it waits for its turn
abbrev pub waits_at : List Place → ℕ → Bool
waits_at slots at = option_map_or (λ slot. slot.is_queued) (slice_get slots at) false

-- when its peer last sent or took something
abbrev pub heard_at : List Place → ℕ → ℕ
heard_at slots at = option_map_or (λ slot. slot.heard) (slice_get slots at) 0

-- this is done to a slot, if it is there, and nothing to the others
abbrev pub Changes : (Place → Place) → ℕ → List Place → List Place → Type 0
Changes change at old new = MatchOption (slice_get old at) (new ≡ old) (λ slot. new ≡ slice_set old at (change slot))

-- a peer takes the slot: it owes nothing, and is heard at this tick
abbrev pub taken : Rc Socket Global → ℕ → Place → Place
taken socket tick slot = record slot { socket = Some socket; owed = Nothing; since = tick; heard = tick }

-- nobody has it any more
abbrev pub cleared : Place → Place
cleared slot = record slot { socket = None; owed = Nothing }

-- its turn ended so at this tick
abbrev pub heard_so : Standing → ℕ → Place → Place
heard_so standing tick slot = record slot {
  owed = owed_after slot.owed standing;
  since = if is_owed_anew slot.owed standing then tick else slot.since;
  heard = if shows_life standing then tick else slot.heard;
}

-- it waits for its turn, if it has a peer
abbrev pub queued : Place → Place
queued slot = record slot { is_queued = slot.is_queued || is_some slot.socket }

-- it waits no more
abbrev pub served : Place → Place
served slot = record slot { is_queued = false }

-- each slot is as it was, or waits for its turn
pub record AddWaiting (old new : List Place) : Type 0 where
  pub each : (at : ℕ) → (slice_get new at ≡ slice_get old at) ⊎ (slice_get new at ≡ option_map queued (slice_get old at))

-- how often a slot is among those
abbrev pub times : ℕ → List ℕ → ℕ
times at [] = 0
times at (turn ∷ later) = (if turn == at then 1 else 0) + times at later

-- each slot that waits has one turn, in this round or in the next one, and no other slot has a turn
pub record HaveTurns (slots : List Place) (round next : List ℕ) : Type 0 where
  pub each : (at : ℕ) → times at round + times at next ≡ (if waits_at slots at then 1 else 0)

-- its peer is late: what that owes it owes for more than so many ticks, or it is silent after its closing page
abbrev pub is_late : ℕ → ℕ → Place → Owed → Bool
is_late tick patience slot Nothing = false
is_late tick patience slot Message = nat_lt patience (tick - slot.since)
is_late tick patience slot Page = nat_lt patience (tick - slot.since)
is_late tick patience slot End = nat_lt patience (tick - slot.since) || nat_lt LINGERING (tick - slot.heard)

abbrev pub is_overdue : ℕ → ℕ → Place → Bool
is_overdue tick patience slot = is_some slot.socket && is_late tick patience slot slot.owed

-- the slots whose peers are late, of those from a place on
abbrev pub overdue_from : ℕ → ℕ → ℕ → List Place → List ℕ
overdue_from tick patience at [] = []
overdue_from tick patience at (slot ∷ slots) =
    if is_overdue tick patience slot then at ∷ overdue_from tick patience (at + 1) slots
    else overdue_from tick patience (at + 1) slots

-- why a slot is ended whose peer is late
abbrev pub why_overdue : List Place → ℕ → Why
why_overdue slots at = option_map_or (λ slot. why_owing slot.owed) (slice_get slots at) Closed

-- The slot for who comes: a free one; or, where none is free, that whose peer sent and took nothing for longest.
pub record IsChosen (slots : List Place) (at : ℕ) : Type 0 where
  pub free : list_any is_free slots ≡ true → is_free_at slots at ≡ true
  pub silent : list_any is_free slots ≡ false → All (λ slot. heard_at slots at ≤ slot.heard) slots
