-- What a change to one slot leaves of the others, and of their turns. For Places.
use Rattle.std.proofs.Common.{◌≡◌, ◌≢◌, ◌∙◌, ◌+◌, ◌-◌, ◌^◌, ◌<◌, ◌≤◌, ◌++◌, ◌∷◌, ◌||◌, ◌⊎◌, ◌==◌, [], zero, suc, ℕ, List, Bool, true, false, Option, Some, None, All, if◌then◌else◌, is_some, option_map, add-one, ap, arith, get_or, inl, inr, length, refl, slice_get, slice_set, sym, take}
use Rattle.std.proofs.Math.Seq.{take-length}
use Rattle.std.proofs.lemmas.Bool.Decides.{eqb_tells}
use Rattle.std.proofs.lemmas.Grind.{common_steps, elements}
use Rattle.std.proofs.lemmas.List.Folds.{list_any_at, list_any_more}
use Rattle.std.proofs.lemmas.Option.{get_or_from_slice_get, same_Some, slice_get_past, slice_get_read}
use Rattle.std.specs.List.{list_any}
use Rattle.http_sockets.specs.declared.places.Place.{Place}
use Rattle.http_sockets.specs.Slots.{AddWaiting, Changes, HaveTurns, IsChosen, heard_at, is_free, is_overdue, overdue_from, queued, times, waits_at}

-- the slot that a look-up finds
pub found : (slots : List Place) (at : ℕ) (slot : Place) → at < length slots → slot ≡ get_or slots at slot
    → slice_get slots at ≡ Some slot
found slots at slot within is = slice_get_read slots (length slots) at slot refl within is

-- a change to it is all that changes
pub changed : (change : Place → Place) (slots : List Place) (at : ℕ) (slot new : Place) → at < length slots
    → slot ≡ get_or slots at slot → new ≡ change slot → Changes change at slots (slice_set slots at new)
changed change slots at slot new within is same = rw (found slots at slot within is, same) refl

-- what a slot is after a change to one: to this one, and to another
pub slice_get-same : (slots : List Place) (at : ℕ) (slot new : Place) → slice_get slots at ≡ Some slot
    → slice_get (slice_set slots at new) at ≡ Some new
slice_get-same [] at slot new is = cc
slice_get-same (x ∷ later) zero slot new is = refl
slice_get-same (x ∷ later) (suc at) slot new is = slice_get-same later at slot new is

pub slice_get-other : (slots : List Place) (at k : ℕ) (new : Place) → k ≢ at
    → slice_get (slice_set slots at new) k ≡ slice_get slots k
slice_get-other [] at k new other = refl
slice_get-other (x ∷ later) zero zero new other = absurd (other refl)
slice_get-other (x ∷ later) zero (suc k) new other = refl
slice_get-other (x ∷ later) (suc at) zero new other = refl
slice_get-other (x ∷ later) (suc at) (suc k) new other = slice_get-other later at k new (λ same. other (ap suc same))

pub times-append : (k : ℕ) (turns : List ℕ) (at : ℕ) → times k (turns ++ at ∷ []) ≡ times k turns + times k (at ∷ [])
times-append k [] at = omega arith
times-append k (turn ∷ later) at = rw (times-append k later at) (omega arith)

-- a change that lets a slot wait as it did leaves it the turns that it had
pub turns_kept : (slots : List Place) (at : ℕ) (slot new : Place) (round next : List ℕ) → HaveTurns slots round next
    → at < length slots → slot ≡ get_or slots at slot → new.is_queued ≡ slot.is_queued
    → HaveTurns (slice_set slots at new) round next
turns_kept slots at slot new round next have within value same = let is = found slots at slot within value in record {
  each = λ k. elim (eqb_tells k at) [
    | inl here ↦ let had = have.each k in rw (here.1, slice_get-same slots at slot new is, same) (rw (here.1, is) at had)
    | inr there ↦ rw (slice_get-other slots at k new there.1) (have.each k)
  ];
}

-- a slot has one turn in a list of it alone, and another slot has none
once : (at k : ℕ) → k ≡ at → times k (at ∷ []) ≡ 1
once at k same = grind (arith, same)

never : (at k : ℕ) → k ≢ at → times k (at ∷ []) ≡ 0
never at k other = grind (arith, other)

-- a slot that did not wait gets a turn in the next round
pub turns_more : (slots : List Place) (at : ℕ) (slot new : Place) (round next : List ℕ) → HaveTurns slots round next
    → slice_get slots at ≡ Some slot → slot.is_queued ≡ false → new.is_queued ≡ true
    → HaveTurns (slice_set slots at new) round (next ++ at ∷ [])
turns_more slots at slot new round next have is idle waits = record {
  each = λ k. elim (eqb_tells k at) [
    | inl here ↦ let none : times at round + times at next ≡ 0 = rw (is, idle) at (have.each at) in
        rw (here.1, times-append at next at, once at at refl, slice_get-same slots at slot new is, waits) (omega (arith, none))
    | inr there ↦ let had = have.each k in
        rw (times-append k next at, never at k there.1, slice_get-other slots at k new there.1) (omega (arith, had))
  ];
}

-- the first slot of a round waited for its turn
eqb_same : (n : ℕ) → (n == n) ≡ true
eqb_same n = elim (eqb_tells n n) [ inl same ↦ same.0 | inr other ↦ absurd (other.1 refl) ]

some_wait : (waits : Bool) (n : ℕ) → 1 + n ≡ (if waits then 1 else 0) → waits ≡ true
some_wait true n counted = refl
some_wait false n counted = absurd (omega (arith, counted))

turns_of_first : (slots : List Place) (at : ℕ) (before round next : List ℕ) → HaveTurns slots before next → before ≡ at ∷ round
    → 1 + (times at round + times at next) ≡ (if waits_at slots at then 1 else 0)
turns_of_first slots at before round next have first =
    let had = rw first at (have.each at) in let counted = rw (eqb_same at) at had in omega (arith, counted)

first_waits : (slots : List Place) (at : ℕ) (before round next : List ℕ) → HaveTurns slots before next → before ≡ at ∷ round
    → waits_at slots at ≡ true
first_waits slots at before round next have first =
    some_wait (waits_at slots at) (times at round + times at next) (turns_of_first slots at before round next have first)

-- and waits no more
pub turns_less : (slots : List Place) (at : ℕ) (slot new : Place) (before round next : List ℕ) → HaveTurns slots before next
    → before ≡ at ∷ round → slice_get slots at ≡ Some slot → new.is_queued ≡ false
    → HaveTurns (slice_set slots at new) round next
turns_less slots at slot new before round next have first is idle = record {
  each = λ k. elim (eqb_tells k at) [
    | inl here ↦ let none : 1 + (times at round + times at next) ≡ 1 =
        rw (first_waits slots at before round next have first) at (turns_of_first slots at before round next have first) in
        rw (here.1, slice_get-same slots at slot new is, idle) (omega (arith, none))
    | inr there ↦ let had = rw first at (have.each k) in let none = never at k there.1 in
        rw (slice_get-other slots at k new there.1) (grind (arith, had, none))
  ];
}

-- where there is no such slot, it had no turn
pub turns_gone : (slots : List Place) (at : ℕ) (before round next : List ℕ) → HaveTurns slots before next
    → before ≡ at ∷ round → length slots ≤ at → HaveTurns slots round next
turns_gone slots at before round next have first past =
    let waits = first_waits slots at before round next have first in
    let wrong : false ≡ true = rw (slice_get_past slots at past) at waits in cc

-- the rounds in each other's place
pub turns_swapped : (slots : List Place) (round next : List ℕ) → HaveTurns slots round next → HaveTurns slots next round
turns_swapped slots round next have = record { each = λ k. let had = have.each k in omega (arith, had) }

-- So many slots, all free, of which none waits.
pub record AreNew (slots : List Place) (count : ℕ) : Type 0 where
  pub counted : length slots ≡ count
  pub free : All (λ slot. is_free slot ≡ true) slots
  pub idle : (at : ℕ) → waits_at slots at ≡ false

-- one more
waits_at-push : (slots : List Place) (new : Place) (at : ℕ) → new.is_queued ≡ false → waits_at slots at ≡ false
    → waits_at (slots ++ new ∷ []) at ≡ false
waits_at-push [] new zero idle none = idle
waits_at-push [] new (suc at) idle none = refl
waits_at-push (x ∷ later) new zero idle none = none
waits_at-push (x ∷ later) new (suc at) idle none = waits_at-push later new at idle none

pub new_more : (slots : List Place) (count : ℕ) (new : Place) → AreNew slots count → is_free new ≡ true → new.is_queued ≡ false
    → AreNew (slots ++ new ∷ []) (count + 1)
new_more slots count new are free idle = let before = are.free in record {
  counted = let counted = are.counted in grind (arith, common_steps, counted);
  free = grind (arith, elements, before, free);
  idle = λ at. waits_at-push slots new at idle (are.idle at);
}

-- they have no turn
pub turns_none : (slots : List Place) (count : ℕ) (round next : List ℕ) → AreNew slots count → round ≡ [] → next ≡ []
    → HaveTurns slots round next
turns_none slots count round next are no_round no_next = record { each = λ at. rw (no_round, no_next, are.idle at) refl }

-- the slots that are late, of one more: it is, or is not
late_on : (late : Bool) (from : ℕ) (later more : List ℕ)
    → (if late then from ∷ (later ++ more) else later ++ more) ≡ (if late then from ∷ later else later) ++ more
late_on true from later more = refl
late_on false from later more = refl

late_more : (tick patience from : ℕ) (slots : List Place) (at place : ℕ) (slot : Place) → slice_get slots at ≡ Some slot
    → is_overdue tick patience slot ≡ true → place ≡ from + at
    → overdue_from tick patience from (take (suc at) slots) ≡ overdue_from tick patience from (take at slots) ++ place ∷ []
late_more tick patience from [] at place slot is late here = cc
late_more tick patience from (x ∷ later) zero place slot is late here =
    rw (same_Some x slot is, late) (ap (λ (n : ℕ). n ∷ []) (omega arith))
late_more tick patience from (x ∷ later) (suc at) place slot is late here =
    rw (late_more tick patience (from + 1) later at place slot is late (omega arith))
    (late_on (is_overdue tick patience x) from (overdue_from tick patience (from + 1) (take at later)) (place ∷ []))

late_same : (tick patience from : ℕ) (slots : List Place) (at : ℕ) (slot : Place) → slice_get slots at ≡ Some slot
    → is_overdue tick patience slot ≡ false
    → overdue_from tick patience from (take (suc at) slots) ≡ overdue_from tick patience from (take at slots)
late_same tick patience from [] at slot is timely = cc
late_same tick patience from (x ∷ later) zero slot is timely = rw (same_Some x slot is, timely) refl
late_same tick patience from (x ∷ later) (suc at) slot is timely =
    rw (late_same tick patience (from + 1) later at slot is timely) refl

pub late_added : (tick patience : ℕ) (slots : List Place) (at : ℕ) (slot : Place) (first before after : List ℕ)
    → slice_get slots at ≡ Some slot → is_overdue tick patience slot ≡ true
    → before ≡ first ++ overdue_from tick patience 0 (take at slots) → after ≡ before ++ at ∷ []
    → after ≡ first ++ overdue_from tick patience 0 (take (at + 1) slots)
late_added tick patience slots at slot first before after is late so added =
    let more = late_more tick patience 0 slots at at slot is late (omega arith) in
    rw (add-one, more, added, so) (grind (arith, common_steps))

pub timely_kept : (tick patience : ℕ) (slots : List Place) (at : ℕ) (slot : Place) (first before : List ℕ)
    → slice_get slots at ≡ Some slot → is_overdue tick patience slot ≡ false
    → before ≡ first ++ overdue_from tick patience 0 (take at slots)
    → before ≡ first ++ overdue_from tick patience 0 (take (at + 1) slots)
timely_kept tick patience slots at slot first before is timely so =
    rw (add-one, late_same tick patience 0 slots at slot is timely) so

-- Of the first slots none is free, and the best of them is that whose peer was heard first.
pub record QuietSoFar (slots : List Place) (at best oldest : ℕ) : Type 0 where
  pub none : list_any is_free (take at slots) ≡ false
  pub least : (k : ℕ) (d : Place) → k < at → oldest ≤ (get_or slots k d).heard
  pub start : at ≡ 0 → (best ≡ 0) × (oldest ≡ 2 ^ 64 - 1)
  pub heard : 0 < at → heard_at slots best ≡ oldest

-- one more that is not free
none_more : (slots : List Place) (at : ℕ) (slot : Place) → at < length slots → slot ≡ get_or slots at slot
    → list_any is_free (take at slots) ≡ false → is_free slot ≡ false → list_any is_free (take (at + 1) slots) ≡ false
none_more slots at slot within is none held =
    let more = list_any_more is_free slots at slot within in let here = ap is_free (sym is) in
    rw (more, none, here) held

-- one more that was not heard before this tick
least_more : (slots : List Place) (at tick : ℕ) (slot : Place) → at < length slots → slot ≡ get_or slots at slot
    → ((k : ℕ) (d : Place) → k < at → tick ≤ (get_or slots k d).heard) → tick ≤ slot.heard
    → (k : ℕ) (d : Place) → k < at + 1 → tick ≤ (get_or slots k d).heard
least_more slots at tick slot within is before here k d low = elim (eqb_tells k at) [
  | inl same ↦ rw (same.1, get_or_from_slice_get slots at slot d (found slots at slot within is)) here
  | inr other ↦ before k d (omega (arith, other.1))
]

heard_at-found : (slots : List Place) (at : ℕ) (slot : Place) → slice_get slots at ≡ Some slot → heard_at slots at ≡ slot.heard
heard_at-found slots at slot is = rw is refl

-- one more, which was heard before the best
pub quiet_takes : (slots : List Place) (at best oldest : ℕ) (slot : Place) → QuietSoFar slots at best oldest
    → at < length slots → slot ≡ get_or slots at slot → is_free slot ≡ false → slot.heard < oldest
    → QuietSoFar slots (at + 1) at slot.heard
quiet_takes slots at best oldest slot so within is held less = record {
  none = none_more slots at slot within is so.none held;
  least = least_more slots at slot.heard slot within is (λ k d low. omega (arith, so.least k d low)) (omega arith);
  start = λ none. absurd (omega arith);
  heard = λ some. heard_at-found slots at slot (found slots at slot within is);
}

-- one more, which was not
pub quiet_keeps : (slots : List Place) (at best oldest : ℕ) (slot : Place) → QuietSoFar slots at best oldest
    → at < length slots → slot ≡ get_or slots at slot → is_free slot ≡ false → oldest ≤ slot.heard → slot.heard < 2 ^ 64
    → QuietSoFar slots (at + 1) best oldest
quiet_keeps slots at best oldest slot so within is held later fits = record {
  none = none_more slots at slot within is so.none held;
  least = least_more slots at oldest slot within is so.least later;
  start = λ none. absurd (omega arith);
  heard = λ some. elim (eqb_tells at 0) [
    | inl first ↦ let start = so.start first.1 in let here = heard_at-found slots at slot (found slots at slot within is) in
        let same : best ≡ at = start.0 ∙ sym first.1 in rw same (here ∙ omega (arith, start.1))
    | inr other ↦ so.heard (omega (arith, other.1))
  ];
}

-- none is free
pub chosen_of_all : (slots : List Place) (count best oldest : ℕ) → QuietSoFar slots count best oldest → count ≡ length slots
    → IsChosen slots best
chosen_of_all slots count best oldest so all =
    let none = rw (all, take-length) at so.none in
    record {
      free = λ any. cc;
      silent = λ held. λ k d within. rw (so.heard (omega arith)) (so.least k d (omega arith));
    }

-- this one is free
pub chosen_free : (slots : List Place) (at : ℕ) (slot : Place) → at < length slots → slot ≡ get_or slots at slot
    → is_free slot ≡ true → IsChosen slots at
chosen_free slots at slot within is free = record {
  free = λ any. rw (found slots at slot within is) free;
  silent = λ none. let some = list_any_at is_free slots at slot within (ap is_free (sym is) ∙ free) in cc;
}

-- nothing changed
pub waiting_same : (old new : List Place) → new ≡ old → AddWaiting old new
waiting_same old new same = record { each = λ at. inl (ap (λ (slots : List Place). slice_get slots at) same) }

-- one slot waits
pub waiting_one : (old : List Place) (at : ℕ) (slot new : Place) → slice_get old at ≡ Some slot → new ≡ queued slot
    → AddWaiting old (slice_set old at new)
waiting_one old at slot new is waits = record {
  each = λ k. elim (eqb_tells k at) [
    | inl here ↦ inr (rw (here.1, slice_get-same old at slot new is, is, waits) refl)
    | inr there ↦ inl (slice_get-other old at k new there.1)
  ];
}

-- who waits already waits once
or_twice : (a b : Bool) → ((a || b) || b) ≡ (a || b)
or_twice true b = refl
or_twice false true = refl
or_twice false false = refl

queued_twice : (slot : Option Place) → option_map queued (option_map queued slot) ≡ option_map queued slot
queued_twice None = refl
queued_twice (Some slot) =
    ap (λ (waits : Bool). Some (record slot { is_queued = waits })) (or_twice slot.is_queued (is_some slot.socket))

-- some after others
joined : (old mid new : Option Place) → (mid ≡ old) ⊎ (mid ≡ option_map queued old) → (new ≡ mid) ⊎ (new ≡ option_map queued mid)
    → (new ≡ old) ⊎ (new ≡ option_map queued old)
joined old mid new (inl a) (inl b) = inl (b ∙ a)
joined old mid new (inl a) (inr b) = inr (b ∙ ap (λ (o : Option Place). option_map queued o) a)
joined old mid new (inr a) (inl b) = inr (b ∙ a)
joined old mid new (inr a) (inr b) = inr (b ∙ ap (λ (o : Option Place). option_map queued o) a ∙ queued_twice old)

pub waiting_both : (old mid new : List Place) → AddWaiting old mid → AddWaiting mid new → AddWaiting old new
waiting_both old mid new one other = record {
  each = λ at. joined (slice_get old at) (slice_get mid at) (slice_get new at) (one.each at) (other.each at);
}

-- a slot with a peer waits
waits_with : (waits peer : Bool) → peer ≡ true → (waits || peer) ≡ true
waits_with true peer held = refl
waits_with false peer held = held

pub queued_anew : (slot : Place) → is_some slot.socket ≡ true → record slot { is_queued = true } ≡ queued slot
queued_anew slot held =
    sym (ap (λ (waits : Bool). record slot { is_queued = waits }) (waits_with slot.is_queued (is_some slot.socket) held))
