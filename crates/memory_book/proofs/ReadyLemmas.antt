-- Which items a journey in a book in memory may make, and the journey after one. For the moves of the book.
use Rattle.std.proofs.Common.{◌≡◌, ℕ, zero, suc, ◌<◌, ◌≤◌, List, [], ◌∷◌, length, get_or, map, refl, ap, sym, ◌∙◌, subst, arith, ltb-true, slice_get, slice_set, Some, Ok, IfOk}
use Rattle.std.specs.FinSet as set
use Rattle.std.proofs.lemmas.Option.{slice_get_read}
use Rattle.std.specs.Ordering.{nat_cmp}
use Rattle.plan.specs.Limits.{most_steps}
use Rattle.plan.specs.PlanModel.{Planned, step_count}
use Rattle.commands.specs.declared.items.Cursor.{Cursor}
use Rattle.commands.specs.declared.items.Item.{Item}
use Rattle.ledger.specs.Answer.{State}
use Rattle.ledger.specs.Ledger.{history}
use Rattle.saga_core.specs.Cursors.{IsWithin}
use Rattle.memory_book.specs.MemoryAnswers.{kept_in, AreKeptAlike}
use Rattle.memory_book.specs.MemoryJourneys.{IsPlaced, IsNext}
use Rattle.memory_book.specs.MemoryNext.{save_said}
use Rattle.memory_book.specs.MemoryStock.{IsInPlan}
use Rattle.memory_book.specs.Memory.{begun_as, TellEach, StandsFor, IsSameJourney, MayBeMade}
use Rattle.memory_book.specs.declared.journeys.Journey.{Journey}
use Rattle.memory_book.specs.declared.mem_book.MemBook.{MemBook}
use Rattle.memory_book.proofs.GrowthLemmas.{TellEach-set, keeps_book}
use Rattle.memory_book.proofs.PlaceLemmas.{map-set}
use Rattle.memory_book.proofs.TellLemmas.{tells-same}

-- Items that may be made.

-- a save-point is taken between the first step and the last
pub save_said-next : (plan : Planned) (c : Cursor) (marks : set.FinSet nat_cmp) (taken : List ℕ)
    → IsPlaced plan c taken → step_count plan ≤ most_steps
    → IfOk (save_said plan c marks) (IsNext plan c)
save_said-next plan c marks taken placed few = grind (arith, ltb-true)

-- an item that is next is in the plan
pub in_plan : (plan : Planned) (cursor : Cursor) (taken : List ℕ) (x : Item)
    → IsPlaced plan cursor taken → IsNext plan cursor x → IsInPlan plan x
in_plan plan cursor taken x placed next = grind arith

-- an item that is next is within the numbers of the plan
pub next_within : (plan : Planned) (cursor : Cursor) (taken : List ℕ) (x : Item)
    → IsPlaced plan cursor taken → IsNext plan cursor x → IsWithin (step_count plan) cursor x
next_within plan cursor taken x placed next = grind (arith, in_plan)

-- After an item.

-- there is a journey at each place
pub a_journey : (ks : List Journey) (i : ℕ) → i < length ks
    → (k : Journey) × (slice_get ks i ≡ Some k)
a_journey [] i within = absurd (omega arith)
a_journey (k ∷ ks) zero within = (k, refl)
a_journey (k ∷ ks) (suc i) within = a_journey ks i (omega arith)

-- two journeys are the same, except for their capacity, if these parts are the same
pub same_by : (old new : Journey) → new.id ≡ old.id → begun_as new ≡ begun_as old → new.items.items ≡ old.items.items
    → new.cursor ≡ old.cursor → new.marks ≡ old.marks → new.taken.items ≡ old.taken.items
    → IsSameJourney old new
same_by old new number begun items cursor marks taken = record {
  number = number;
  begun = begun;
  items = items;
  cursor = cursor;
  marks = marks;
  taken = taken;
}

-- an item that may be made at a place is next there after capacity was reserved
pub next-same : (m : MemBook) (place : ℕ) (old kept : Journey) (x : Item)
    → place < length m.journeys.items → old ≡ get_or m.journeys.items place old
    → begun_as kept ≡ begun_as old → kept.cursor ≡ old.cursor
    → MayBeMade m place (Ok x) → IsNext kept.plan kept.cursor x
next-same m place old kept x within read begun cursor may = grind (arith, slice_get_read)

-- the book represents the same state, if a journey has more capacity and the same replies are kept
pub keeps-reserved : (m n : MemBook) (s : State) (place : ℕ) (old kept : Journey) → StandsFor m s
    → place < length m.journeys.items → old ≡ get_or m.journeys.items place old
    → n.journeys.items ≡ slice_set m.journeys.items place kept → IsSameJourney old kept
    → n.stock ≡ m.stock → n.batches.items ≡ m.batches.items
    → AreKeptAlike (kept_in n.answers) (kept_in m.answers) → n.events ≡ m.events → StandsFor n s
keeps-reserved m n s place old kept here within read written same =
    let ks = m.journeys.items in
    let at = slice_get_read ks _ place old refl within read in
    keeps_book m n s here
    (ap (map begun_as) written ∙ map-set begun_as ks place kept old at same.begun)
    (subst (λ js. TellEach js s.ledger) (sym written)
    (TellEach-set ks place kept s.ledger s.ledger here.told
    (tells-same old kept (suc place) (history s.ledger (suc place)) same (here.told place old at)) (λ i other. refl)))
