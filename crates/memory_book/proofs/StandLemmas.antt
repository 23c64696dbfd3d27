-- What a book in memory shows, by the state that it represents. For the reads of the book.
use Rattle.std.proofs.Common.{◌≡◌, ℕ, suc, ◌<◌, ◌⊎◌, List, [], length, ap, sym, ◌∙◌, subst, arith, slice_get, option_map, Some, None}
use Rattle.std.proofs.lemmas.Option.{slice_get-map, slice_get_past}
use Rattle.ledger.specs.Answer.{State}
use Rattle.ledger.specs.Ledger.{Event, journey_at, history}
use Rattle.ledger.proofs.Events.{history-none}
use Rattle.saga_core.specs.Views.{brief_of, brief_of_journey, record_of, record_of_journey}
use Rattle.memory_book.specs.Memory.{begun_as, brief_kept, record_kept, IsKept, StandsFor}
use Rattle.memory_book.specs.declared.journeys.Journey.{Journey}
use Rattle.memory_book.specs.declared.mem_book.MemBook.{MemBook}

-- the journey at a place is the journey with the next number
pub journey_at-kept : (m : MemBook) (s : State) → StandsFor m s → (place : ℕ) (k : Journey)
    → slice_get m.journeys.items place ≡ Some k
    → journey_at s.ledger (suc place) ≡ Some (begun_as k)
journey_at-kept m s here place k at =
    ap (λ js. slice_get js place) (sym here.begun)
    ∙ slice_get-map begun_as m.journeys.items place ∙ ap (option_map begun_as) at

-- no journey has number 0, or a number above the last
pub journey_at-past : (m : MemBook) (s : State) → StandsFor m s → (id : ℕ)
    → (id ≡ 0) ⊎ (length m.journeys.items < id) → journey_at s.ledger id ≡ None
journey_at-past m s here id past = grind (arith, slice_get-map, slice_get_past)

-- a journey that does not exist has no items
pub history-past : (m : MemBook) (s : State) → StandsFor m s → (id : ℕ)
    → (id ≡ 0) ⊎ (length m.journeys.items < id) → history s.ledger id ≡ []
history-past m s here id past =
    history-none s.ledger id here.legal (journey_at-past m s here id past)

-- the journey at a place is the one with the next number
pub is_kept : (m : MemBook) (s : State) → StandsFor m s → (place : ℕ) (k : Journey)
    → slice_get m.journeys.items place ≡ Some k → (j : ℕ) → j ≡ suc place → IsKept s.ledger j k
is_kept m s here place k at j is =
    subst (λ n. IsKept s.ledger n k) (sym is) (record { at = journey_at-kept m s here place k at; told = here.told place k at })

-- what is kept of a journey is what the ledger shows of it
pub record_of-kept : (l : List Event) (j : ℕ) (k : Journey) → IsKept l j k → record_of l j ≡ Some (record_kept k)
record_of-kept l j k is =
    ap (option_map (record_of_journey (history l j))) is.at
    ∙ (λ i. Some (record { agent = k.agent; plan = k.plan; cursor = sym is.told.cursor i; marks = sym is.told.marks i }))

-- and its summary
pub brief_of-kept : (l : List Event) (j : ℕ) (k : Journey) → IsKept l j k → brief_of l j ≡ Some (brief_kept k)
brief_of-kept l j k is =
    ap (option_map (brief_of_journey j (history l j))) is.at
    ∙ (λ i. Some (record { id = sym is.told.number i; agent = k.agent; cursor = sym is.told.cursor i }))
