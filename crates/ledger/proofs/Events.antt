-- What one more event changes of the ledger itself: its length, its journeys and their numbers, their histories, and
-- the batches of a name.
use Rattle.std.proofs.Common.{◌≡◌, ℕ, ◌+◌, List, [], ◌∷◌, ◌++◌, length, refl, ap, arith, append-nil, length-append, eq-eqb, Some, None, if◌then◌else◌, bytes_eq, ne_eqb, add-one}
use Rattle.std.proofs.lemmas.List.Elements.{filter_map-append}
use Rattle.allotment.specs.Cells.{numbers_from}
use Rattle.allotment.specs.declared.cells.Row.{Row}
use Rattle.plan.specs.PlanModel.{Planned, numbered}
use Rattle.commands.specs.declared.items.Item.{Item}
use Rattle.ledger.specs.Ledger.{Event, Loaded, Began, Did, Journey, journeys, journey_at, numbers, history, batches_named, IsLegal}
pub use Rattle.ledger.proofs.Growing.{journeys-loaded, journeys-began, journeys-did, history-loaded, history-began}
use Rattle.ledger.proofs.Growing.{journey_at-began}
use Rattle.ledger.proofs.Growing as growing
use Rattle.ledger.proofs.Ledgers.{all_go}
use Rattle.ledger.proofs.Lists.{numbered-past}
use Rattle.ledger.proofs.Numbers.{numbers_from-append}

-- The length.

-- an event makes the ledger longer by one
pub length-more : (l : List Event) (e : Event) → length (l ++ e ∷ []) ≡ length l + 1
length-more l e = length-append l (e ∷ [])

-- Journeys.

-- the journey that a begin makes
abbrev pub begun : List ℕ → Planned → Journey
begun agent plan = record { agent = agent; plan = plan }

-- a begin adds one journey
pub journey_count-began : (l : List Event) (agent : List ℕ) (plan : Planned)
    → length (journeys (l ++ Began agent plan ∷ [])) ≡ length (journeys l) + 1
journey_count-began l agent plan = grind (arith, journeys-began, length-append)

-- a batch leaves each journey
pub journey_at-loaded : (l : List Event) (name : List ℕ) (rows : List Row) (j : ℕ)
    → journey_at (l ++ Loaded name rows ∷ []) j ≡ journey_at l j
journey_at-loaded l name rows j = ap (λ js. numbered js j) (journeys-loaded l name rows)

-- an item leaves each journey
pub journey_at-did : (l : List Event) (k : ℕ) (item : Item) (j : ℕ)
    → journey_at (l ++ Did k item ∷ []) j ≡ journey_at l j
journey_at-did l k item j = ap (λ js. numbered js j) (journeys-did l k item)

-- the journey that is begun has the next number
pub journey_at-began_new : (l : List Event) (agent : List ℕ) (plan : Planned)
    → journey_at (l ++ Began agent plan ∷ []) (length (journeys l) + 1) ≡ Some (begun agent plan)
journey_at-began_new l agent plan = grind (arith, journey_at-began)

-- at each other number a begin changes nothing
pub journey_at-began_other : (l : List Event) (agent : List ℕ) (plan : Planned) (j : ℕ)
    → (j ≡ length (journeys l) + 1 → ⊥)
    → journey_at (l ++ Began agent plan ∷ []) j ≡ journey_at l j
journey_at-began_other l agent plan j other = grind (arith, journey_at-began)

-- before a begin no journey has the next number
pub journey_at-next : (l : List Event) → journey_at l (length (journeys l) + 1) ≡ None
journey_at-next l = rw add-one (numbered-past (journeys l))

-- Numbers.

-- a batch leaves the numbers of the journeys
pub numbers-loaded : (l : List Event) (name : List ℕ) (rows : List Row)
    → numbers (l ++ Loaded name rows ∷ []) ≡ numbers l
numbers-loaded l name rows = ap (λ js. numbers_from 1 (length js)) (journeys-loaded l name rows)

-- an item leaves the numbers of the journeys
pub numbers-did : (l : List Event) (k : ℕ) (item : Item)
    → numbers (l ++ Did k item ∷ []) ≡ numbers l
numbers-did l k item = ap (λ js. numbers_from 1 (length js)) (journeys-did l k item)

-- a begin adds the next number
pub numbers-began : (l : List Event) (agent : List ℕ) (plan : Planned)
    → numbers (l ++ Began agent plan ∷ []) ≡ numbers l ++ (length (journeys l) + 1) ∷ []
numbers-began l agent plan = grind (arith, journey_count-began, numbers_from-append)

-- Histories.

-- an item is appended to its journey's history
pub history-did_same : (l : List Event) (j : ℕ) (item : Item)
    → history (l ++ Did j item ∷ []) j ≡ history l j ++ item ∷ []
history-did_same l j item = growing.history-did_same l j item j (eq-eqb j j refl)

-- an item leaves each other history
pub history-did_other : (l : List Event) (k : ℕ) (item : Item) (j : ℕ) → (j ≡ k → ⊥)
    → history (l ++ Did k item ∷ []) j ≡ history l j
history-did_other l k item j other = growing.history-did_other l k item j (ne_eqb j k other)

-- a number without a journey has no history
pub history-none : (l : List Event) (j : ℕ) → IsLegal l → journey_at l j ≡ None → history l j ≡ []
history-none l j legal absent = (all_go l legal).none j absent

-- a journey that is begun has no history yet
pub history-began_new : (l : List Event) (agent : List ℕ) (plan : Planned) → IsLegal l
    → history (l ++ Began agent plan ∷ []) (length (journeys l) + 1) ≡ []
history-began_new l agent plan legal = simp (history-began, history-none, journey_at-next)

-- Batches.

-- a batch is appended to those of its name
pub batches_named-loaded : (l : List Event) (other : List ℕ) (rows : List Row) (name : List ℕ)
    → batches_named (l ++ Loaded other rows ∷ []) name
    ≡ batches_named l name ++ (if bytes_eq name other then rows ∷ [] else [])
batches_named-loaded l other rows name = grind (arith, filter_map-append)

-- a begin is no batch
pub batches_named-began : (l : List Event) (agent : List ℕ) (plan : Planned) (name : List ℕ)
    → batches_named (l ++ Began agent plan ∷ []) name ≡ batches_named l name
batches_named-began l agent plan name = grind (arith, filter_map-append, append-nil)

-- an item is no batch
pub batches_named-did : (l : List Event) (k : ℕ) (item : Item) (name : List ℕ)
    → batches_named (l ++ Did k item ∷ []) name ≡ batches_named l name
batches_named-did l k item name = grind (arith, filter_map-append, append-nil)
