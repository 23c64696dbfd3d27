-- What one more event changes of the places that are held of a cell. For each desk that stores how many are free.
use Rattle.std.proofs.Common.{◌≡◌, ℕ, ◌+◌, ◌≤◌, List, [], ◌∷◌, ◌++◌, length, ap, arith, subst, true, if◌then◌else◌, Some, None, IsTrue, unwrap_or}
use Rattle.allotment.specs.Cells.{wants_cell}
use Rattle.allotment.specs.Want.{Wanted}
use Rattle.allotment.specs.declared.cells.Cell.{Cell}
use Rattle.plan.specs.PlanModel.{Planned, want_at}
use Rattle.commands.specs.declared.items.Cause.{Cause}
use Rattle.commands.specs.declared.items.Item.TheVariants.{Transaction, Compensation, Turn, Save}
use Rattle.ledger.specs.History.{next_want}
use Rattle.ledger.specs.Ledger.{Event, Began, Did, Journey, journeys, journey_at, history, allotment, places_in, held, fits, is_allowed, IsLegal}
use Rattle.ledger.proofs.Coming.{step-comes}
use Rattle.ledger.proofs.Places as places
use Rattle.ledger.proofs.Ledgers.{all_go}
use Rattle.ledger.proofs.Places.{no_cell_overfull, held-did}
pub use Rattle.ledger.proofs.Places.{held-loaded}
use Rattle.ledger.proofs.Lists.{number-within}
pub use Rattle.ledger.proofs.Allotments.{allotment-began, allotment-did, allotment-loaded}
use Rattle.ledger.proofs.Histories.{follows, may_come-allowed}
use Rattle.ledger.proofs.Items as items
use Rattle.ledger.proofs.Standing.{net-turn, net-save}

-- the number of a journey is one from 1 to how many there are
pub number_within : (l : List Event) (j : ℕ) (a : Journey) → journey_at l j ≡ Some a
    → (1 ≤ j) × (j ≤ length (journeys l))
number_within l j a e = let within = number-within (journeys l) j a e in (within.0, omega arith)

-- a begin leaves what is held
pub held-began : (l : List Event) (agent : List ℕ) (plan : Planned) (x : Cell) → IsLegal l
    → held (l ++ Began agent plan ∷ []) x ≡ held l x
held-began l agent plan x legal = places.held-began l agent plan x (all_go l legal)

-- a transaction holds the places of its want
pub held-transaction : (l : List Event) (j i c : ℕ) (a : Journey) (x : Cell)
    → journey_at l j ≡ Some a
    → held (l ++ Did j (Transaction i c) ∷ []) x ≡ held l x + places_in x (want_at a.plan i c)
held-transaction l j i c a x at =
    omega (arith, held-did l j (Transaction i c) a x at, places.held_by-transaction a.plan (history l j) i c x)

-- its compensation releases the places of its want
pub held-compensation : (l : List Event) (j i c : ℕ) (a : Journey) (x : Cell) → IsLegal l
    → journey_at l j ≡ Some a → IsTrue (is_allowed l (Did j (Compensation i c)))
    → held l x ≡ held (l ++ Did j (Compensation i c) ∷ []) x + places_in x (want_at a.plan i c)
held-compensation l j i c a x legal at may =
    let h = history l j in
    let left = items.net-compensation a.plan h (fits l (next_want a.plan h)) i c (follows l legal j a at)
    (may_come-allowed l j a (Compensation i c) at may) in
    omega (arith, held-did l j (Compensation i c) a x at, places.held_by-more a.plan h (h ++ Compensation i c ∷ []) i c x left)

-- a turn leaves what is held
pub held-turn : (l : List Event) (j p : ℕ) (cause : Cause) (a : Journey) (x : Cell)
    → journey_at l j ≡ Some a → held (l ++ Did j (Turn p cause) ∷ []) x ≡ held l x
held-turn l j p cause a x at = grind (arith, held-did l j (Turn p cause) a x at, places.held_by-same, net-turn)

-- a save-point leaves what is held
pub held-save : (l : List Event) (j p : ℕ) (a : Journey) (x : Cell)
    → journey_at l j ≡ Some a → held (l ++ Did j (Save p) ∷ []) x ≡ held l x
held-save l j p a x at = grind (arith, held-did l j (Save p) a x at, places.held_by-same, net-save)

-- a want takes so many places of its own cells
pub places_in-cell : (w : Wanted) (x : Cell) → wants_cell w x ≡ true
    → places_in x (Some w) ≡ w.count
places_in-cell w x e = ap (λ b. if b then w.count else 0) e

-- a transaction that is allowed takes a want that fits
pub transaction_fits : (l : List Event) (j i c : ℕ) (a : Journey) → journey_at l j ≡ Some a
    → IsTrue (is_allowed l (Did j (Transaction i c))) → fits l (want_at a.plan i c) ≡ true
transaction_fits l j i c a at may = grind (arith, step-comes, may_come-allowed)

-- of a cell with an allotment no more than that is held
pub held_within : (l : List Event) (x : Cell) (n : ℕ) → IsLegal l → allotment l x ≡ Some n
    → held l x ≤ n
held_within l x n legal at = subst (λ o. held l x ≤ unwrap_or o 0) at (no_cell_overfull l legal x)

-- of a cell without an allotment nothing is held
pub held_none : (l : List Event) (x : Cell) → IsLegal l → allotment l x ≡ None → held l x ≡ 0
held_none l x legal absent = grind (arith, no_cell_overfull)
