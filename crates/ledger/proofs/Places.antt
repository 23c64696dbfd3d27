-- How many places of a cell are held, as events come, and that in every legal ledger no cell holds more than its allotment.
-- For the law of places.
use Rattle.std.proofs.Common.{◌≡◌, ℕ, ◌+◌, ◌≤◌, List, [], ◌∷◌, ◌++◌, length, refl, ap, arith, eq-eqb, Option, Some, option_map, sum_by, ne_eqb, unwrap_or, ◌∙◌, true, false, nat_le, None, inl, inr}
use Rattle.std.proofs.lemmas.List.Sums.{sum_by-cons, sum_by-append, sum_by_push}
use Rattle.allotment.specs.Cells.{numbers_from, is_cell, cells_of, wants_cell}
use Rattle.allotment.specs.declared.cells.Cell.{Cell}
use Rattle.plan.specs.PlanModel.{Planned, want_at}
use Rattle.commands.specs.declared.items.Item.{Item}
use Rattle.commands.specs.declared.items.Item.TheVariants.{Transaction, Compensation, Turn, Save}
use Rattle.ledger.specs.Ledger.{Event, Loaded, Began, Did, Journey, journeys, journey_at, history, places_in, held_by, held_by_journey, held, allotment, has_free, fits, is_allowed, may_do, IsLegal}
use Rattle.ledger.proofs.Growing.{journey_at-began, journeys-loaded, journeys-did, history-began, history-loaded, history-did_same, history-did_other, Keeps, induct, is_item_allowed-may_do, absurd_item}
use Rattle.ledger.proofs.Ledgers.{AllGo, all_go}
use Rattle.ledger.proofs.Lists.{number-within, numbered-past, list_any-and_all}
use Rattle.ledger.proofs.Numbers.{sum_by-same, sum_by-filter, sum_by-changed}
use Rattle.ledger.proofs.Standing.{net-transaction, net-compensation, net-turn, net-save}
use Rattle.ledger.proofs.Events.{numbers-began, journey_at-next}
use Rattle.ledger.specs.History.{net, next_want}
use Rattle.std.proofs.lemmas.Bool.{leb-true, and_parts, cases_Bool}
use Rattle.allotment.specs.Want.{Wanted}
use Rattle.allotment.specs.declared.cells.Row.{Row}
use Rattle.ledger.specs.Laws.{NoCellIsOverfull}
use Rattle.ledger.proofs.Allotments.{allotment-same, allotment-room}
use Rattle.ledger.proofs.Cells.{is_cell-same}
use Rattle.ledger.proofs.Coming.{step-comes}

-- what a journey, if there is one, holds by its history
abbrev held_in : Cell → List Item → Option Journey → ℕ
held_in x h o = unwrap_or (option_map (λ (a : Journey). held_by a.plan h x) o) 0

-- Batches and begins.

-- a batch changes nothing that is held
pub held-loaded : (l : List Event) (name : List ℕ) (rows : _) (x : Cell)
    → held (l ++ Loaded name rows ∷ []) x ≡ held l x
held-loaded l name rows x = search (arith, journeys-loaded, sum_by-same, history-loaded)

-- a journey that is begun holds nothing, and the others hold what they held
held_by_journey-began : (l : List Event) (agent : List ℕ) (plan : Planned) (x : Cell) → AllGo l
    → (j : ℕ) → held_by_journey (l ++ Began agent plan ∷ []) x j ≡ held_by_journey l x j
held_by_journey-began l agent plan x all j =
    let at = journey_at-began l agent plan j in let past = history-began l agent plan j in
    grind (arith, numbered-past, all.none j)

-- a begin changes nothing that is held
pub held-began : (l : List Event) (agent : List ℕ) (plan : Planned) (x : Cell) → AllGo l
    → held (l ++ Began agent plan ∷ []) x ≡ held l x
held-began l agent plan x all = grind (arith, held_by_journey-began, journey_at-next, sum_by-same, numbers-began, sum_by_push)

-- Items.

-- an item changes what is held as it changes what its own journey holds
pub held-did : (l : List Event) (k : ℕ) (item : Item) (a : Journey) (x : Cell) → journey_at l k ≡ Some a
    → held (l ++ Did k item ∷ []) x + held_by a.plan (history l k) x
    ≡ held l x + held_by a.plan (history l k ++ item ∷ []) x
held-did l k item a x at =
    let within = number-within (journeys l) k a at in
    let sums = sum_by-changed (held_by_journey l x) (held_by_journey (l ++ Did k item ∷ []) x) k 1
    (length (journeys l)) other within.0 within.1 in
    let all = ap (λ js. sum_by (held_by_journey (l ++ Did k item ∷ []) x) (numbers_from 1 (length js))) (journeys-did l k item) in
    let old = ap (held_in x (history l k)) at in
    let new : held_by_journey (l ++ Did k item ∷ []) x k ≡ held_by a.plan (history l k ++ item ∷ []) x =
    rw (journeys-did l k item, history-did_same l k item k (eq-eqb k k refl), at) refl in
    omega arith
  where
    other : (j : ℕ) → (j ≡ k → ⊥) → held_by_journey (l ++ Did k item ∷ []) x j ≡ held_by_journey l x j
    other j apart = search (arith, history-did_other, ne_eqb, journeys-did)

-- What an item of a journey does to what that journey holds.

-- one transaction more that stands holds the places of its want
pub held_by-more : (plan : Planned) (g h : List Item) (i c : ℕ) (x : Cell) → net g ≡ net h ++ (i, c) ∷ []
    → held_by plan g x ≡ held_by plan h x + places_in x (want_at plan i c)
held_by-more plan g h i c x more = grind (arith, sum_by-append, sum_by-cons)

-- a transaction adds the places of its want
pub held_by-transaction : (plan : Planned) (h : List Item) (i c : ℕ) (x : Cell)
    → held_by plan (h ++ Transaction i c ∷ []) x
    ≡ held_by plan h x + places_in x (want_at plan i c)
held_by-transaction plan h i c x = held_by-more plan (h ++ Transaction i c ∷ []) h i c x (net-transaction h i c)

-- a compensation only takes transactions away, so no more is held than before
pub held_by-compensation : (plan : Planned) (h : List Item) (i c : ℕ) (x : Cell)
    → held_by plan (h ++ Compensation i c ∷ []) x ≤ held_by plan h x
held_by-compensation plan h i c x = grind (arith, net-compensation, sum_by-filter)

-- an item that leaves what stands leaves what is held
pub held_by-same : (plan : Planned) (g h : List Item) (x : Cell) → net g ≡ net h → held_by plan g x ≡ held_by plan h x
held_by-same plan g h x same = grind arith

-- What fits leaves room.

-- so many free places are room for so many
free-room : (n count : ℕ) (o : Option ℕ)
    → unwrap_or (option_map (λ places. nat_le (n + count) places) o) false ≡ true
    → n + count ≤ unwrap_or o 0
free-room n count o e = grind (arith, leb-true)

-- with a want that fits no cell holds more than its allotment: its own cells have room for it, and
-- it takes nothing of the others
fits-room : (l : List Event) (x : Cell) (o : Option Wanted)
    → held l x ≤ unwrap_or (allotment l x) 0 → fits l o ≡ true
    → held l x + places_in x o ≤ unwrap_or (allotment l x) 0
fits-room l x None room e = cc
fits-room l x (Some w) room e = elim (cases_Bool (wants_cell w x)) [
  | inr no_want ↦ grind arith
  | inl want ↦
      (let found = list_any-and_all (is_cell x) (has_free l w.count) (cells_of w) want e in
      let free = free-room (held l x) w.count (allotment l x)
      (ap (has_free l w.count) (is_cell-same x found.0 found.1) ∙ found.2) in
      grind arith)
]

-- Each event leaves room.

-- an item leaves room if what it adds has room
did-room : (l : List Event) (k : ℕ) (item : Item) (a : Journey) (x : Cell) (more : ℕ) → journey_at l k ≡ Some a
    → held_by a.plan (history l k ++ item ∷ []) x ≤ held_by a.plan (history l k) x + more
    → held l x + more ≤ unwrap_or (allotment l x) 0
    → held (l ++ Did k item ∷ []) x ≤ unwrap_or (allotment (l ++ Did k item ∷ []) x) 0
did-room l k item a x more at adds room = grind (arith, held-did, allotment-same)

-- only a transaction adds to what is held: the places of its want, which is the one that fits
item-room : (l : List Event) (k : ℕ) (a : Journey) (item : Item) → journey_at l k ≡ Some a
    → may_do l k item a ≡ true → NoCellIsOverfull l → NoCellIsOverfull (l ++ Did k item ∷ [])
item-room l k a (Transaction i c) at may room x =
    let want = next_want a.plan (history l k) in
    let comes = step-comes a.plan (history l k) (fits l want) i c may in
    did-room l k (Transaction i c) a x (places_in x want) at (grind (arith, held_by-transaction))
    (fits-room l x want (room x) comes.fitting)
item-room l k a (Compensation i c) at may room x =
    did-room l k _ a x 0 at (omega (arith, held_by-compensation a.plan (history l k) i c x)) (omega (arith, room x))
item-room l k a (Turn p cause) at may room x =
    did-room l k _ a x 0 at (grind (arith, held_by-same, net-turn)) (omega (arith, room x))
item-room l k a (Save p) at may room x =
    did-room l k _ a x 0 at (grind (arith, held_by-same, net-save)) (omega (arith, room x))

-- a batch whose rows are not below what is held
load-room : (l : List Event) (name : List ℕ) (rows : List Row)
    → is_allowed l (Loaded name rows) ≡ true → NoCellIsOverfull l
    → NoCellIsOverfull (l ++ Loaded name rows ∷ [])
load-room l name rows may room x = grind (arith, and_parts, held-loaded, allotment-room)

-- each allowed event keeps room in every cell
room-more : Keeps NoCellIsOverfull
room-more l x legal may room = grind (arith, load-room, allotment-same, held-began, all_go, absurd_item, item-room, is_item_allowed-may_do)

-- no cell of a legal ledger is overfull
pub no_cell_overfull : (l : List Event) → IsLegal l → NoCellIsOverfull l
no_cell_overfull = induct NoCellIsOverfull (λ x. omega arith) room-more
