-- The ledger: all events of loads and journeys, in order. What it says of journeys and places, and
-- which ledgers are legal.
use Rattle.std.specs.Prelude.{ℕ, ◌+◌, ◌==◌, ◌&&◌, Bool, false, List, [], ◌∷◌, ◌++◌, length, nat_le, if◌then◌else◌, filter, filter_map, flat_map, sum_by, Option, Some, None, option_map, unwrap_or, bytes_eq, IsTrue}
use Rattle.std.specs.List.{list_all}
use Rattle.allotment.specs.Want.{Wanted}
use Rattle.allotment.specs.Cells.{is_cell, cells_of, wants_cell, numbers_from}
use Rattle.allotment.specs.declared.cells.Cell.{Cell}
use Rattle.allotment.specs.declared.cells.Row.{Row}
use Rattle.plan.specs.PlanModel.{Planned, is_plan, numbered, want_at}
pub use Rattle.commands.specs.Batches.{are_distinct, is_good_row, is_batch}
use Rattle.commands.specs.declared.items.Item.{Item}
use Rattle.commands.specs.declared.items.Phase.{Phase}
use Rattle.ledger.specs.History.{last_of, net, phase, next_want, may_come}

-- one event: a batch was loaded, a journey was begun, or a journey made an item
pub data Event : Type 0 where
  Loaded : (name : List ℕ) (rows : List Row) → Event
  Began : (agent : List ℕ) (plan : Planned) → Event
  Did : (journey : ℕ) (item : Item) → Event

-- a journey as it was begun
pub record Journey : Type 0 where
  pub agent : List ℕ
  pub plan : Planned

-- The parts of a ledger.

-- the journey that this event began, if it began one
abbrev pub begun_by : Event → Option Journey
begun_by (Began agent plan) = Some (record { agent = agent; plan = plan })
begun_by _ = None

-- the journeys, in the order of their numbers, which count from 1
abbrev pub journeys : List Event → List Journey
journeys l = filter_map begun_by l

-- the journey of this number
abbrev pub journey_at : List Event → ℕ → Option Journey
journey_at l j = numbered (journeys l) j

-- the numbers of all journeys
abbrev pub numbers : List Event → List ℕ
numbers l = numbers_from 1 (length (journeys l))

-- the item that this event put into the history of journey j, if it did
abbrev pub item_of : ℕ → Event → Option Item
item_of j (Did k item) = if j == k then Some item else None
item_of j _ = None

-- the history of a journey: its items, in order
abbrev pub history : List Event → ℕ → List Item
history l j = filter_map (item_of j) l

-- the rows that this event loaded
abbrev pub rows_of : Event → List Row
rows_of (Loaded name rows) = rows
rows_of _ = []

-- the allotment of a cell: the places of the last row that was loaded for it
abbrev pub allotment : List Event → Cell → Option ℕ
allotment l x =
    option_map (λ (r : Row). r.places)
    (last_of (filter (λ (r : Row). is_cell x r.cell) (flat_map rows_of l)))

-- the rows of this event, if it loaded a batch of that name
abbrev pub rows_if_named : List ℕ → Event → Option (List Row)
rows_if_named name (Loaded other rows) = if bytes_eq name other then Some rows else None
rows_if_named name _ = None

-- the rows of each batch of that name
abbrev pub batches_named : List Event → List ℕ → List (List Row)
batches_named l name = filter_map (rows_if_named name) l

-- Places.

-- how many places of a cell a want takes
abbrev pub places_in : Cell → Option Wanted → ℕ
places_in x None = 0
places_in x (Some w) = if wants_cell w x then w.count else 0

-- how many places of a cell the standing transactions of a journey hold
abbrev pub held_by : Planned → List Item → Cell → ℕ
held_by plan h x = sum_by (λ (t : ℕ × ℕ). places_in x (want_at plan t.0 t.1)) (net h)

-- how many places of a cell journey j holds
abbrev pub held_by_journey : List Event → Cell → ℕ → ℕ
held_by_journey l x j =
    unwrap_or (option_map (λ (a : Journey). held_by a.plan (history l j) x) (journey_at l j)) 0

-- how many places of a cell all journeys hold
abbrev pub held : List Event → Cell → ℕ
held l x = sum_by (held_by_journey l x) (numbers l)

-- so many places of a cell are free: with what is held they are not above its allotment
abbrev pub has_free : List Event → ℕ → Cell → Bool
has_free l count x =
    unwrap_or (option_map (λ places. nat_le (held l x + count) places) (allotment l x)) false

-- a want fits where each of its cells has an allotment and so many free places
abbrev pub fits : List Event → Option Wanted → Bool
fits l None = false
fits l (Some w) = list_all (has_free l w.count) (cells_of w)

-- What may come next.

-- this item may come next in journey j
abbrev pub may_do : List Event → ℕ → Item → Journey → Bool
may_do l j item a =
    may_come a.plan (history l j) (fits l (next_want a.plan (history l j))) item

-- there is a journey j, and this item may come next in it
abbrev pub is_item_allowed : List Event → ℕ → Item → Bool
is_item_allowed l j item = unwrap_or (option_map (may_do l j item) (journey_at l j)) false

-- the row has at least the places that journeys hold of its cell
abbrev pub is_not_below_held : List Event → Row → Bool
is_not_below_held l r = nat_le (held l r.cell) r.places

-- this event may come next: a good batch with a new name and no row below what is held, a good
-- plan, or an item that may come next in its journey
abbrev pub is_allowed : List Event → Event → Bool
is_allowed l (Loaded name rows) =
    is_batch name rows && list_all (is_not_below_held l) rows
    && (length (batches_named l name) == 0)
is_allowed l (Began agent plan) = is_plan plan
is_allowed l (Did j item) = is_item_allowed l j item

-- each event is allowed by those before it
abbrev pub AreAllowedAfter : List Event → List Event → Type 0
AreAllowedAfter before [] = Unit {0}
AreAllowedAfter before (e ∷ later) =
    IsTrue (is_allowed before e) × AreAllowedAfter (before ++ e ∷ []) later

-- a legal ledger: each event is allowed by those before it, from the first one on
abbrev pub IsLegal : List Event → Type 0
IsLegal l = AreAllowedAfter [] l

-- the phase of journey j, if there is one
abbrev pub phase_of : List Event → ℕ → Option Phase
phase_of l j = option_map (λ (a : Journey). phase a.plan (history l j)) (journey_at l j)

-- there is a journey j, and it is in a phase that passes
abbrev pub is_in : (Phase → Bool) → List Event → ℕ → Bool
is_in passes l j = unwrap_or (option_map passes (phase_of l j)) false
