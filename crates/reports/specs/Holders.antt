-- The holders of a cell: the steps of journeys that hold places of it.
use Rattle.std.specs.Prelude.{◌≡◌, ℕ, List, [], filter_map, flat_map, sum_by, if◌then◌else◌, Option, Some, None, option_map, unwrap_or}
use Rattle.allotment.specs.Want.{Wanted}
use Rattle.allotment.specs.Cells.{wants_cell}
use Rattle.allotment.specs.declared.cells.Cell.{Cell}
use Rattle.plan.specs.PlanModel.{Planned, want_at}
use Rattle.commands.specs.declared.items.Item.{Item}
use Rattle.ledger.specs.History.{net}
use Rattle.ledger.specs.Ledger.{Event, Journey, history, journey_at, numbers, held}
use Rattle.reports.specs.declared.holders.Holder.{Holder}

-- a standing transaction of journey j, with this step and option and this want: it is a holder if the want has the cell
abbrev pub holder_if : Cell → ℕ → ℕ × ℕ → Option Wanted → Option Holder
holder_if x j t None = None
holder_if x j t (Some w) =
    if wants_cell w x
    then Some (record { journey = j; step = t.0; option = t.1; places = w.count })
    else None

-- the holders of a cell in the history of journey j: of its standing transactions those whose want has the cell
abbrev pub holders_by : Planned → List Item → Cell → ℕ → List Holder
holders_by plan h x j = filter_map (λ (t : ℕ × ℕ). holder_if x j t (want_at plan t.0 t.1)) (net h)

-- the holders of a cell in journey j, if there is such a journey
abbrev pub holders_in_journey : List Event → Cell → ℕ → List Holder
holders_in_journey l x j =
    unwrap_or (option_map (λ (a : Journey). holders_by a.plan (history l j) x j) (journey_at l j)) []

-- the holders of a cell in all journeys, in order of journey and step
abbrev pub holders_of : List Event → Cell → List Holder
holders_of l x = flat_map (holders_in_journey l x) (numbers l)

-- the places of the holders of each cell are all that is held of it
abbrev pub HoldAllThatIsHeld : List Event → Type 0
HoldAllThatIsHeld l = (x : Cell) → sum_by (λ (h : Holder). h.places) (holders_of l x) ≡ held l x
