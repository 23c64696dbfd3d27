-- What a book reports of a ledger.
use Rattle.std.specs.Prelude.{◌≡◌, ℕ, ◌-◌, ◌&&◌, not, Bool, true, List, length, filter, filter_map, find, nat_lt, bytes_eq, Option, option_map, IfSome, IsTrue, [], ◌∷◌, map}
use Rattle.std.specs.List.{list_all}
use Rattle.std.specs.Ordering.{is_lt, ordering_then, nat_cmp}
use Rattle.std.specs.Cmp.Lexicographic.{slice_cmp}
use Rattle.std.specs.declared.cmp.Ordering.{Ordering}
use Rattle.allotment.specs.Want.{Wanted}
use Rattle.allotment.specs.Cells.{cells_of, is_cell, kind_number}
use Rattle.allotment.specs.declared.cells.Cell.{Cell}
use Rattle.allotment.specs.declared.places.Held.{Held}
use Rattle.commands.specs.declared.items.Item.{Item}
use Rattle.commands.specs.declared.replies.Reply.{Reply}
use Rattle.ledger.specs.History.{is_finished}
use Rattle.ledger.specs.Ledger.{Event, Journey, journeys, journey_at, numbers, history, allotment, held}
use Rattle.ledger.specs.Answer.{KeptReply, State}
pub use Rattle.ledger.specs.Cursors.{cursor_of, marks_of}
use Rattle.saga_core.specs.declared.records.Record.{Record}
use Rattle.saga_core.specs.declared.records.Brief.{Brief}
use Rattle.saga_core.specs.declared.records.Counts.{Counts}
use Rattle.saga_core.specs.declared.records.Trace.{Trace}

abbrev pub record_of_journey : List Item → Journey → Record
record_of_journey h a =
    record { agent = a.agent; plan = a.plan; cursor = cursor_of a.plan h; marks = marks_of h }

-- the journey of this number, if there is one
abbrev pub record_of : List Event → ℕ → Option Record
record_of l j = option_map (record_of_journey (history l j)) (journey_at l j)

abbrev pub brief_of_journey : ℕ → List Item → Journey → Brief
brief_of_journey j h a = record { id = j; agent = a.agent; cursor = cursor_of a.plan h }

abbrev pub brief_of : List Event → ℕ → Option Brief
brief_of l j = option_map (brief_of_journey j (history l j)) (journey_at l j)

-- a trace was found of the journey of this number, if there is one, and it has the journey's brief
abbrev pub TracesBrief : ℕ → State → Option Trace → Type 0
TracesBrief j s found = option_map (λ (t : Trace). t.brief) found ≡ brief_of s.ledger j

-- a trace that was found has the items of the journey of this number
abbrev pub TracesItems : ℕ → State → Option Trace → Type 0
TracesItems j s found = IfSome found (λ (t : Trace). t.items.items ≡ history s.ledger j)

abbrev pub is_unfinished_above : ℕ → Brief → Bool
is_unfinished_above after b = nat_lt after b.id && not (is_finished b.cursor.phase)

-- the unfinished journey with the least number above this one
abbrev pub first_unfinished : List Event → ℕ → Option Brief
first_unfinished l after = find (is_unfinished_above after) (filter_map (brief_of l) (numbers l))

-- the briefs of the unfinished journeys, in order of number
abbrev pub unfinished_of : List Event → List Brief
unfinished_of l =
    filter (λ (b : Brief). not (is_finished b.cursor.phase)) (filter_map (brief_of l) (numbers l))

abbrev pub is_owned_above : List ℕ → ℕ → Brief → Bool
is_owned_above agent after b = nat_lt after b.id && bytes_eq b.agent agent

-- the journeys of this agent above a number, in order of number, whether they are finished or not
abbrev pub owned_above : List Event → List ℕ → ℕ → List Brief
owned_above l agent after = filter (is_owned_above agent after) (filter_map (brief_of l) (numbers l))

-- the reply that is kept for this agent under this key, if one is
abbrev pub kept_under : State → (agent key : List ℕ) → Option Reply
kept_under s agent key = option_map (λ (k : KeptReply). k.reply) (s.kept agent key)

-- how many events, journeys and unfinished journeys a ledger has
abbrev pub counts_of : List Event → Counts
counts_of l = record {
  events = length l;
  journeys = length (journeys l);
  unfinished = length (unfinished_of l);
}

-- the places of a cell: how many are allotted, and how many of them are free
pub record Places : Type 0 where
  pub allot : ℕ
  pub free : ℕ

abbrev pub places_said : Held → Places
places_said held = record { allot = held.allot; free = held.free }

-- the places of a cell, if it has an allotment
abbrev pub places_of : List Event → Cell → Option Places
places_of l x = option_map (λ (n : ℕ). record { allot = n; free = n - held l x }) (allotment l x)

abbrev pub at_night : Cell → Places → ℕ × Places
at_night x places = (x.night, places)

-- the places of a want's nights, without those that have no allotment
abbrev pub places_shown : List Event → Wanted → List (ℕ × Places)
places_shown l w = filter_map (λ x. option_map (at_night x) (places_of l x)) (cells_of w)

abbrev pub night_said : ℕ × Held → ℕ × Places
night_said n = (n.0, places_said n.1)

-- the nights that a call returned are those that the ledger shows of a want
abbrev pub ShowsCells : Wanted → State → List (ℕ × Held) → Type 0
ShowsCells want s cells = map night_said cells ≡ places_shown s.ledger want

-- the places that the list has of a cell
abbrev pub places_at : List (Cell × Held) → Cell → Option Places
places_at rows x =
    option_map (λ (r : Cell × Held). places_said r.1) (find (λ (r : Cell × Held). is_cell x r.0) rows)

-- cells are ordered by kind, supplier, product and night
abbrev pub cell_cmp : Cell → Cell → Ordering
cell_cmp x y =
    ordering_then (nat_cmp (kind_number x.kind) (kind_number y.kind))
    (ordering_then (slice_cmp nat_cmp x.supplier y.supplier) (ordering_then (slice_cmp nat_cmp x.product y.product) (nat_cmp x.night y.night)))

abbrev pub are_in_order : List (Cell × Held) → Bool
are_in_order [] = true
are_in_order (r ∷ later) = list_all (λ (s : Cell × Held). is_lt (cell_cmp r.0 s.0)) later && are_in_order later

-- every cell that has an allotment, once and in order, with its places
pub record IsStock (l : List Event) (rows : List (Cell × Held)) : Type 0 where
  pub each : (x : Cell) → places_at rows x ≡ places_of l x
  pub in_order : IsTrue (are_in_order rows)
