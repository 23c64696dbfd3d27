-- The routes of the desk: one table of paths, and what a method and a target ask for.
use Rattle.std.specs.Borrow.{Bor}
use Rattle.std.specs.Prelude.{ℕ, List, [], ◌∷◌, bytes_eq, slice_get, codes, if◌then◌else◌, Option, Some, None, option_map, option_and_then, Result, Ok, Err}
use Rattle.std.specs.Str.{is_utf8}
use Rattle.matchit.specs.Order.{placed}
use Rattle.matchit.specs.Route.{Scan, parse_route}
use Rattle.matchit.specs.Router.{RouteOf, route_from}
use Rattle.matchit.specs.Rows.{RowsOf}
use Rattle.matchit.specs.Seek.{first}
use Rattle.matchit.specs.declared.error.InsertError.{InsertError}
use Rattle.allotment.specs.Limits.{is_code}
use Rattle.allotment.specs.Nights.{night_in}
use Rattle.allotment.specs.Texts.{parts, slash, keep_if, kind_of_word, number_from}
use Rattle.allotment.specs.declared.codes.Kind.{Kind}
use Rattle.commands.specs.Limits.{most_events, most_named_position}
use Rattle.commands.specs.Names.{is_batch_name, is_key}
use Rattle.saga_core.specs.declared.cell_filters.CellFilter.{CellFilter}
use Rattle.http_pages.specs.Verbs.{verb_text}
use Rattle.http_pages.specs.declared.routes.Entry.{Entry}
use Rattle.http_pages.specs.declared.routes.Place.{Place}
use Rattle.http_pages.specs.declared.routes.Place.TheVariants as place
use Rattle.http_pages.specs.declared.routes.Route.{Route}
use Rattle.http_pages.specs.declared.routes.Route.TheVariants.{LoadBatch, Begin, Step, Abort, Save, ShowJourney, ShowPlan, ShowWhy, ShowBegun, ShowUnfinished, ShowStock, ShowCells, ShowMine, ShowHealth, ShowAgent}
use Rattle.http_pages.specs.declared.routes.Unrouted.{Unrouted}
use Rattle.http_pages.specs.declared.routes.Unrouted.TheVariants.{UnknownPath, WrongMethod, BadPart}
use Rattle.http_pages.specs.declared.routes.Verb.{Verb}
use Rattle.http_pages.specs.declared.routes.Verb.TheVariants.{Get, Post}

-- The table.

-- a path, the one method that it has, and what stands there
abbrev pub Line : Type 0
Line = List ℕ × Entry

-- the line of a path, a method and what stands there
abbrev pub line_of : Bor (List ℕ) × Verb × Place → Line
line_of x = (x.0.now, record { verb = x.1; place = x.2 })

-- a path with the method GET
abbrev pub get : List ℕ → Place → Line
get path place = (path, record { verb = Get; place = place })

-- a path with the method POST
abbrev pub post : List ℕ → Place → Line
post path place = (path, record { verb = Post; place = place })

-- the paths of the desk. What stands in braces matches one piece between slashes
abbrev pub table : List Line
table =
    post (codes "/batches/{name}") place.Batch
    ∷ post (codes "/journeys") place.Journeys
    ∷ post (codes "/journeys/{id}/step") place.Step
    ∷ post (codes "/journeys/{id}/abort/{p}") place.Abort
    ∷ post (codes "/journeys/{id}/save") place.Save
    ∷ get (codes "/journeys/{id}") place.Journey
    ∷ get (codes "/journeys/{id}/plan") place.Plan
    ∷ get (codes "/journeys/{id}/why") place.Why
    ∷ get (codes "/journeys/by-key/{key}") place.Begun
    ∷ get (codes "/unfinished") place.Unfinished
    ∷ get (codes "/stock") place.Stock
    ∷ get (codes "/stock/{from}/{to}") place.Cells
    ∷ get (codes "/stock/{from}/{to}/{kind}") place.Cells
    ∷ get (codes "/stock/{from}/{to}/{kind}/{supplier}") place.Cells
    ∷ get (codes "/stock/{from}/{to}/{kind}/{supplier}/{product}") place.Cells
    ∷ get (codes "/mine") place.Mine
    ∷ get (codes "/mine/{after}") place.MineAfter
    ∷ get (codes "/health") place.Health
    ∷ get (codes "/agent") place.Agent
    ∷ []

-- the paths in which `matchit` looks up a target
abbrev pub Known : Type 0
Known = RowsOf (RouteOf Entry)

-- these paths with one more, if it was read
abbrev pub with_read : Result Scan InsertError → Entry → Known → Known
with_read (Ok read) entry known = placed (read.pattern, route_from read entry) known
with_read (Err fault) entry known = known

-- these paths with one more
abbrev pub with_line : Line → Known → Known
with_line line known = with_read (parse_route line.0) line.1 known

-- these paths with more
abbrev pub with_lines : Known → List Line → Known
with_lines known [] = known
with_lines known (line ∷ later) = with_lines (with_line line known) later

-- all paths of the table
unfoldable pub routes : Known
routes = with_lines [] table

-- The parts of a target.

-- the piece of a target between two slashes, counted from 0. A target begins with a slash, so the first piece is empty
abbrev pub piece : List ℕ → ℕ → Option (List ℕ)
piece target place = slice_get (parts slash target) place

-- the journey whose number a text is
abbrev pub journey_in : List ℕ → Option ℕ
journey_in text = number_from 1 most_events text

-- the position that a text is
abbrev pub position_in : List ℕ → Option ℕ
position_in text = number_from 0 most_named_position text

-- the name of a batch that a target has after `/batches/`
abbrev pub name_at : List ℕ → Option (List ℕ)
name_at target = option_and_then (keep_if is_batch_name) (piece target 2)

-- the journey that a target has after `/journeys/`
abbrev pub journey_at : List ℕ → Option ℕ
journey_at target = option_and_then journey_in (piece target 2)

-- the key that a target has after `/by-key/`
abbrev pub key_at : List ℕ → Option (List ℕ)
key_at target = option_and_then (keep_if is_key) (piece target 3)

-- the number above which a target asks for journeys, after `/mine/`
abbrev pub after_at : List ℕ → Option ℕ
after_at target = option_and_then (number_from 0 most_events) (piece target 2)

-- the position that a target has after `/abort/`
abbrev pub position_at : List ℕ → Option ℕ
position_at target = option_and_then position_in (piece target 4)

-- the night that a target has at this place
abbrev pub night_at : List ℕ → ℕ → Option ℕ
night_at target place = option_and_then night_in (piece target place)

-- the value that a target has at this place, if it has a piece there; nothing if the piece is none
abbrev pub if_named : {X : Type 0} → (List ℕ → Option X) → Option (List ℕ) → Option (Option X)
if_named reads None = Some None
if_named reads (Some text) = option_map Some (reads text)

-- the kind that a target names, if it names one
abbrev pub kind_at : List ℕ → Option (Option Kind)
kind_at target = if_named kind_of_word (piece target 4)

-- the supplier or the product that a target names at this place, if it names one
abbrev pub code_at : List ℕ → ℕ → Option (Option (List ℕ))
code_at target place = if_named (keep_if is_code) (piece target place)

-- the cells from one night to another, this one too, of a kind, a supplier and a product, as far as these are named
abbrev pub cells_of : (from to : Option ℕ) (kind : Option (Option Kind)) (supplier product : Option (Option (List ℕ))) → Option CellFilter
cells_of (Some from) (Some to) (Some kind) (Some supplier) (Some product) =
    Some (record { kind = kind; supplier = supplier; product = product; from = Some from; to = Some to })
cells_of _ _ _ _ _ = None

-- the cells that a target asks for after `/stock/`: two nights, and then a kind, a supplier and a product, as far as it has them
abbrev pub cells_at : List ℕ → Option CellFilter
cells_at target = cells_of (night_at target 2) (night_at target 3) (kind_at target) (code_at target 5) (code_at target 6)

-- the turn of a journey to a position
abbrev pub abort_of : Option ℕ → Option ℕ → Option Route
abort_of (Some id) (Some position) = Some (Abort id position)
abort_of _ _ = None

-- What is asked for.

-- what is asked for at a place, if the parts of the target are well formed
abbrev pub asked : Place → List ℕ → Option Route
asked place.Batch target = option_map LoadBatch (name_at target)
asked place.Journeys target = Some Begin
asked place.Step target = option_map Step (journey_at target)
asked place.Abort target = abort_of (journey_at target) (position_at target)
asked place.Save target = option_map Save (journey_at target)
asked place.Journey target = option_map ShowJourney (journey_at target)
asked place.Plan target = option_map ShowPlan (journey_at target)
asked place.Why target = option_map ShowWhy (journey_at target)
asked place.Begun target = option_map ShowBegun (key_at target)
asked place.Unfinished target = Some ShowUnfinished
asked place.Stock target = Some ShowStock
asked place.Cells target = option_map ShowCells (cells_at target)
asked place.Mine target = Some (ShowMine 0)
asked place.MineAfter target = option_map ShowMine (after_at target)
asked place.Health target = Some ShowHealth
asked place.Agent target = Some ShowAgent

-- what was asked for, or that a part is malformed
abbrev pub good_parts : Option Route → Result Route Unrouted
good_parts (Some route) = Ok route
good_parts None = Err BadPart

-- what a method asks for at a path that was found: the path's own method first, then the parts
abbrev pub asked_by : List ℕ → List ℕ → Entry → Result Route Unrouted
asked_by method target entry =
    if bytes_eq method (verb_text entry.verb) then good_parts (asked entry.place target)
    else Err (WrongMethod entry.verb)

-- what a method asks for at the path that was found, if one was
abbrev pub found_route : List ℕ → List ℕ → Option (RouteOf Entry) → Result Route Unrouted
found_route method target (Some found) = asked_by method target found.value
found_route method target None = Err UnknownPath

-- what a method and a target ask for. A target that is not UTF-8 has no path
abbrev pub route_of : List ℕ → List ℕ → Result Route Unrouted
route_of method target =
    if is_utf8 target then found_route method target (first routes target) else Err UnknownPath
