-- The statement that returns the options that hold places of the cells that a filter lets through, night by night: which
-- rows it returns, its text, and what this means.
use Rattle.std.specs.Prelude.{◌≡◌, ◌<◌, ◌+◌, ◌^◌, ℕ, pos, ◌==◌, ◌&&◌, Bool, false, List, [], ◌∷◌, bytes_eq, codes, filter, map, string_bytes, IsUtf8, Option, None, Some, ⊤}
use Rattle.std.specs.List.{AllByRecursion, flat_map}
use Rattle.std.specs.Ordering.{is_lt, nat_cmp, ordering_then}
use Rattle.std.specs.Cmp.Lexicographic.{slice_cmp}
use Rattle.std.specs.declared.cmp.Ordering.{Ordering}
use Rattle.allotment.specs.Cells.{kind_number}
use Rattle.allotment.specs.declared.codes.Kind.{Kind}
use Rattle.saga_core.specs.CellFilters.{is_kind_asked, is_name_asked, is_night_asked}
use Rattle.saga_core.specs.declared.cell_filters.CellFilter.{CellFilter}
use Rattle.sqlite.specs.Order.{Row}
use Rattle.sqlite.specs.Store.{Ghosts}
use Rattle.sqlite.specs.Held.{Held}
use Rattle.sqlite.specs.Query.{Query, inner, end}
use Rattle.sqlite.specs.Term.{Term, col, lit, op1, op2}
use Rattle.sqlite.specs.Values.{bound_value}
use Rattle.sqlite.specs.declared.types.Value.{Value}
use Rattle.sqlite.specs.declared.types.Value.TheVariants.{Int, Null, Text}
use Rattle.sqlite_sql.specs.declared.ops.UnaryOp.TheVariants.{ToNumeric}
use Rattle.sqlite_sql.specs.declared.ops.BinaryOp.TheVariants.{Arith, Coalesce, Compare}
use Rattle.sqlite_sql.specs.declared.ops.ArithOp.TheVariants.{Add}
use Rattle.sqlite_sql.specs.declared.ops.CompareOp.TheVariants.{Ge, Le, Lt}
use Rattle.sqlite_value.specs.Value.{owned}
use Rattle.sqlite_value.specs.declared.value.ValueRef.{ValueRef}
use Rattle.sqlite_value.specs.declared.keys.Collation.TheVariants.{Binary}
use Rattle.sqlite_value.specs.declared.keys.Key.{Key}
use Rattle.desk_sql.specs.Meanings.{is_equal, rising, sorted_rows}
use Rattle.desk_sql.specs.Readable.{AreCellTexts}
use Rattle.desk_sql.specs.RemainingRows.{IsOnlyOrder}
use Rattle.desk_sql.specs.Rows.{whole, JourneyRow, StepRow, StockRow, Tables}
use Rattle.desk_sql.specs.Stock.{stock_of}
use Rattle.sql_lists.specs.HolderLists.{is_night_of}
use Rattle.sql_lists.specs.Listing.{Listing, RestsOf}
use Rattle.sql_lists.specs.declared.holdings.HoldingFound.{HoldingFound}

-- the row is of a cell that the filter lets through
abbrev pub is_stock_asked : CellFilter → StockRow → Bool
is_stock_asked f c =
    is_kind_asked f.kind c.kind
    && (is_name_asked f.supplier c.supplier
    && (is_name_asked f.product c.product && is_night_asked f.from f.to c.night))

-- the option was taken, and its want has the row's cell
abbrev pub is_held_in : StockRow → StepRow → Bool
is_held_in c s =
    (s.taken == 1)
    && ((s.kind == c.kind)
    && (bytes_eq s.supplier c.supplier && (bytes_eq s.product c.product && is_night_of s.night s.nights c.night)))

-- a row of stock, one of step and one of journey
pub record Joined : Type 0 where
  pub cell : StockRow
  pub step : StepRow
  pub journey : JourneyRow

abbrev pub join : StockRow → StepRow → JourneyRow → Joined
join c s j = record { cell = c; step = s; journey = j }

-- the option holds places of the cell, which is asked for, and the journey is its own
abbrev pub is_joined : CellFilter → StockRow → StepRow → JourneyRow → Bool
is_joined f c s j = is_stock_asked f c && (is_held_in c s && (j.id == s.journey))

-- all rows that pass together
abbrev pub joined : (StockRow → StepRow → JourneyRow → Bool) → List StockRow → List StepRow → List JourneyRow → List Joined
joined test stock steps journeys =
    flat_map (λ c. flat_map (λ s. map (join c s) (filter (test c s) journeys)) steps) stock

-- cells in order of night, kind, supplier and product
abbrev pub night_cmp : StockRow → StockRow → Ordering
night_cmp a b =
    ordering_then (nat_cmp a.night b.night)
    (ordering_then (nat_cmp a.kind b.kind)
    (ordering_then (slice_cmp nat_cmp a.supplier b.supplier) (slice_cmp nat_cmp a.product b.product)))

-- options in order of journey, step and option
abbrev pub step_cmp : StepRow → StepRow → Ordering
step_cmp a b =
    ordering_then (nat_cmp a.journey b.journey) (ordering_then (nat_cmp a.place b.place) (nat_cmp a.opt b.opt))

-- first by cell, night by night, then by option
abbrev pub joined_cmp : Joined → Joined → Ordering
joined_cmp a b = ordering_then (night_cmp a.cell b.cell) (step_cmp a.step b.step)

-- the second is not before the first
abbrev pub IsByNight : Joined → Joined → Type 0
IsByNight a b = is_lt (joined_cmp b a) ≡ false

-- what is shown of such rows: the cell with its places, the number, agent and phase of the journey, and the places that the
-- option holds
pub record HoldingRow : Type 0 where
  pub cell : StockRow
  pub journey : ℕ
  pub agent : List ℕ
  pub phase : ℕ
  pub places : ℕ

abbrev pub holding_of : Joined → HoldingRow
holding_of r = record {
  cell = r.cell;
  journey = r.journey.id;
  agent = r.journey.agent;
  phase = r.journey.cursor.phase;
  places = r.step.places;
}

-- the rows that pass, in their only order, where the store can count the nights of each option
abbrev pub ListsHoldings : CellFilter → Tables → List HoldingRow → Type 0
ListsHoldings f t listed =
    (rows : List Joined) × IsOnlyOrder IsByNight (joined (is_joined f) t.stock t.step t.journey) rows
    × (listed ≡ map holding_of rows) × AllByRecursion (λ (s : StepRow). s.night + s.nights < 2 ^ 63) t.step

-- the row that was found
abbrev pub holding_found : HoldingFound → HoldingRow
holding_found h = record {
  cell = stock_of h.cell;
  journey = h.journey;
  agent = string_bytes h.agent;
  phase = h.phase;
  places = h.places;
}

-- the text
abbrev pub holdings_text : List ℕ
holdings_text = codes "SELECT stock.kind, stock.supplier, stock.product, stock.night, stock.allot, stock.free, journey.id, journey.agent, journey.phase, step.places FROM stock, step, journey WHERE step.taken = 1 AND step.kind = coalesce(?1, step.kind) AND step.supplier = coalesce(?2, step.supplier) AND step.product = coalesce(?3, step.product) AND stock.night >= coalesce(?4, stock.night) AND stock.night <= coalesce(?5, stock.night) AND step.kind = stock.kind AND step.supplier = stock.supplier AND step.product = stock.product AND step.night <= stock.night AND stock.night < step.night + step.nights AND journey.id = step.journey ORDER BY stock.night, stock.kind, stock.supplier, stock.product, step.journey, step.place, step.opt"

-- a column of a table, if a parameter is NULL, else that parameter
abbrev pub or_column : ℕ → Term → Term
or_column parameter column = op2 Coalesce (col 0 parameter) column

-- the same as a number, since the column is one
abbrev pub or_number : ℕ → Term → Term
or_number parameter column = op1 ToNumeric (or_column parameter column)

-- its tests: more name an option alone than a cell alone, so the library begins with options, and finds cells by their key
abbrev pub holding_tests : List Term
holding_tests =
    is_equal (col 2 5) (lit (Int (pos 1))) ∷ is_equal (col 2 6) (or_number 0 (col 2 6))
    ∷ is_equal (col 2 7) (or_column 1 (col 2 7)) ∷ is_equal (col 2 8) (or_column 2 (col 2 8))
    ∷ op2 (Compare Ge Binary) (col 1 4) (or_number 3 (col 1 4)) ∷ op2 (Compare Le Binary) (col 1 4) (or_number 4 (col 1 4))
    ∷ is_equal (col 2 6) (col 1 1) ∷ is_equal (col 2 7) (col 1 2)
    ∷ is_equal (col 2 8) (col 1 3) ∷ op2 (Compare Le Binary) (col 2 9) (col 1 4)
    ∷ op2 (Compare Lt Binary) (col 1 4) (op2 (Arith Add) (col 2 9) (col 2 10)) ∷ is_equal (col 3 0) (col 2 1) ∷ []

-- the rows of three trees that pass the tests together, in the order of the terms
abbrev pub joined_rows : ℕ → ℕ → ℕ → List Term → List Term → List (Term × Key) → Query
joined_rows a b c filter project order =
    record (sorted_rows a filter project order) { from = inner a (inner b (inner c end)) }

-- what it means
abbrev pub holdings_query : Query
holdings_query =
    joined_rows 1 8 6 holding_tests
    (col 1 1 ∷ col 1 2 ∷ col 1 3 ∷ col 1 4 ∷ col 1 5 ∷ col 1 6 ∷ col 3 0 ∷ col 3 3 ∷ col 3 7 ∷ col 2 11 ∷ [])
    ((col 1 4, rising) ∷ (col 1 1, rising) ∷ (col 1 2, rising) ∷ (col 1 3, rising) ∷ (col 2 1, rising)
    ∷ (col 2 2, rising) ∷ (col 2 3, rising) ∷ [])

abbrev pub holdings_names : List (List ℕ)
holdings_names =
    codes "kind" ∷ codes "supplier" ∷ codes "product" ∷ codes "night" ∷ codes "allot" ∷ codes "free" ∷ codes "id"
    ∷ codes "agent" ∷ codes "phase" ∷ codes "places" ∷ []

-- its parameters: the values that the filter names, and NULL for those that it does not name
abbrev pub kind_param : Option Kind → Value
kind_param None = Null
kind_param (Some kind) = whole (kind_number kind)

abbrev pub name_param : Option (List ℕ) → Value
name_param None = Null
name_param (Some name) = Text name

abbrev pub night_param : Option ℕ → Value
night_param None = Null
night_param (Some night) = whole night

abbrev pub holdings_params : CellFilter → Row
holdings_params f =
    kind_param f.kind ∷ name_param f.supplier ∷ name_param f.product ∷ night_param f.from ∷ night_param f.to ∷ []

-- the value that a parameter has in a statement
abbrev pub value_of : ValueRef → Value
value_of v = bound_value (owned v)

-- the query shows a row in this order
abbrev pub holding_shown : HoldingRow → Row
holding_shown h =
    whole h.cell.kind ∷ Text h.cell.supplier ∷ Text h.cell.product ∷ whole h.cell.night ∷ whole h.cell.allot
    ∷ whole h.cell.free ∷ whole h.journey ∷ Text h.agent ∷ whole h.phase ∷ whole h.places ∷ []

abbrev pub shows_holding : HoldingFound → Row
shows_holding h = holding_shown (holding_found h)

-- the texts of a row are UTF-8
abbrev pub AreHoldingTexts : HoldingRow → Type 0
AreHoldingTexts h = AreCellTexts h.cell × IsUtf8 h.agent

-- it has one statement
abbrev pub holding_list : Listing ⊤ HoldingRow
holding_list = record { text = λ _. holdings_text; query = λ _. holdings_query; shows = holding_shown }

-- these rows remain of the statement
abbrev pub HoldingsRest : {S : Type 0} → Ghosts S → Held S → List HoldingRow → Type 0
HoldingsRest g h later = RestsOf holding_list g h later
