-- The statements that return cells: which rows they return, their texts, and what these mean.
use Rattle.std.specs.Prelude.{ℕ, ◌==◌, ◌&&◌, Bool, true, false, List, [], ◌∷◌, codes, filter, nat_le, Option, None, Some}
use Rattle.allotment.specs.Cells.{kind_number}
use Rattle.allotment.specs.declared.codes.Kind.{Kind}
use Rattle.saga_core.specs.CellFilters.{is_from, is_name_asked, last_day}
use Rattle.saga_core.specs.declared.cell_filters.CellFilter.{CellFilter}
use Rattle.sqlite.specs.Order.{Row}
use Rattle.sqlite.specs.Store.{Ghosts}
use Rattle.sqlite.specs.Held.{Held}
use Rattle.sqlite.specs.Query.{Query}
use Rattle.sqlite.specs.Term.{Term, col, op2}
use Rattle.sqlite.specs.declared.types.Value.TheVariants.{Text}
use Rattle.sqlite_sql.specs.declared.ops.BinaryOp.TheVariants.{Compare}
use Rattle.sqlite_sql.specs.declared.ops.CompareOp.TheVariants.{Ge, Le}
use Rattle.sqlite_value.specs.declared.keys.Collation.TheVariants.{Binary}
use Rattle.desk_sql.specs.Meanings.{find_stock_query, in_range, is_equal, sorted_rows}
use Rattle.desk_sql.specs.RemainingRows.{IsOnlyOrder, stock_shown}
use Rattle.desk_sql.specs.Rows.{StockRow, Tables}
use Rattle.desk_sql.specs.Stock.{IsByCell}
use Rattle.sql_lists.specs.Listing.{Listing, RestsOf}

-- the row is of this kind, and has the supplier, the product and a night that the filter names
abbrev pub is_row_asked : Kind → CellFilter → StockRow → Bool
is_row_asked kind f s =
    (s.kind == kind_number kind)
    && (is_name_asked f.supplier s.supplier
    && (is_name_asked f.product s.product
    && (is_from f.from s.night && nat_le s.night (last_day f.to))))

-- those cells, in their only order
abbrev pub IsListOf : Kind → CellFilter → Tables → List StockRow → Type 0
IsListOf kind f t listed = IsOnlyOrder IsByCell (filter (is_row_asked kind f) t.stock) listed

-- the texts, by whether a supplier is named, and a product
abbrev pub cells_text : Bool → Bool → List ℕ
cells_text false false = codes "SELECT kind, supplier, product, night, allot, free FROM stock WHERE kind = ?1 AND night BETWEEN ?2 AND ?3 ORDER BY kind, supplier, product, night"
cells_text true false = codes "SELECT kind, supplier, product, night, allot, free FROM stock WHERE kind = ?1 AND supplier = ?2 AND night BETWEEN ?3 AND ?4 ORDER BY kind, supplier, product, night"
cells_text false true = codes "SELECT kind, supplier, product, night, allot, free FROM stock WHERE kind = ?1 AND product = ?2 AND night BETWEEN ?3 AND ?4 ORDER BY kind, supplier, product, night"
cells_text true true = codes "SELECT kind, supplier, product, night, allot, free FROM stock WHERE kind = ?1 AND supplier = ?2 AND product = ?3 AND night BETWEEN ?4 AND ?5 ORDER BY kind, supplier, product, night"

-- the night is not before one parameter, and not after another
abbrev pub is_night_between : ℕ → ℕ → List Term
is_night_between first last =
    op2 (Compare Ge Binary) (col 1 4) (col 0 first) ∷ op2 (Compare Le Binary) (col 1 4) (col 0 last) ∷ []

-- the tests of the texts
abbrev pub cell_tests : Bool → Bool → List Term
cell_tests false false = is_equal (col 1 1) (col 0 0) ∷ is_night_between 1 2
cell_tests true false = is_equal (col 1 1) (col 0 0) ∷ is_equal (col 1 2) (col 0 1) ∷ is_night_between 2 3
cell_tests false true = is_equal (col 1 1) (col 0 0) ∷ is_equal (col 1 3) (col 0 1) ∷ is_night_between 2 3
cell_tests true true = in_range 3 4

-- what the texts mean: the cells that pass, as those of the whole stock are shown, and in the same order
abbrev pub cells_query : Bool → Bool → Query
cells_query supplier product =
    sorted_rows 1 (cell_tests supplier product) find_stock_query.project find_stock_query.order

-- a text, if it is named
abbrev pub named : Option (List ℕ) → Row
named None = []
named (Some name) = Text name ∷ []

-- the text of the statement of the whole stock
abbrev pub stock_text : List ℕ
stock_text = codes "SELECT kind, supplier, product, night, allot, free FROM stock ORDER BY kind, supplier, product, night"

-- the text of any statement, its tests, and what it means: None is that of the whole stock
abbrev pub cell_list_text : Option (Bool × Bool) → List ℕ
cell_list_text None = stock_text
cell_list_text (Some asked) = cells_text asked.0 asked.1

abbrev pub cell_list_tests : Option (Bool × Bool) → List Term
cell_list_tests None = []
cell_list_tests (Some asked) = cell_tests asked.0 asked.1

abbrev pub cell_list_query : Option (Bool × Bool) → Query
cell_list_query statement =
    sorted_rows 1 (cell_list_tests statement) find_stock_query.project find_stock_query.order

abbrev pub cell_list : Listing (Option (Bool × Bool)) StockRow
cell_list = record { text = cell_list_text; query = cell_list_query; shows = stock_shown }

-- these cells remain of one of the statements
abbrev pub CellsRest : {S : Type 0} → Ghosts S → Held S → List StockRow → Type 0
CellsRest g h later = RestsOf cell_list g h later
