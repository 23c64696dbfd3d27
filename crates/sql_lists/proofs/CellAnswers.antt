-- The cells that are asked for, in their only order, are the answer of their query. For `hand_cells`.
use Rattle.std.proofs.Common.{◌≡◌, ℕ, ℤ, ◌<◌, ◌^◌, ◌==◌, ◌&&◌, List, [], ◌∷◌, ◌++◌, filter, true, Option, None, Some, refl, subst, ◌∙◌, Bool, arith, is_some, nat_le}
use Rattle.std.proofs.lemmas.Bool.Decides.{nat_tests}
use Rattle.sqlite.specs.Order.{Row}
use Rattle.sqlite.specs.State.{State}
use Rattle.sqlite.specs.Listing.{understood}
use Rattle.sqlite.specs.Ops.{binary, is_true}
use Rattle.sqlite_sql.specs.declared.ops.BinaryOp.TheVariants.{Compare}
use Rattle.sqlite_sql.specs.declared.ops.CompareOp.TheVariants.{Ge}
use Rattle.sqlite_value.specs.declared.keys.Collation.TheVariants.{Binary}
use Rattle.sqlite_tied.specs.Compute.{everything}
use Rattle.allotment.specs.Cells.{kind_number}
use Rattle.allotment.specs.declared.codes.Kind.{Kind}
use Rattle.saga_core.specs.CellFilters.{first_day, is_from, is_name_asked, last_day}
use Rattle.saga_core.specs.declared.cell_filters.CellFilter.{CellFilter}
use Rattle.desk_sql.specs.declared.versions.Version.{Version}
use Rattle.desk_sql.specs.declared.versions.Version.TheVariants.{One, Two}
use Rattle.desk_sql.specs.Lists.{numbered_row}
use Rattle.desk_sql.specs.Rows.{whole, StockRow, stock_columns}
use Rattle.desk_sql.specs.Stock.{IsByCell}
use Rattle.desk_sql.specs.RemainingRows.{IsOnlyOrder}
use Rattle.desk_sql.proofs.Causing.{Takes}
use Rattle.desk_sql.proofs.Reading.{passes}
use Rattle.desk_sql.proofs.Testing.{and_true, eq_text, eq_whole, ge_whole, le_whole}
use Rattle.sql_lists.specs.CellLists.{IsListOf, cell_list, cell_tests, cells_query, cells_text, named}
use Rattle.sql_lists.proofs.HandedCells.{cells_answer}
use Rattle.sql_lists.proofs.HandedRows.{IsOnlyAnswer}

-- the number of a kind fits the store's integers
pub kind_small : (kind : Kind) → kind_number kind < 2 ^ 63
kind_small kind = grind arith

-- a night is not before the first that is named, if one is
from_test : (first : Option ℕ) (n : ℕ) → is_true (binary (Compare Ge Binary) (whole n) (whole (first_day first))) ≡ is_from first n
from_test None n = ge_whole n 0 ∙ from_zero n
  where
    from_zero : (n : ℕ) → nat_le 0 n ≡ true
    from_zero n = grind (arith, nat_tests)
from_test (Some first) n = ge_whole n first

module _ (kind : ℕ) (first : Option ℕ) (last : ℕ) where
  -- the test of a row, and the parameters
  abbrev pub asked : Option (List ℕ) → Option (List ℕ) → StockRow → Bool
  asked supplier product s =
      (s.kind == kind)
      && (is_name_asked supplier s.supplier && (is_name_asked product s.product && (is_from first s.night && nat_le s.night last)))

  abbrev pub params : Option (List ℕ) → Option (List ℕ) → Row
  params supplier product = whole kind ∷ (named supplier ++ (named product ++ (whole (first_day first) ∷ whole last ∷ [])))

  test_is : (supplier product : Option (List ℕ)) (p : ℤ × StockRow)
      → passes (cell_tests (is_some supplier) (is_some product)) (params supplier product) (numbered_row stock_columns p)
      ≡ asked supplier product p.1
  test_is None None p = simp (eq_whole, from_test, le_whole) (simp and_true)
  test_is (Some supplier) None p = simp (eq_whole, eq_text, from_test, le_whole) (simp and_true)
  test_is None (Some product) p = simp (eq_whole, eq_text, from_test, le_whole) (simp and_true)
  test_is (Some supplier) (Some product) p = simp (eq_whole, eq_text, from_test, le_whole) (simp and_true)

  pub cells_take : (supplier product : Option (List ℕ)) (v : Version)
      → Takes v (cells_text (is_some supplier) (is_some product)) (cells_query (is_some supplier) (is_some product)) (params supplier product)
  unfolding understood everything
  cells_take None None One extra = record { whole = refl; typed = refl }
  cells_take None None Two extra = record { whole = refl; typed = refl }
  cells_take None (Some product) One extra = record { whole = refl; typed = refl }
  cells_take None (Some product) Two extra = record { whole = refl; typed = refl }
  cells_take (Some supplier) None One extra = record { whole = refl; typed = refl }
  cells_take (Some supplier) None Two extra = record { whole = refl; typed = refl }
  cells_take (Some supplier) (Some product) One extra = record { whole = refl; typed = refl }
  cells_take (Some supplier) (Some product) Two extra = record { whole = refl; typed = refl }

-- the cells that a filter names are the answer of the statement of its supplier and its product
pub cells_only : (kind : Kind) (f : CellFilter) (supplier product : Option (List ℕ)) → f.supplier ≡ supplier → f.product ≡ product
    → (seen : State) → IsOnlyAnswer cell_list (Some (is_some supplier, is_some product))
    (params (kind_number kind) f.from (last_day f.to) supplier product) (IsListOf kind f) seen
cells_only kind f supplier product one two seen v t sees later is =
    let test = asked (kind_number kind) f.from (last_day f.to) in
    cells_answer (Some (is_some supplier, is_some product)) (params (kind_number kind) f.from (last_day f.to) supplier product)
    (test supplier product) (test_is (kind_number kind) f.from (last_day f.to) supplier product) seen.now.trees t.stock later sees.rows.stock
    (subst (λ s. IsOnlyOrder IsByCell (filter (test s product) t.stock) later) one
    (subst (λ p. IsOnlyOrder IsByCell (filter (test f.supplier p) t.stock) later) two is))
