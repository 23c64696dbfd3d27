-- Rows of batches, and the list of all cells. For the stock of a book in memory.
use Rattle.std.proofs.Common.{◌≡◌, ℕ, Bool, true, false, cond, List, [], ◌∷◌, ◌++◌, map, refl, ap, sym, ◌∙◌, append-nil, ◌==◌, ◌&&◌, if◌then◌else◌, filter_map, Option, Some, option_map, arith}
use Rattle.std.specs.Prelude.{unwrap_or}
use Rattle.std.specs.List.{list_all, AllByRecursion}
use Rattle.std.specs.List.Sorted.{IsStrictlySortedBy}
use Rattle.std.specs.Map.{lookup, keys_of}
use Rattle.std.specs.BTreeMap as tree
use Rattle.std.specs.BTreeMap.{is_at}
use Rattle.std.specs.Cmp.Lexicographic.{pointwise}
use Rattle.std.specs.Ordering.{is_lt}
use Rattle.std.specs.declared.cmp.Ordering.TheVariants.{Less}
use Rattle.std.proofs.lemmas.List.Elements.{filter-append}
use Rattle.ledger.specs.History.{last_of}
use Rattle.ledger.proofs.Cells.{is_cell-same}
use Rattle.allotment.specs.Want.{Wanted}
use Rattle.allotment.specs.Cells.{is_cell, cells_of}
use Rattle.allotment.specs.declared.cells.Cell.{Cell}
use Rattle.allotment.specs.declared.cells.Row.{Row}
use Rattle.allotment.specs.declared.places.Held.{Held}
use Rattle.ledger.specs.Ledger.{Event}
use Rattle.ledger.specs.Replies.{are_same_rows}
use Rattle.saga_core.specs.Views.{Places, places_said, places_of, places_at, places_shown, at_night, cell_cmp, are_in_order, IsStock}
use Rattle.memory_book.specs.MemoryStock.{cell_key_cmp, stock_at, set_to, last_row}
use Rattle.commands.specs.declared.batches.CellKey.{CellKey}
use Rattle.memory_book.specs.declared.stock.Stock.{Stock}
use Rattle.memory_book.proofs.CellLemmas.{key_of, is_eq-cells, map-found}

-- Rows.

-- two lists of rows are the same if, row by row, cell and places are the same
pub same_rows : (test : Row → Row → Bool)
    → ((r s : Row) → test r s ≡ (is_cell r.cell s.cell && (r.places == s.places)))
    → (rs ss : List Row) → pointwise test rs ss ≡ are_same_rows rs ss
same_rows test each [] [] = refl
same_rows test each [] (s ∷ ss) = refl
same_rows test each (r ∷ rs) [] = refl
same_rows test each (r ∷ rs) (s ∷ ss) = λ i. each r s i && same_rows test each rs ss i

-- Nights.

-- what is shown of a night
abbrev pub shown_at : (Cell → Option Places) → Cell → Option (ℕ × Places)
shown_at places x = option_map (at_night x) (places x)

-- a stock that has the places of a ledger shows its nights
pub places_shown-stock : (l : List Event) (stock : Stock) (w : Wanted)
    → ((x : Cell) → stock_at stock x ≡ places_of l x)
    → filter_map (shown_at (stock_at stock)) (cells_of w) ≡ places_shown l w
places_shown-stock l stock w here = λ i. filter_map (shown_at (λ x. here x i)) (cells_of w)

-- All cells.

-- an entry as a row
abbrev pub row_of : CellKey × Held → Cell × Held
row_of e = (e.0.cell, e.1)

-- the list has the places of a cell that a look-up finds
places_at-rows : (es : List (CellKey × Held)) (x : Cell)
    → places_at (map row_of es) x
    ≡ option_map places_said (lookup (is_at (cell_key_cmp (key_of x))) es)
places_at-rows [] x = refl
places_at-rows (e ∷ es) x =
    map-found (λ (r : Cell × Held). places_said r.1) (is_cell x e.0.cell) (row_of e) _
    ∙ (λ i. cond (sym (is_eq-cells x e.0.cell) i) (Some (places_said e.1)) (places_at-rows es x i))
    ∙ sym (map-found places_said _ e.1 _)

-- a key below all these keys is a cell before all their cells
before_all : (k : CellKey) (es : List (CellKey × Held))
    → AllByRecursion (λ y. cell_key_cmp k y ≡ Less) (keys_of es)
    → list_all (λ (s : Cell × Held). is_lt (cell_cmp k.cell s.0)) (map row_of es) ≡ true
before_all k [] all = refl
before_all k (e ∷ es) all = grind (arith, before_all k es all.1)

-- keys in order are cells in order
in_order-rows : (es : List (CellKey × Held)) → IsStrictlySortedBy cell_key_cmp (keys_of es)
    → are_in_order (map row_of es) ≡ true
unfolding IsStrictlySortedBy
in_order-rows [] sorted = refl
in_order-rows (e ∷ es) sorted =
    ap (λ b. b && are_in_order (map row_of es)) (before_all e.0 es sorted.0)
    ∙ in_order-rows es sorted.1

-- all cells with their places are the stock of the ledger
pub IsStock-rows : (l : List Event) (stock : Stock)
    → ((x : Cell) → stock_at stock x ≡ places_of l x)
    → tree.IsOrdered cell_key_cmp stock.places
    → IsStock l (map row_of stock.places.entries)
IsStock-rows l stock here ordered = grind (arith, places_at-rows, in_order-rows)

-- Loads.

-- the last element of a list with one appended is that one
last_of-push : (rs : List Row) (r : Row) → last_of (rs ++ r ∷ []) ≡ Some r
last_of-push [] r = refl
last_of-push (q ∷ []) r = refl
last_of-push (q ∷ p ∷ rs) r = last_of-push (p ∷ rs) r

-- the last row of a cell, of rows with one appended, is that one if it is of the cell
last_row-push : (rs : List Row) (r : Row) (x : Cell)
    → last_row (rs ++ r ∷ []) x ≡ (if is_cell x r.cell then Some r else last_row rs x)
last_row-push rs r x = grind (arith, filter-append, last_of-push, append-nil)

-- the places of a cell after these rows are loaded
abbrev pub loaded_at : Stock → List Row → Cell → Option Places
loaded_at stock rows x =
    unwrap_or (option_map (λ (r : Row). Some (set_to stock x r.places)) (last_row rows x))
    (stock_at stock x)

-- after one more row is loaded, its cell has its places
pub loaded_at-push : (stock : Stock) (rs : List Row) (r : Row) (x : Cell) (p : Places)
    → p ≡ set_to stock r.cell r.places
    → (if is_cell x r.cell then Some p else loaded_at stock rs x)
    ≡ loaded_at stock (rs ++ r ∷ []) x
loaded_at-push stock rs r x p is =
    go (is_cell x r.cell) refl
    ∙ ap (λ o. unwrap_or (option_map (λ (q : Row). Some (set_to stock x q.places)) o)
    (stock_at stock x)) (sym (last_row-push rs r x))
  where
    go : (b : Bool) → is_cell x r.cell ≡ b
        → (if b then Some p else loaded_at stock rs x)
        ≡ unwrap_or (option_map (λ (q : Row). Some (set_to stock x q.places))
        (if b then Some r else last_row rs x)) (stock_at stock x)
    go true e =
        ap (λ q. Some q) (is ∙ ap (λ y. set_to stock y r.places) (sym (is_cell-same x r.cell e)))
    go false e = refl
