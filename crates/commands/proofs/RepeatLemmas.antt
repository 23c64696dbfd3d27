-- Rows whose cell stands in an earlier row: what the set of the earlier cells answers, and that a list without such a
-- row has distinct cells. For `first_repeat` and `Batch::new`.
use Rattle.std.proofs.Common.{◌≡◌, ℕ, ◌+◌, ◌<◌, Bool, true, false, List, [], ◌∷◌, ◌++◌, refl, ap, sym, ◌∙◌, subst, take, drop, get_or, arith, length-take-le, ◌&&◌, ◌||◌, not, if◌then◌else◌, length, Option, Some, None, is_none}
use Rattle.std.proofs.lemmas.List.{take_more, drop_more}
use Rattle.std.specs.List.{list_any, list_all}
use Rattle.std.specs.BTreeSet as set
use Rattle.std.specs.Ordering.{is_eq, is_lt}
use Rattle.std.specs.declared.cmp.Ordering.{Ordering}
use Rattle.std.specs.declared.cmp.Ordering.TheVariants.{Less}
use Rattle.allotment.specs.Cells.{is_cell}
use Rattle.allotment.specs.declared.cells.Cell.{Cell}
use Rattle.allotment.specs.declared.cells.Row.{Row}
use Rattle.commands.specs.Batches.{is_new_cell, are_distinct, repeat_behind, repeat_among}
use Rattle.commands.specs.CellKeys.{cell_key_cmp, row_key, is_above, rises_above, rises}
use Rattle.commands.specs.declared.batches.CellKey.{CellKey}
use Rattle.commands.proofs.CellKeyLemmas.{key_of, cell_key_total, is_eq-cells, is_cell-swap}

-- one of these rows is of this cell
abbrev pub has_row_of : List Row → Cell → Bool
has_row_of rows x = list_any (λ (s : Row). is_cell x s.cell) rows

-- the set has the cells of these rows
abbrev pub HasCellsOf : set.BTreeSet CellKey → List Row → Type 0
HasCellsOf seen rows = (x : Cell) → set.contains cell_key_cmp seen (key_of x) ≡ has_row_of rows x

-- one more row is of this cell, or one of those before it
has_row_of-more : (rows : List Row) (r : Row) (x : Cell)
    → has_row_of (rows ++ (r ∷ [])) x ≡ (if is_cell x r.cell then true else has_row_of rows x)
has_row_of-more [] r x = grind arith
has_row_of-more (s ∷ rows) r x = grind (arith, has_row_of-more rows r)

-- once the cell of a row is put into it, the set has the cells of one more row
pub has_cells_of-more : (old new : set.BTreeSet CellKey) (rows : List Row) (r : Row) → HasCellsOf old rows
    → set.Updates cell_key_cmp old new (key_of r.cell) true → HasCellsOf new (rows ++ (r ∷ []))
has_cells_of-more old new rows r has updates x = grind (arith, key_of, is_eq-cells, is_cell-swap, has_row_of-more)

-- the current row is passed, since its cell is new
pub repeat_behind-new : (earlier later : List Row) (r : Row) → has_row_of earlier r.cell ≡ false
    → repeat_behind earlier (r ∷ later) ≡ repeat_behind (earlier ++ (r ∷ [])) later
repeat_behind-new earlier later r new = cc

-- the current row is the first one whose cell stands in an earlier row
pub repeat_behind-old : (earlier later : List Row) (r : Row) → has_row_of earlier r.cell ≡ true
    → repeat_behind earlier (r ∷ later) ≡ Some (length earlier)
repeat_behind-old earlier later r old = cc

-- none of the later rows is of a cell of these
abbrev are_new : List Row → List Row → Bool
are_new earlier later = list_all (λ (r : Row). is_new_cell r earlier) later

-- the later rows are of other cells than one more row, where they are so for those before it and for that row
are_new-more : (earlier : List Row) (r : Row) (later : List Row)
    → are_new (earlier ++ (r ∷ [])) later ≡ (are_new earlier later && is_new_cell r later)
are_new-more earlier r [] = refl
are_new-more earlier r (s ∷ later) =
    ap (λ b. not b && are_new (earlier ++ (r ∷ [])) later) (has_row_of-more earlier r s.cell)
    ∙ ap (λ b. not (if is_cell s.cell r.cell then true else has_row_of earlier s.cell) && b) (are_new-more earlier r later)
    ∙ ap (λ b. not (if b then true else has_row_of earlier s.cell) && (are_new earlier later && is_new_cell r later))
    (is_cell-swap s.cell r.cell)
    ∙ parts (is_cell r.cell s.cell) (has_row_of earlier s.cell) (are_new earlier later) (has_row_of later r.cell)
  where
    parts : (a b c d : Bool) → (not (if a then true else b) && (c && not d)) ≡ ((not b && c) && not (a || d))
    parts a b c d = grind arith

-- no cell is repeated after these rows if the later ones are of other cells, and of distinct ones
repeat_behind-none : (earlier later : List Row)
    → is_none (repeat_behind earlier later) ≡ (are_new earlier later && are_distinct later)
repeat_behind-none earlier [] = refl
repeat_behind-none earlier (r ∷ later) = grind (arith, are_new-more, repeat_behind-none (earlier ++ (r ∷ [])) later)

-- no cell is repeated exactly if all are distinct
pub repeat_among-none : (rows : List Row) → is_none (repeat_among rows) ≡ are_distinct rows
repeat_among-none rows = repeat_behind-none [] rows ∙ ap (λ b. b && are_distinct rows) (none_before rows)
  where
    none_before : (later : List Row) → are_new [] later ≡ true
    none_before [] = refl
    none_before (r ∷ later) = none_before later

-- if no cell is repeated, all are distinct
pub distinct_if_none : (rows : List Row) → repeat_among rows ≡ None → are_distinct rows ≡ true
distinct_if_none rows none = sym (repeat_among-none rows) ∙ ap (λ (o : Option ℕ). is_none o) none

-- if a cell is repeated, they are not distinct
pub repeated_if_some : (rows : List Row) (i : ℕ) → repeat_among rows ≡ Some i → are_distinct rows ≡ false
repeated_if_some rows i some = sym (repeat_among-none rows) ∙ ap (λ (o : Option ℕ). is_none o) some

-- the rows up to a place and the row there are those up to the next place
up_to : (rows : List Row) (i : ℕ) (r : Row) → i < length rows → r ≡ get_or rows i r
    → take (i + 1) rows ≡ take i rows ++ (r ∷ [])
up_to rows i r within at = take_more rows i r within ∙ ap (λ x. take i rows ++ (x ∷ [])) (sym at)

-- the rows from a place on are the row there and those from the next place on
from_on : (rows : List Row) (i : ℕ) (r : Row) → i < length rows → r ≡ get_or rows i r
    → drop i rows ≡ r ∷ drop (i + 1) rows
from_on rows i r within at = drop_more rows i r within ∙ ap (λ x. x ∷ drop (i + 1) rows) (sym at)

-- the row at a place is of a new cell, so the search goes on after it
pub repeat_at-new : (rows : List Row) (i : ℕ) (r : Row) → i < length rows → r ≡ get_or rows i r
    → has_row_of (take i rows) r.cell ≡ false
    → repeat_behind (take i rows) (drop i rows) ≡ repeat_behind (take (i + 1) rows) (drop (i + 1) rows)
repeat_at-new rows i r within at new = grind (arith, from_on, repeat_behind-new, up_to)

-- the cell of the row at a place stands before it, so the search ends there
pub repeat_at-old : (rows : List Row) (i : ℕ) (r : Row) → i < length rows → r ≡ get_or rows i r
    → has_row_of (take i rows) r.cell ≡ true → repeat_behind (take i rows) (drop i rows) ≡ Some i
repeat_at-old rows i r within at old = grind (arith, from_on, repeat_behind-old, length-take-le)

-- the set with the cells of the rows up to a place has those up to the next one, once the cell there is put into it
pub has_cells_of-next : (old new : set.BTreeSet CellKey) (rows : List Row) (i : ℕ) (r : Row) → i < length rows
    → r ≡ get_or rows i r → HasCellsOf old (take i rows)
    → set.Updates cell_key_cmp old new (key_of r.cell) true → HasCellsOf new (take (i + 1) rows)
has_cells_of-next old new rows i r within at has updates =
    subst (HasCellsOf new) (sym (up_to rows i r within at)) (has_cells_of-more old new (take i rows) r has updates)

-- Rows that rise.

-- a cell above another is a different cell
is_other : (k x : Cell) → is_above (Some (key_of k)) (key_of x) ≡ true → is_cell x k ≡ false
is_other k x above = is_cell-swap x k ∙ sym (is_eq-cells k x) ∙ apart (cell_key_cmp (key_of k) (key_of x)) above
  where
    apart : (o : Ordering) → is_lt o ≡ true → is_eq o ≡ false
    apart o e = grind arith

-- the order of keys is transitive
above_too : (last : Option CellKey) (k x : CellKey) → is_above last k ≡ true → is_above (Some k) x ≡ true
    → is_above last x ≡ true
above_too None k x below above = refl
above_too (Some before) k x below above =
    ap is_lt (cell_key_total.trans before k x (is_less _ below) (is_less _ above))
  where
    is_less : (o : Ordering) → is_lt o ≡ true → o ≡ Less
    is_less o e = grind arith

-- the rows after these repeat no cell, if they rise above all of these
repeat_behind-rising : (earlier later : List Row) (last : Option CellKey)
    → ((x : Cell) → is_above last (key_of x) ≡ true → has_row_of earlier x ≡ false)
    → rises_above last later ≡ true → repeat_behind earlier later ≡ None
repeat_behind-rising earlier [] last new rising = refl
repeat_behind-rising earlier (r ∷ later) last new rising =
    let both = and_both (is_above last (row_key r)) (rises_above (Some (row_key r)) later) rising in
    repeat_behind-new earlier later r (new r.cell both.0)
    ∙ repeat_behind-rising (earlier ++ (r ∷ [])) later (Some (row_key r))
    (λ x above. has_row_of-more earlier r x
    ∙ ap (λ b. if b then true else has_row_of earlier x) (is_other r.cell x above)
    ∙ new x (above_too last (key_of r.cell) (key_of x) both.0 above))
    both.1
  where
    and_both : (a b : Bool) → (a && b) ≡ true → (a ≡ true) × (b ≡ true)
    and_both a b e = grind arith

-- rows that rise repeat no cell
pub repeat_among-rising : (rows : List Row) → rises rows ≡ true → repeat_among rows ≡ None
repeat_among-rising rows rising = repeat_behind-rising [] rows None (λ x above. refl) rising

-- the row at a place, and the later ones
pub rises_at : (rows : List Row) (i : ℕ) (r : Row) (last : Option CellKey) → i < length rows → r ≡ get_or rows i r
    → rises_above last (drop i rows) ≡ (is_above last (row_key r) && rises_above (Some (row_key r)) (drop (i + 1) rows))
rises_at rows i r last within at = ap (rises_above last) (from_on rows i r within at)
