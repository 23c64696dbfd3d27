-- Cells of a run, and their rows once they got their places. For the functions of `runs`.
use Rattle.std.proofs.Common.{◌≡◌, ℕ, zero, suc, ◌+◌, ◌-◌, ◌<◌, List, [], ◌∷◌, ◌++◌, length, take, get_or, refl, sym, ap, subst, ◌∙◌, arith, map, slice_get, Some, ap₂, length-append, length-take-le, append_assoc, take_all, rules}
use Rattle.std.specs.List.{AllByRecursion}
use Rattle.allotment.specs.declared.cells.Cell.{Cell}
use Rattle.allotment.specs.declared.places.Held.{Held}
use Rattle.desk_sql.specs.Rows.{Tables, StockRow}
use Rattle.desk_sql.specs.Stock.{AreApart as AreCellsApart, put, puts_cell, with_places}
use Rattle.sql_model.specs.Reading.{stock_row_of}
use Rattle.sql_model.specs.Standing.{AreApart, is_same_stock}
use Rattle.sql_model.specs.Loading.{loaded_row}
use Rattle.sql_model.proofs.Puts.{cells_apart, once-rows}
use Rattle.sql_writes.specs.Loads.{put_each, puts_each, MayLoad}
use Rattle.sql_writes.specs.Runs.{HasShortTexts, nights_later, IsLater, IsRun, is_until, sets_until, known_until, put_rows, AreNew, adds_each}
use Rattle.sql_writes.proofs.Permitting.{short_put}
use Rattle.sql_writes.specs.Permits.{HaveShortCells}
use Rattle.desk_sql.specs.Writable.{IsShort}
use Rattle.sql_model.proofs.Changing.{once-changed}
use Rattle.sql_writes.specs.Weeks.{next_night, nights_from}
use Rattle.sql_writes.proofs.RunRows.{nights-more, nights_all, put_new, run_some, run_known, run_new}
use Rattle.std.proofs.lemmas.List.{length-map, map-append, take_more}
use Rattle.sqlite_trees.proofs.ListLemmas.{all-map, all_from_map, all_weaker}

-- Cells get their places in order.

-- cells are put after others
pub put_each-append : (xs ys : List (Cell × Held)) (rows : List StockRow) → put_each (xs ++ ys) rows ≡ put_each ys (put_each xs rows)
put_each-append [] ys rows = refl
put_each-append (x ∷ xs) ys rows = put_each-append xs ys (put (stock_row_of x) rows)

-- the row of a cell is that of its allotment, less the places that are held
stock_row_of-loaded : (c : Cell × Held) → loaded_row (c.1.allot - c.1.free) (record { cell = c.0; places = c.1.allot }) ≡ stock_row_of c
stock_row_of-loaded c = search (rules, arith)

-- no two rows are of one cell after a cell got its places
apart-put : (c : Cell × Held) (rows : List StockRow) → AreApart is_same_stock rows
    → AreApart is_same_stock (put (stock_row_of c) rows)
apart-put c rows once =
    subst (λ r. AreApart is_same_stock (put r rows)) (stock_row_of-loaded c)
    (once-rows (λ _. c.1.allot - c.1.free) (record { cell = c.0; places = c.1.allot } ∷ []) rows once)

-- no two rows are of one cell after all cells got their places
pub apart-each : (cells : List (Cell × Held)) (rows : List StockRow) → AreApart is_same_stock rows
    → AreApart is_same_stock (put_each cells rows)
apart-each [] rows once = once
apart-each (c ∷ cells) rows once = apart-each cells (put (stock_row_of c) rows) (apart-put c rows once)

-- the texts of the cells fit after all cells got their places
pub short_each : (cells : List (Cell × Held)) (t : Tables) → AllByRecursion HasShortTexts cells → HaveShortCells t
    → HaveShortCells (puts_each cells t)
short_each [] t all short = short
short_each (c ∷ cells) t all short =
    short_each cells (puts_cell (stock_row_of c) t) all.1 (short_put (stock_row_of c) t.stock all.0 short)

-- no two rows are of one cell after the cells got their places
pub apart_put : (cells : List (Cell × Held)) (t : Tables) → AreApart is_same_stock t.stock → AreCellsApart (puts_each cells t)
apart_put cells t apart = cells_apart (puts_each cells t) (apart-each cells t.stock apart)

-- all elements are taken
pub take-whole : {X : Type 0} (n : ℕ) (xs : List X) → n ≡ length xs → take n xs ≡ xs
take-whole n xs all = take_all n xs (omega (arith, all))

-- one more element is taken, with the count of a loop
pub take-more : {X : Type 0} (xs : List X) (i : ℕ) (x : X) → i < length xs → x ≡ get_or xs i x
    → take (i + 1) xs ≡ take i xs ++ x ∷ []
take-more xs i x within e = take_more xs i x within ∙ ap (λ y. take i xs ++ y ∷ []) (sym e)

-- Cells of a run, and their rows once they got their places.

-- Lists of cells.

pub put_each_rows : (cells : List (Cell × Held)) (rows : List StockRow) → put_each cells rows ≡ put_rows (map stock_row_of cells) rows
put_each_rows [] rows = refl
put_each_rows (c ∷ cells) rows = put_each_rows cells (put (stock_row_of c) rows)

pub adds-more : (xs : List (Cell × Held)) (x : Cell × Held) (t : Tables)
    → record t { stock = (t.stock ++ map stock_row_of xs) ++ stock_row_of x ∷ [] } ≡ adds_each (xs ++ x ∷ []) t
adds-more xs x t = search (rules, arith, append_assoc, map-append)

-- Runs.

-- the row of a cell that is so many nights later
later_row : (first next : Cell × Held) (n : ℕ) → IsLater first n next → stock_row_of next ≡ nights_later n (stock_row_of first)
later_row first next n it = rw (it.kind, it.supplier, it.product, it.night, it.allot, it.free) refl

-- a run with one more night
pub run-more : (cells : List (Cell × Held)) (n : ℕ) (first next : Cell × Held) → IsLater first n next → 0 < n → n < length cells → first ≡ get_or cells 0 first → next ≡ get_or cells n next
    → IsRun (take n cells) → IsRun (take (n + 1) cells)
run-more [] n first next is some within is_first is_next run = absurd (omega (arith, within))
run-more (c ∷ cells) zero first next is some within is_first is_next run = absurd (omega (arith, some))
run-more (c ∷ cells) (suc n) first next is some within is_first is_next run =
    subst IsRun (sym (take-more (c ∷ cells) (suc n) next within is_next)) longer
  where
    size : length (c ∷ take n cells) ≡ suc n
    size = ap suc (length-take-le n cells (omega (arith, within)))

    long : length (c ∷ (take n cells ++ next ∷ [])) ≡ suc n + 1
    long = let one = length-append (take n cells) (next ∷ []) in omega (arith, one, size)

    longer : map stock_row_of (c ∷ (take n cells ++ next ∷ [])) ≡ nights_from (stock_row_of c) (length (c ∷ (take n cells ++ next ∷ [])))
    longer =
        map-append stock_row_of (c ∷ take n cells) (next ∷ [])
        ∙ ap₂ ◌++◌ (run ∙ ap (nights_from (stock_row_of c)) size) (ap (λ r. r ∷ []) (later_row first next (suc n) is ∙ ap (λ x. nights_later (suc n) (stock_row_of x)) is_first))
        ∙ sym (nights-more (stock_row_of c) (suc n))
        ∙ ap (nights_from (stock_row_of c)) (sym long)

-- the night of the last cell
last_night : (cells : List (Cell × Held)) (s : StockRow) (d : Cell × Held) → map stock_row_of cells ≡ nights_from (next_night s) (length cells)
    → (c : Cell × Held) → c.0.night ≡ s.night → slice_get (c ∷ cells) (length cells) ≡ Some d → d.0.night ≡ s.night + length cells
last_night [] s d run c here is = search (rules, arith)
last_night (x ∷ cells) s d run c here is = search (rules, arith, last_night cells (next_night s) d)

-- the texts of each cell of a run are those of the first
pub short_run : (run : List (Cell × Held)) (first : Cell × Held) → slice_get run 0 ≡ Some first → IsRun run → HasShortTexts first
    → AllByRecursion HasShortTexts run
short_run [] first is run short = tt
short_run (c ∷ cells) first is run short =
    let one : Some c ≡ Some first = is in
    let same : c ≡ first = cc in
    let Fit = λ (r : StockRow). IsShort (length r.supplier + length r.product) in
    all_from_map Fit stock_row_of (c ∷ cells) (subst (AllByRecursion Fit) (sym run)
    (nights_all Fit (λ _ it. it) (length (c ∷ cells)) (stock_row_of c) (subst HasShortTexts (sym same) short)))

-- a run from its first cell to this night
record IsRunTo (run : List (Cell × Held)) (first : Cell × Held) (night : ℕ) : Type 0 where
  pub n : ℕ
  pub rows : map stock_row_of run ≡ nights_from (stock_row_of first) (suc n)
  pub at : night ≡ (stock_row_of first).night + n

run_to : (run : List (Cell × Held)) (first last : Cell × Held) → slice_get run 0 ≡ Some first → slice_get run (length run - 1) ≡ Some last → IsRun run
    → (night : ℕ) → night ≡ last.0.night → IsRunTo run first night
run_to [] first last is_first is_last is_run night is_night = absurd (cc)
run_to (c ∷ cells) first last is_first is_last is_run night is_night =
    let one : Some c ≡ Some first = is_first in
    let same : c ≡ first = cc in
    let both : stock_row_of c ∷ map stock_row_of cells ≡ stock_row_of c ∷ nights_from (next_night (stock_row_of c)) (length cells) = is_run in
    let rest : map stock_row_of cells ≡ nights_from (next_night (stock_row_of c)) (length cells) = cc in
    let before : length (c ∷ cells) - 1 ≡ length cells = omega arith in
    let far = last_night cells (stock_row_of c) last rest c refl (subst (λ n. slice_get (c ∷ cells) n ≡ Some last) before is_last) in
    record {
      n = length cells;
      rows = is_run ∙ ap (λ (x : Cell × Held). nights_from (stock_row_of x) (suc (length cells))) same;
      at = is_night ∙ far ∙ ap (λ (x : Cell × Held). (stock_row_of x).night + length cells) same;
    }

-- A run whose cells were given the places in the rows that there are.
module _ (run : List (Cell × Held)) (first last : Cell × Held) (is_first : slice_get run 0 ≡ Some first)
    (is_last : slice_get run (length run - 1) ≡ Some last) (is_run : IsRun run) (night : ℕ) (is_night : night ≡ last.0.night)
    (t : Tables) (apart : MayLoad t) where
  abbrev pub given : Tables
  given = sets_until (stock_row_of first) night t

  shape : IsRunTo run first night
  shape = run_to run first last is_first is_last is_run night is_night

  abbrev s : StockRow
  s = stock_row_of first

  abbrev rows : List StockRow
  rows = map stock_row_of run

  -- each cell has a row: all have their places
  pub all_known : known_until s night t ≡ length run → given ≡ puts_each run t
  all_known full = ap (λ cells. record t { stock = cells })
      (run_known s shape.n night shape.at rows shape.rows t.stock (cells_apart t apart) (full ∙ sym (length-map run stock_row_of))
      ∙ sym (put_each_rows run t.stock))

  -- none has a row: each is new
  pub none_known : known_until s night t ≡ 0 → AreNew rows given.stock
  none_known none = run_new s shape.n night shape.at rows shape.rows t.stock (cells_apart t apart) none

  -- cells that are put now have the places that they would have without
  pub put_given : puts_each run given ≡ puts_each run t
  put_given = ap (λ cells. record t { stock = cells })
      (put_each_rows run given.stock ∙ run_some s shape.n night shape.at rows shape.rows t.stock (cells_apart t apart)
      ∙ sym (put_each_rows run t.stock))

  -- and so have cells that are added
  pub added_given : known_until s night t ≡ 0 → adds_each run given ≡ puts_each run t
  added_given none = search (rules, arith, put_new, none_known, put_each_rows, put_given)

  -- the rows are apart, and their texts fit, as before
  pub apart_given : MayLoad given
  apart_given = once-changed (is_until s night) (with_places s) (λ q r. refl) (λ q r. refl) t.stock apart

  pub short_given : HaveShortCells t → HaveShortCells given
  short_given short = search (rules, arith, all-map, all_weaker)
