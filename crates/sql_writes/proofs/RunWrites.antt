-- Writes of cells, one after another and run by run. For the functions of `runs`.
use Rattle.std.proofs.Common.{◌≡◌, List, [], ◌∷◌, ◌++◌, map, length, get_or, drop, drop-cons, Bool, false, refl, sym, ap, ap₂, subst, ◌∙◌, arith, append_assoc, append-nil, ℕ, suc, ◌+◌, ◌<◌, ◌≤◌, take, Ok, length-append, MutBor, rules}
use Rattle.std.specs.List.{AllByRecursion, list_any}
use Rattle.allotment.specs.declared.cells.Cell.{Cell}
use Rattle.allotment.specs.declared.places.Held.{Held}
use Rattle.desk_sql.specs.Rows.{Tables, StockRow}
use Rattle.desk_sql.specs.Stock.{is_cell}
use Rattle.sql_writes.specs.Weeks.{next_night, nights_from, week_from}
use Rattle.sql_model.specs.Reading.{stock_row_of}
use Rattle.sql_writes.specs.Runs.{IsRun, AreNew, LacksWeek, adds_each, HasShortTexts, HasWrittenUpTo, sets_until, known_until}
use Rattle.std.proofs.lemmas.List.{map-append, take-append-drop}
use Rattle.sqlite.specs.Store.{Ghosts}
use Rattle.sqlite.specs.Held.{Held as Connection}
use Rattle.allotment.specs.Cells.{kind_number}
use Rattle.sql_writes.specs.CellLoads.{LacksCell, nights_in, sets_nights}
use Rattle.desk_sql.specs.Writable.{AreShortNights}
use Rattle.desk_sql.specs.declared.stock.NightRange.{NightRange}
use Rattle.sql_writes.specs.Did.{DidIfOpen}
use Rattle.sql_writes.specs.Permits.{HaveShortCells}
use Rattle.sql_writes.proofs.Doing.{open_and, open_as, open_none}
use Rattle.std.proofs.lemmas.Bool.{both_ways, false_from_ne_true}
use Rattle.sqlite_rules.proofs.ListLemmas.{has_left, some_from, some_has}
use Rattle.sqlite_trees.proofs.ListLemmas.{all-append, all_weaker}

-- The rows of a run, added week by week.

-- Parts of a run.

-- the cells are nights from the row's on
abbrev Follows : StockRow → List (Cell × Held) → Type 0
Follows s cells = map stock_row_of cells ≡ nights_from s (length cells)

parts : (s : StockRow) (c : Cell × Held) (cells : List (Cell × Held)) → Follows s (c ∷ cells) → (stock_row_of c ≡ s) × Follows (next_night s) cells
parts s c cells run =
    let rest : map stock_row_of cells ≡ nights_from (next_night s) (length cells) = cc in
    (cc, rest)

front_follows : (xs ys : List (Cell × Held)) (s : StockRow) → Follows s (xs ++ ys) → Follows s xs
front_follows [] ys s run = refl
front_follows (x ∷ xs) ys s run = let p = parts s x (xs ++ ys) run in ap₂ ◌∷◌ p.0 (front_follows xs ys (next_night s) p.1)

run_of : (cells : List (Cell × Held)) (s : StockRow) → Follows s cells → IsRun cells
run_of cells s run = search (rules, arith, parts)

-- the first cells of a run are one, and so are the others
pub front_run : (xs ys : List (Cell × Held)) → IsRun (xs ++ ys) → IsRun xs
front_run xs ys run = search (rules, arith, front_follows)

pub rest_run : (xs ys : List (Cell × Held)) → IsRun (xs ++ ys) → IsRun ys
rest_run [] ys run = run
rest_run (x ∷ xs) ys run = rest_run xs ys (run_of (xs ++ ys) (next_night (stock_row_of x)) (parts (stock_row_of x) x (xs ++ ys) run).1)

-- New cells.

any_front : (p : StockRow → Bool) (xs ys : List StockRow) → list_any p (xs ++ ys) ≡ false → list_any p xs ≡ false
any_front p xs ys none = false_from_ne_true (list_any p xs) (λ some.
    let x = some_has p xs some in both_ways (list_any p (xs ++ ys)) none (some_from p (xs ++ ys) x.0 (has_left xs ys x.0 x.1) x.2))

-- none of new cells has a row
lack_from : (rows cells more : List StockRow) → AreNew rows (cells ++ more) → AllByRecursion (λ s. list_any (is_cell s) cells ≡ false) rows
lack_from [] cells more new = tt
lack_from (s ∷ rows) cells more new = search (rules, arith, any_front, append_assoc, lack_from rows cells)

all_lack : (rows cells : List StockRow) → AreNew rows cells → AllByRecursion (λ s. list_any (is_cell s) cells ≡ false) rows
all_lack rows cells new = lack_from rows cells [] (subst (AreNew rows) (sym (append-nil cells)) new)

-- the rows of a week are those of its first night
pub week_rows : (week : List (Cell × Held)) (one two : Cell × Held) → IsRun week → length week ≡ 7
    → week_from (stock_row_of ((get_or week 0 one).0, (get_or week 0 two).1)) ≡ map stock_row_of week
week_rows week one two run size = search (rules, arith)

-- no night of a week of new cells has a row
pub week_lacks : (week : List (Cell × Held)) (one two : Cell × Held) (t : Tables) → IsRun week → length week ≡ 7
    → AreNew (map stock_row_of week) t.stock → LacksWeek (stock_row_of ((get_or week 0 one).0, (get_or week 0 two).1)) t
week_lacks week one two t run size new =
    subst (AllByRecursion (λ s. list_any (is_cell s) t.stock ≡ false)) (sym (week_rows week one two run size)) (all_lack (map stock_row_of week) t.stock new)

new_front : (xs ys cells : List StockRow) → AreNew (xs ++ ys) cells → AreNew xs cells
new_front [] ys cells new = tt
new_front (x ∷ xs) ys cells new = (new.0, new_front xs ys (cells ++ x ∷ []) new.1)

new_rest : (xs ys cells : List StockRow) → AreNew (xs ++ ys) cells → AreNew ys (cells ++ xs)
new_rest [] ys cells new = search (rules, arith, append-nil)
new_rest (x ∷ xs) ys cells new = search (rules, arith, append_assoc, new_rest xs ys)

-- the next cells of new ones are new once those before them are added
pub some_new : (run done left some later : List (Cell × Held)) (t : Tables) → run ≡ done ++ left → left ≡ some ++ later
    → AreNew (map stock_row_of run) t.stock → AreNew (map stock_row_of some) (adds_each done t).stock
some_new run done left some later t is cut new = search (rules, arith, map-append, new_front, new_rest)

-- rows that are added after others
pub adds-then : (xs ys : List (Cell × Held)) (t : Tables) → adds_each ys (adds_each xs t) ≡ adds_each (xs ++ ys) t
adds-then xs ys t = search (rules, arith, append_assoc, map-append)

-- Writes of cells, one after another and run by run.

-- the next of cells that are new has no row yet
pub next_new : (cells : List (Cell × Held)) (i : ℕ) (c : Cell × Held) (t : Tables) → i < length cells → c ≡ get_or cells i c
    → AreNew (map stock_row_of cells) t.stock → LacksCell (stock_row_of c) (adds_each (take i cells) t)
next_new cells i c t within is new =
    let rest : drop i cells ≡ c ∷ drop (suc i) cells = drop-cons cells i c within ∙ ap (λ x. x ∷ drop (suc i) cells) (sym is) in
    (some_new cells (take i cells) (drop i cells) (c ∷ []) (drop (suc i) cells) t (sym (take-append-drop i cells)) rest new).0

pub short-append : (xs ys : List (Cell × Held)) → AllByRecursion HasShortTexts xs → AllByRecursion HasShortTexts ys
    → AllByRecursion HasShortTexts (xs ++ ys)
short-append = all-append HasShortTexts

-- the texts of the nights of a range fit
pub short_nights : (r : NightRange) (t : Tables) → HaveShortCells t → AreShortNights r t
short_nights r t short = search (rules, arith, all_weaker)

-- Cells that are left.

-- none is written yet
abbrev pub HasWrittenUpTo-none : {S : Type 0} {g : Ghosts S} {a : MutBor (Connection S)} {Fits : Tables → Type 0} {after : List (Cell × Held) → Tables → Tables}
    (cells : List (Cell × Held)) → ((t : Tables) → t ≡ after [] t) → HasWrittenUpTo g a a Fits after cells cells
HasWrittenUpTo-none cells same = record { done = []; is = refl; did = open_none (λ t _. same t) }

-- some more are written
abbrev pub HasWrittenUpTo-some : {S : Type 0} {g : Ghosts S} {a b c : MutBor (Connection S)} {V : Type 0} {v : V} {Fits G Q : Tables → Type 0}
    {after : List (Cell × Held) → Tables → Tables} (cells left some later : List (Cell × Held)) → (has : HasWrittenUpTo g a b Fits after cells left)
    → left ≡ some ++ later → DidIfOpen g b c (Ok v) G Q (length some) (after some)
    → ((t : Tables) → Fits t → G (after has.done t) × (after some (after has.done t) ≡ after (has.done ++ some) t))
    → HasWrittenUpTo g a c Fits after cells later
HasWrittenUpTo-some cells left some later has cut did fits = record {
  done = has.done ++ some;
  is = has.is ∙ ap (λ rest. has.done ++ rest) cut ∙ sym (append_assoc has.done some later);
  did = open_as (open_and has.did did) (λ _ t _ fit. ((fit, (fits t fit).0), (fits t fit).1)) (omega (arith, length-append has.done some));
}

-- none is left
pub HasWrittenUpTo-all : {S : Type 0} {g : Ghosts S} {a b : MutBor (Connection S)} {V : Type 0} {v : V} {Fits All : Tables → Type 0}
    {after : List (Cell × Held) → Tables → Tables} (cells left : List (Cell × Held)) → HasWrittenUpTo g a b Fits after cells left → left ≡ []
    → DidIfOpen g a b (Ok v) Fits All (length cells) (after cells)
HasWrittenUpTo-all {after} cells left has none =
    let all : has.done ≡ cells = sym (append-nil has.done) ∙ ap (λ rest. has.done ++ rest) (sym none) ∙ sym has.is in
    open_as has.did (λ _ t _ fit. (fit, ap (λ xs. after xs t) all)) (omega (arith, ap length all))

-- the cells that are put and a run are no more than all
pub run_fits : (cells left run later done : List (Cell × Held)) → cells ≡ done ++ left → left ≡ run ++ later
    → length done + length run ≤ length cells
run_fits cells left run later done is cut =
    omega (arith, ap length is ∙ length-append done left, ap length cut ∙ length-append run later)

-- a range from a cell's night to the last one has the nights of the cell's product up to that one
pub same_nights : (r : NightRange) (c : Cell × Held) (last allot free : ℕ) (t : Tables) → r.kind ≡ kind_number c.0.kind
    → r.supplier.now ≡ c.0.supplier → r.product.now ≡ c.0.product → r.first ≡ c.0.night → r.last ≡ last → allot ≡ c.1.allot → free ≡ c.1.free
    → sets_nights r allot free t ≡ sets_until (stock_row_of c) last t
same_nights r c last allot free t kind supplier product first final places rest = rw (kind, supplier, product, first, final, places, rest) refl

pub same_count : (r : NightRange) (c : Cell × Held) (last : ℕ) (t : Tables) → r.kind ≡ kind_number c.0.kind
    → r.supplier.now ≡ c.0.supplier → r.product.now ≡ c.0.product → r.first ≡ c.0.night → r.last ≡ last
    → nights_in r t ≡ known_until (stock_row_of c) last t
same_count r c last t kind supplier product first final = rw (kind, supplier, product, first, final) refl
