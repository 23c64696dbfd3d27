-- A week of cells is added. For `insert_week`.
use Rattle.std.proofs.Common.{◌≡◌, ◌⊎◌, inl, inr, List, Bool, true, false, refl, ◌<◌, ◌≤◌, ◌^◌, ◌+◌, ◌/◌, ℕ, ℤ, zero, suc, [], ◌∷◌, ◌++◌, map, drop, length, Ok, Err, not, sym, ap, subst, ◌∙◌, arith, append-nil, append_assoc, eqb-true, rules}
use Rattle.sqlite_trees.specs.Tree.{Trees, IsTable, put_row}
use Rattle.sqlite_schema.specs.declared.schema.Keys.TheVariants.{Enforced}
use Rattle.sqlite_schema.specs.Rules.{agree, Obeys}
use Rattle.sqlite_rules.specs.Lists.{Has}
use Rattle.sqlite_rules.specs.Edit.{are_fresh, is_referred, numbered, put_all, Edit, next_rowid}
use Rattle.sqlite_rules.proofs.ListLemmas.{all_from, all_has}
use Rattle.sqlite.specs.Order.{Row}
use Rattle.desk_sql.specs.Schema.{desk_schema, stock_at}
use Rattle.desk_sql.proofs.Refusing.{IsSafe, write_reason, insert_goes}
use Rattle.desk_sql.proofs.NewRow.{IsFit, adds_edit, rows_safe}
use Rattle.desk_sql.proofs.Writing.{target, inserts, source_edit, cast_null, Edits}
use Rattle.std.specs.Prelude.{⊤}
use Rattle.std.proofs.lemmas.Bool.{and_parts, and_from, false_from_ne_true}
use Rattle.sqlite.specs.declared.types.Value.TheVariants.{Null, Text}
use Rattle.sqlite.specs.declared.error.Error.{Error}
use Rattle.sqlite.specs.Cast.{cast_row}
use Rattle.sqlite.specs.Ops.{fits_i64}
use Rattle.sqlite.specs.Rowids.TheVariants.{Chosen}
use Rattle.sqlite.specs.Effect.{value_rows}
use Rattle.sqlite.specs.Listing.{understood}
use Rattle.sqlite.specs.State.{State, ExecutesInside}
use Rattle.sqlite_tied.specs.Compute.{everything}
use Rattle.desk_sql.specs.Lists.{numbered_row, IsTableOf}
use Rattle.desk_sql.specs.Rows.{whole, Tables, StockRow, stock_columns}
use Rattle.desk_sql.specs.Calls.{MayRun}
use Rattle.desk_sql.specs.Causes.{IsUp, HasReason}
use Rattle.desk_sql.specs.Stock.{is_cell}
use Rattle.desk_sql.specs.Writable.{AreLow, HasRowids}
use Rattle.desk_sql.proofs.Meaning.{insert}
use Rattle.desk_sql.proofs.Effects.{Effect}
use Rattle.desk_sql.proofs.Inserting.{cast_int}
use Rattle.desk_sql.proofs.Framing.{ready_of, makes_at}
use Rattle.desk_sql.proofs.Places
use Rattle.desk_sql.proofs.Keyed.{appended}
use Rattle.desk_sql.proofs.InsertReasons.{obeys_desk, SaysInsert}
use Rattle.desk_sql.proofs.UpdateReasons.{stock_fit}
use Rattle.desk_sql.proofs.Storing.{range_holds, next_fits, chosen_free, table_of, rows_all}
use Rattle.desk_sql.proofs.Rowids.{low_fewer, low_put, rowids_fewer, rowids_kept}
use Rattle.sql_writes.specs.CellLoads.{LacksCell}
use Rattle.sql_writes.specs.Weeks.{next_night, nights_from, week_from, adds_cells, insert_week_text, insert_week_terms, MayAddWeek}
use Rattle.sql_writes.proofs.LoadedCells.{each_other}
use Rattle.desk_sql.proofs.PutReasons.{agree_cell}

-- The insertion of several rows.

-- the insertion of rows of stock
abbrev pub stock_edit : List Row → Edit
stock_edit news = adds_edit (stock_at 1) news

-- the rows are of one cell
abbrev pub agrees : Row → Row → Bool
agrees a b = agree (record { digits = 0 }) target a target b

-- no new row is of the cell of a row that was there, nor of that of another new one
pub stock_safe : (db : Trees) (news : List Row) → IsTable (db 1) → Obeys desk_schema db → ((row : Row) → Has news row → IsFit (stock_at 1) db row)
    → are_fresh (db 1) news ≡ true → ((row new : Row) → Has (db 1) row → Has news new → agrees row new ≡ false)
    → ((a b : Row) → Has news a → Has news b → (a ≡ b) ⊎ (agrees a b ≡ false))
    → is_referred desk_schema Enforced (stock_edit news) ≡ true → IsSafe db (stock_edit news)
stock_safe db news ordered obeys fit fresh single apart referred = grind (arith, rows_safe, all_from)

abbrev pub week_params : StockRow → Row
week_params s =
    whole s.kind ∷ Text s.supplier ∷ Text s.product ∷ whole s.allot ∷ whole s.free ∷ whole s.night ∷ whole (s.night + 1) ∷ whole (s.night + 2)
    ∷ whole (s.night + 3) ∷ whole (s.night + 4) ∷ whole (s.night + 5) ∷ whole (s.night + 6) ∷ []

-- Nights.

-- a night of the row's product, not before the row's, with its places
record IsOn (s c : StockRow) : Type 0 where
  pub kind : c.kind ≡ s.kind
  pub supplier : c.supplier ≡ s.supplier
  pub product : c.product ≡ s.product
  pub night : s.night ≤ c.night
  pub allot : c.allot ≡ s.allot
  pub free : c.free ≡ s.free

on_night : (n : ℕ) (s c : StockRow) → Has (nights_from s n) c → IsOn s c
on_night zero s c none = absurd none
on_night (suc n) s c there = search (rules, arith, on_night n (next_night s) c)

-- the rows of one cell are of one night
same_night : (a b : StockRow) → is_cell a b ≡ true → b.night ≡ a.night
same_night a b e = search (rules, arith, and_parts, eqb-true)

other_nights : (a b : StockRow) → (b.night ≡ a.night → ⊥) → is_cell a b ≡ false
other_nights a b off = false_from_ne_true (is_cell a b) (λ same. off (same_night a b same))

later_night : (n : ℕ) (s c : StockRow) → Has (nights_from (next_night s) n) c → s.night < c.night
later_night n s c later = let night = (on_night n (next_night s) c later).night in omega (arith, night)

-- the cells of nights are apart
pub nights_apart : (n : ℕ) (s c : StockRow) → Has (nights_from (next_night s) n) c → (is_cell s c ≡ false) × (is_cell c s ≡ false)
nights_apart n s c later = search (rules, arith, other_nights, later_night)

-- Rows under the next rowids.

abbrev next_row : List Row → StockRow → Row
next_row rows s = numbered_row stock_columns (next_rowid rows, s)

-- each is put before the next gets its rowid
abbrev next_rows : List Row → List StockRow → List Row
next_rows rows [] = []
next_rows rows (s ∷ cells) = next_row rows s ∷ next_rows (put_row (next_row rows s) rows) cells

abbrev unnumbered : StockRow → Row
unnumbered s = Null ∷ stock_columns s

numbered_next : (rows : List Row) (cells : List StockRow) → numbered Chosen rows (map unnumbered cells) ≡ next_rows rows cells
numbered_next rows [] = refl
numbered_next rows (s ∷ cells) = ap (λ rs. next_row rows s ∷ rs) (numbered_next (put_row (next_row rows s) rows) cells)

-- they are appended
appended_all : (cells : List StockRow) (rows : List Row) (values : List StockRow) → IsTableOf stock_columns rows values
    → IsTableOf stock_columns (put_all rows (next_rows rows cells)) (values ++ cells)
appended_all [] rows values it = rw append-nil it
appended_all (s ∷ cells) rows values it =
    rw (← append_assoc values (s ∷ []) cells) (appended_all cells (put_row (next_row rows s) rows) (values ++ s ∷ [])
    (appended stock_columns rows values s it))

-- each takes a rowid
low_all : (cells : List StockRow) (rows : List Row) (n : ℕ) → length cells + n < 2 ^ 63 → AreLow (length cells + n) rows
    → AreLow n (put_all rows (next_rows rows cells))
low_all [] rows n few low = low_fewer n (length {A = StockRow} [] + n) rows (omega arith) low
low_all (s ∷ cells) rows n few low =
    low_all cells (put_row (next_row rows s) rows) n (omega (arith, few))
    (low_put (length cells + n) rows (next_row rows s) refl (omega (arith, few)) (low_fewer (suc (length cells + n)) (suc (length cells) + n) rows (omega arith) low))

-- each is a row of one of the cells
record IsNext (cells : List StockRow) (row : Row) : Type 0 where
  pub id : ℤ
  pub cell : StockRow
  pub among : Has cells cell
  pub is : row ≡ numbered_row stock_columns (id, cell)

next_is : (cells : List StockRow) (rows : List Row) (row : Row) → Has (next_rows rows cells) row → IsNext cells row
next_is [] rows row none = absurd none
next_is (s ∷ cells) rows row (inl is) = record { id = next_rowid rows; cell = s; among = inl refl; is = is }
next_is (s ∷ cells) rows row (inr later) = search (rules, arith, next_is cells (put_row (next_row rows s) rows) row later)

-- each obeys the rules on a row alone
next_fit : (db : Trees) (cells : List StockRow) (rows : List Row) (row : Row) → length cells < 2 ^ 63 → AreLow (length cells) rows
    → ((c : StockRow) → Has cells c → (id : ℤ) → fits_i64 id ≡ true → IsFit (stock_at 1) db (numbered_row stock_columns (id, c)))
    → Has (next_rows rows cells) row → IsFit (stock_at 1) db row
next_fit db [] rows row few low each none = absurd none
next_fit db (s ∷ cells) rows row few low each (inl is) =
    subst (IsFit (stock_at 1) db) (sym is) (each s (inl refl) (next_rowid rows) (next_fits rows (low_fewer 1 (suc (length cells)) rows (omega arith) low)))
next_fit db (s ∷ cells) rows row few low each (inr later) =
    next_fit db cells (put_row (next_row rows s) rows) row (omega (arith, few)) (low_put (length cells) rows (next_row rows s) refl few low)
    (λ c there. each c (inr there)) later

-- no rowid is there twice
fresh_next : (cells : List StockRow) (rows : List Row) (values : List StockRow) → IsTableOf stock_columns rows values
    → are_fresh rows (next_rows rows cells) ≡ true
fresh_next [] rows values it = refl
fresh_next (s ∷ cells) rows values it =
    and_from _ _ (ap not (chosen_free stock_columns rows values s it))
    (fresh_next cells (put_row (next_row rows s) rows) (values ++ s ∷ []) (appended stock_columns rows values s it))

-- rows of two cells are apart
rows_apart : (a b : Row) (s c : StockRow) (i j : ℤ) → a ≡ numbered_row stock_columns (i, s) → b ≡ numbered_row stock_columns (j, c)
    → is_cell c s ≡ false → agrees a b ≡ false
rows_apart a b s c i j one two off = rw (one, two) (agree_cell j c (i, s) ∙ off)

next_apart : (n : ℕ) (s : StockRow) (rows : List Row) (a b : Row) → Has (next_rows rows (nights_from s n)) a → Has (next_rows rows (nights_from s n)) b
    → (a ≡ b) ⊎ (agrees a b ≡ false)
next_apart zero s rows a b one two = absurd one
next_apart (suc n) s rows a b (inl one) (inl two) = inl (one ∙ sym two)
next_apart (suc n) s rows a b (inl one) (inr two) =
    let it = next_is (nights_from (next_night s) n) (put_row (next_row rows s) rows) b two in
    inr (rows_apart a b s it.cell (next_rowid rows) it.id one it.is (nights_apart n s it.cell it.among).1)
next_apart (suc n) s rows a b (inr one) (inl two) =
    let it = next_is (nights_from (next_night s) n) (put_row (next_row rows s) rows) a one in
    inr (rows_apart a b it.cell s it.id (next_rowid rows) it.is two (nights_apart n s it.cell it.among).0)
next_apart (suc n) s rows a b (inr one) (inr two) = next_apart n (next_night s) (put_row (next_row rows s) rows) a b one two

-- A week.

abbrev week_edit : Trees → StockRow → Edit
week_edit db s = source_edit (stock_at 1) insert_week_terms 7 (week_params s) db

-- a night after the others
more_nights : (n k : ℕ) → n + k + 1 ≡ n + suc k
more_nights n k = omega arith

-- the values of the terms are the columns of its nights
week_values : (s : StockRow) → map (λ r. cast_row (stock_at 1) (drop 0 r)) (value_rows (week_params s) 7 (length insert_week_terms / 7) insert_week_terms)
    ≡ map unnumbered (week_from s)
week_values s = simp (cast_int, cast_null, more_nights)

week_news : (db : Trees) (s : StockRow) → (week_edit db s).news ≡ next_rows (db 1) (week_from s)
week_news db s = ap (numbered Chosen (db 1)) (week_values s) ∙ numbered_next (db 1) (week_from s)

week_says : (s : StockRow) → SaysInsert insert_week_text 1 insert_week_terms 7 (week_params s)
unfolding understood everything
week_says s = record { means = λ _. record { is = refl; plain = (refl, refl) }; whole = λ _. refl; types = λ _. refl }

-- its rows are appended, since each has the next rowid, and no rule of the tables refuses them
pub loads_week : (s : StockRow) → Effect insert_week_text (week_params s) (λ _. ⊤) (adds_cells (week_from s)) (HasRowids 7) (MayAddWeek s) (λ _. ⊤) (λ n. 7 + n)
loads_week s = record {
  made = λ old new t count may any ran. (
      let db = old.now.trees in
      let shown = (may.sees ran.1.was_open).rows in
      makes_at old new (week_edit db s) (edits old new t count may ran) 1 (put_all (db 1) (next_rows (db 1) (week_from s)))
      (adds_cells (week_from s) t) refl (ap (put_all (db 1)) (week_news db s))
      (Places.stock.with_rows db t shown _ (t.stock ++ week_from s) (appended_all (week_from s) (db 1) t.stock shown.stock)));
  reason = λ old new t e rowids may fits up. reason old new t e rowids may fits up;
  rowids = λ old new t count may any ran n has. (
      let db = old.now.trees in
      rowids_kept old new (week_edit db s) (edits old new t count may ran) n (rowids_fewer n (7 + n) db (omega arith) has)
      (subst (AreLow n) (sym (ap (put_all (db 1)) (week_news db s))) (low_all (week_from s) (db 1) n has.few has.stock)));
}
  where
    edits : (old new : State) (t : Tables) (count : ℕ) → MayRun old t → ExecutesInside 0 insert_week_text (week_params s) old new (Ok count)
        → Edits old new (week_edit old.now.trees s)
    edits old new t count may ran =
        inserts insert_week_text (week_params s) old new 1 (stock_at 1) insert_week_terms 7 count (week_says s).means
        refl refl refl (ready_of old t may ran.1.was_open) ran.0

    reason : (old new : State) (t : Tables) (e : Error) → HasRowids 7 old.now.trees → MayRun old t → MayAddWeek s t → IsUp old
        → ExecutesInside 0 insert_week_text (week_params s) old new (Err e) → HasReason old new e
    reason old new t e rowids may fits up =
        let sees = may.sees up.is_open in
        let db = old.now.trees in
        let shown = sees.rows.stock in
        let news = next_rows (db 1) (week_from s) in
        let fit : (row : Row) → Has news row → IsFit (stock_at 1) db row = λ row.
        next_fit db (week_from s) (db 1) row rowids.few rowids.stock (λ c there id in_range.
        let on = on_night 7 s c there in
        stock_fit db id c in_range (ap not (range_holds c.kind 0 3 (omega arith) (omega (arith, on.kind, fits.kind))))
        (omega (arith, on.allot, on.free, fits.free)) (rw (on.supplier, on.product) (fits.short))) in
        let single : (row new : Row) → Has (db 1) row → Has news new → agrees row new ≡ false = λ row new was added.
        let it = next_is (week_from s) (db 1) new added in
        let none = all_has (λ x. LacksCell x t) (week_from s) it.cell fits.lacks it.among in
        let off = rows_all stock_columns (db 1) t.stock (λ r. agrees r (numbered_row stock_columns (it.id, it.cell)) ≡ false) (λ x. is_cell it.cell x ≡ false) shown
        (λ p other. agree_cell it.id it.cell p ∙ other) (each_other it.cell t.stock none) in
        subst (λ r. agrees row r ≡ false) (sym it.is) (all_has (λ r. agrees r (numbered_row stock_columns (it.id, it.cell)) ≡ false) (db 1) row off was) in
        let safe : IsSafe db (stock_edit news) =
        stock_safe db news (table_of stock_columns (db 1) t.stock shown) (obeys_desk old t sees) fit (fresh_next (week_from s) (db 1) t.stock shown)
        single (next_apart 7 s (db 1)) refl in
        write_reason insert_week_text (insert 1 insert_week_terms 7) (week_params s) (week_says s).means (week_says s).whole refl refl old new up sees.schema
        (insert_goes sees.schema.extra sees.schema.are old (week_params s) 1 (stock_at 1) insert_week_terms 7 refl refl refl ((week_says s).types sees.schema.extra) up.unlimited
        (subst (λ rows. IsSafe db (stock_edit rows)) (sym (week_news db s)) safe)) e
