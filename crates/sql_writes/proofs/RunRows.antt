-- Rows of the cells of a run, how many cells have one, and the places that a run gets in those and in new ones. For RunLemmas.
use Rattle.std.proofs.Common.{◌≡◌, ◌≤◌, ◌<◌, ◌+◌, ◌==◌, inl, inr, ℕ, zero, suc, List, [], ◌∷◌, ◌++◌, filter, length, cond, Bool, true, false, if◌then◌else◌, refl, sym, ap, ap₂, ◌∙◌, arith, bytes_eq, nat_le, ◌&&◌, ◌||◌, rules, subst, append-nil, append_assoc, map-id}
use Rattle.std.specs.List.{AllByRecursion, list_any}
use Rattle.std.proofs.lemmas.Bool.{cases_Bool, false_from_ne_true}
use Rattle.std.proofs.lemmas.Bool.Decides.{nat_tests}
use Rattle.sqlite_trees.specs.Tree.{IsAscending}
use Rattle.sqlite_rules.specs.Lists.{Has}
use Rattle.sqlite_rules.proofs.ListLemmas.{all_has, all_from, some_has}
use Rattle.sqlite_trees.proofs.ListLemmas.{filter_none, all_both, all_weaker}
use Rattle.desk_sql.proofs.Testing.{or_false}
use Rattle.desk_sql.proofs.Putting.{key_of, cell_of, both_cells}
use Rattle.desk_sql.specs.Rows.{StockRow}
use Rattle.desk_sql.specs.Stock.{is_cell, with_places, put}
use Rattle.sql_writes.specs.Weeks.{next_night, nights_from}
use Rattle.sql_writes.specs.Runs.{nights_later, is_until, put_rows, AreNew}
use Rattle.std.proofs.lemmas.List.Folds.{list_any-append}
use Rattle.desk_sql.specs.Lists.{changed}

-- Rows of one cell.

-- the row is of one of these cells
abbrev pub is_of : List StockRow → StockRow → Bool
is_of rows x = list_any (λ s. is_cell s x) rows

pub own_cell : (s : StockRow) → is_cell s s ≡ true
own_cell s = cell_of s s (record { kind = refl; supplier = refl; product = refl; night = refl })

-- a row of two cells makes them one
of_both : (s r x : StockRow) → is_cell s x ≡ true → is_cell r x ≡ true → is_cell s r ≡ true
of_both s r x one two = search (rules, arith, cell_of, key_of)

-- The nights of a run.

pub nights-more : (s : StockRow) (n : ℕ) → nights_from s (n + 1) ≡ nights_from s n ++ nights_later n s ∷ []
nights-more s zero = search (rules, arith)
nights-more s (suc n) = search (rules, arith, nights-more (next_night s) n)

-- what holds of a row, and after each of its nights of the next, holds of all nights from the row on
pub nights_all : (P : StockRow → Type 0) → ((x : StockRow) → P x → P (next_night x)) → (n : ℕ) (s : StockRow) → P s
    → AllByRecursion P (nights_from s n)
nights_all P step zero s own = tt
nights_all P step (suc n) s own = (own, nights_all P step n (next_night s) (step s own))

-- the night is one of so many from the first on
in_nights : ℕ → ℕ → ℕ → Bool
in_nights first zero m = false
in_nights first (suc n) m = (m == first) || in_nights (first + 1) n m

interval : (n first m : ℕ) → in_nights first (suc n) m ≡ (nat_le first m && nat_le m (first + n))
unfolding in_nights
interval zero first m = search (rules, arith, or_false, nat_tests)
interval (suc n) first m = search (rules, arith, nat_tests, interval n (first + 1))

-- the row is of one of the run's cells if it is of the product, and of one of the nights
of_nights : (n : ℕ) (s x : StockRow)
    → is_of (nights_from s n) x ≡ ((x.kind == s.kind) && (bytes_eq x.supplier s.supplier && (bytes_eq x.product s.product && in_nights s.night n x.night)))
unfolding in_nights
of_nights zero s x = search (rules, arith)
of_nights (suc n) s x = search (rules, arith, of_nights n (next_night s))

pub of_run : (n : ℕ) (s x : StockRow) → is_until s (s.night + n) x ≡ is_of (nights_from s (suc n)) x
of_run n s x = search (rules, arith, interval, of_nights)

-- the cells of a run are apart
abbrev pub AreDistinct : List StockRow → Type 0
AreDistinct rows = IsAscending (λ (a b : StockRow). is_cell a b ≡ false) rows

later_off : (n : ℕ) (s t : StockRow) → s.night < t.night → AllByRecursion (λ q. is_cell s q ≡ false) (nights_from t n)
later_off zero s t low = tt
later_off (suc n) s t low = search (rules, arith, false_from_ne_true, key_of, later_off n s (next_night t) (omega (arith, low)))

pub run_apart : (n : ℕ) (s : StockRow) → AreDistinct (nights_from s n)
run_apart zero s = tt
run_apart (suc n) s = (later_off n s (next_night s) (omega arith), run_apart n (next_night s))

-- Counts.

filter_few : {X : Type 0} (p : X → Bool) (xs : List X) → length (filter p xs) ≤ length xs
filter_few p [] = omega arith
filter_few p (x ∷ xs) = search (rules, arith, cases_Bool, filter_few p xs)

-- where all elements are counted, each passes; where none is, none does
pub all_pass : {X : Type 0} (p : X → Bool) (xs : List X) → length (filter p xs) ≡ length xs → AllByRecursion (λ x. p x ≡ true) xs
all_pass p [] full = tt
all_pass p (x ∷ xs) full = search (rules, arith, cases_Bool, filter_few, all_pass p xs)

pub none_pass : {X : Type 0} (p : X → Bool) (xs : List X) → length (filter p xs) ≡ 0 → AllByRecursion (λ x. p x ≡ false) xs
none_pass p [] empty = tt
none_pass p (x ∷ xs) empty = search (rules, arith, cases_Bool, none_pass p xs)

-- the elements that pass one of two tests, where none passes both
filter_either : {X : Type 0} (p q : X → Bool) (xs : List X) → ((x : X) → Has xs x → p x ≡ true → q x ≡ false)
    → length (filter (λ x. p x || q x) xs) ≡ length (filter p xs) + length (filter q xs)
filter_either p q [] apart = refl
filter_either p q (x ∷ xs) apart = search (rules, arith, cases_Bool, filter_either p q xs)

-- a cell has one row, or none
single : (s : StockRow) (cells : List StockRow) → AreDistinct cells
    → length (filter (is_cell s) cells) ≡ (if list_any (is_cell s) cells then 1 else 0)
single s [] apart = refl
single s (c ∷ cells) apart = elim (cases_Bool (is_cell s c)) [
  | inl on ↦ (
      let others : AllByRecursion (λ x. is_cell s x ≡ false) cells = all_from (λ x. is_cell s x ≡ false) cells (λ x there.
      false_from_ne_true (is_cell s x) (λ same.
      let bad : true ≡ false = sym (both_cells s c x on same) ∙ all_has (λ x. is_cell c x ≡ false) cells x apart.0 there in cc)) in
      rw (on, filter_none (is_cell s) cells others) refl)
  | inr off ↦ rw off (single s cells apart.1)
]

-- as many rows are of the cells as cells have a row
pub known_count : (rows cells : List StockRow) → AreDistinct rows → AreDistinct cells
    → length (filter (is_of rows) cells) ≡ length (filter (λ s. list_any (is_cell s) cells) rows)
known_count [] cells own apart = ap length (filter_none (λ _. false) cells (all_from _ cells (λ _ _. refl)))
known_count (s ∷ rows) cells own apart =
    filter_either (is_cell s) (is_of rows) cells other
    ∙ ap₂ ◌+◌ (single s cells apart) (known_count rows cells own.1 apart)
    ∙ last (list_any (is_cell s) cells)
  where
    other : (x : StockRow) → Has cells x → is_cell s x ≡ true → is_of rows x ≡ false
    other x there on = false_from_ne_true (is_of rows x) (λ same.
        let r = some_has (λ q. is_cell q x) rows same in
        let bad : true ≡ false = sym (of_both s r.0 x on r.2) ∙ all_has (λ q. is_cell s q ≡ false) rows r.0 own.0 r.1 in cc)

    known : StockRow → Bool
    known q = list_any (is_cell q) cells

    last : (b : Bool) → (if b then 1 else 0) + length (filter known rows) ≡ length (cond b (s ∷ filter known rows) (filter known rows))
    last true = omega arith
    last false = omega arith

-- Puts.

-- a change of places keeps what does not depend on them
kept : (w : StockRow) (p : StockRow → Bool) → ((x : StockRow) → p (with_places w x) ≡ p x) → (x : StockRow) (b : Bool)
    → p (if b then with_places w x else x) ≡ p x
kept w p same x true = same x
kept w p same x false = refl

-- Rows with the places of one row.
module _ (w : StockRow) where
  abbrev HaveIts : List StockRow → Type 0
  HaveIts rows = AllByRecursion (λ (q : StockRow). (q.allot ≡ w.allot) × (q.free ≡ w.free)) rows

  -- such a row gives the same places
  as_its : (s x : StockRow) → s.allot ≡ w.allot → s.free ≡ w.free → with_places s x ≡ with_places w x
  as_its s x allot free = ap₂ (λ a f. record x { allot = a; free = f }) allot free

  own_places : (s : StockRow) → s.allot ≡ w.allot → s.free ≡ w.free → with_places w s ≡ s
  own_places s allot free = ap₂ (λ a f. record s { allot = a; free = f }) (sym allot) (sym free)

  -- a change of places keeps which cells have a row
  known_still : (s : StockRow) (p : StockRow → Bool) (cells : List StockRow)
      → list_any (is_cell s) (changed p (with_places w) cells) ≡ list_any (is_cell s) cells
  known_still s p [] = refl
  known_still s p (x ∷ cells) = ap₂ ◌||◌ (kept w (is_cell s) (λ _. refl) x (p x)) (known_still s p cells)

  abbrev now : List StockRow → List StockRow → List StockRow
  now rows cells = changed (is_of rows) (with_places w) cells

  -- one row: its places were given before the put, or are given by it
  put_there : (s : StockRow) (rows xs : List StockRow) → s.allot ≡ w.allot → s.free ≡ w.free
      → changed (is_cell s) (with_places s) (now (s ∷ rows) xs) ≡ now rows (changed (is_cell s) (with_places s) xs)
  put_there s rows [] allot free = refl
  put_there s rows (x ∷ xs) allot free = search (rules, arith, cases_Bool, kept, as_its, put_there s rows xs)

  put_last : (s : StockRow) (rows xs : List StockRow) → s.allot ≡ w.allot → s.free ≡ w.free → list_any (is_cell s) xs ≡ false
      → now (s ∷ rows) xs ++ s ∷ [] ≡ now rows (xs ++ s ∷ [])
  put_last s rows [] allot free none = search (rules, arith, cases_Bool, own_places)
  put_last s rows (x ∷ xs) allot free none = search (rules, arith, cases_Bool, put_last s rows xs)

  put_now : (s : StockRow) (rows cells : List StockRow) → s.allot ≡ w.allot → s.free ≡ w.free
      → put s (now (s ∷ rows) cells) ≡ now rows (put s cells)
  put_now s rows cells allot free = search (rules, arith, cases_Bool, known_still, put_there, put_last)

  -- cells whose rows have the places already get what they would get without
  pub put_after : (rows cells : List StockRow) → HaveIts rows → put_rows rows (now rows cells) ≡ put_rows rows cells
  put_after [] cells its = map-id cells
  put_after (s ∷ rows) cells its = search (rules, arith, put_now, put_after rows)

  -- where each cell has a row, the rows of all get the places
  put_joined : (s : StockRow) (rows : List StockRow) → s.allot ≡ w.allot → s.free ≡ w.free → (cells : List StockRow)
      → now rows (changed (is_cell s) (with_places s) cells) ≡ now (s ∷ rows) cells
  put_joined s rows allot free [] = refl
  put_joined s rows allot free (x ∷ xs) = search (rules, arith, cases_Bool, as_its, kept, put_joined s rows allot free xs)

  pub put_known : (rows cells : List StockRow) → HaveIts rows → AllByRecursion (λ s. list_any (is_cell s) cells ≡ true) rows
      → put_rows rows cells ≡ now rows cells
  put_known [] cells its known = sym (map-id cells)
  put_known (s ∷ rows) cells its known = search (rules, arith, put_known rows, put_joined, all_weaker, known_still)

-- New cells.

-- cells that have no row, and are apart, are new
all_new : (rows cells : List StockRow) → AreDistinct rows → AllByRecursion (λ s. list_any (is_cell s) cells ≡ false) rows → AreNew rows cells
all_new [] cells own none = tt
all_new (s ∷ rows) cells own none =
    search (rules, arith, all_new rows, all_both, list_any-append, false_from_ne_true, both_cells, own_cell)

-- new cells are put at the end
pub put_new : (rows cells : List StockRow) → AreNew rows cells → put_rows rows cells ≡ cells ++ rows
put_new [] cells new = sym (append-nil cells)
put_new (s ∷ rows) cells new = search (rules, arith, append_assoc, put_new rows (cells ++ s ∷ []) new.1)

-- A run whose rows were given its places, by how many of its cells have a row.
module _ (s : StockRow) (n night : ℕ) (at : night ≡ s.night + n) (run : List StockRow) (is : run ≡ nights_from s (suc n))
    (cells : List StockRow) (apart : AreDistinct cells) where
  abbrev given : List StockRow
  given = changed (is_until s night) (with_places s) cells

  given_is : given ≡ changed (is_of run) (with_places s) cells
  given_is = rw (at, is) (λ i. changed (λ x. of_run n s x i) (with_places s) cells)

  own : AreDistinct run
  own = rw is (run_apart (suc n) s)

  counted : length (filter (is_until s night) cells) ≡ length (filter (λ q. list_any (is_cell q) cells) run)
  counted = (rw (at, is) (λ i. length (filter (λ x. of_run n s x i) cells))) ∙ known_count run cells own apart

  its : AllByRecursion (λ (q : StockRow). (q.allot ≡ s.allot) × (q.free ≡ s.free)) run
  its = rw is (nights_all (λ (q : StockRow). (q.allot ≡ s.allot) × (q.free ≡ s.free)) (λ _ it. it) (suc n) s (refl, refl))

  -- what is put afterwards is what the cells would get without
  pub run_some : put_rows run given ≡ put_rows run cells
  run_some = ap (put_rows run) given_is ∙ put_after s run cells its

  -- all have one: nothing is left to be put
  pub run_known : length (filter (is_until s night) cells) ≡ length run → given ≡ put_rows run cells
  run_known full =
      given_is ∙ sym (put_known s run cells its (all_pass (λ q. list_any (is_cell q) cells) run (sym counted ∙ full)))

  -- none has one: they are new
  pub run_new : length (filter (is_until s night) cells) ≡ 0 → AreNew run given
  run_new none =
      let off = none_pass (λ q. list_any (is_cell q) cells) run (sym counted ∙ none) in
      subst (AreNew run) (sym given_is) (all_new run (changed (is_of run) (with_places s) cells) own
      (all_weaker (λ q. list_any (is_cell q) cells ≡ false)
      (λ q. list_any (is_cell q) (changed (is_of run) (with_places s) cells) ≡ false) (λ q none. known_still s q (is_of run) cells ∙ none) run off))
