-- Rows that the store can hold, rowids that are free, and keys that are new. For the lemmas of each statement that writes.
use Rattle.std.proofs.Common.{◌≡◌, ◌<◌, ◌≤◌, ◌^◌, ◌+◌, ◌+ℤ◌, ◌<ℤ◌, ℕ, ℤ, pos, Some, List, [], ◌∷◌, map, filter, length, fold, Bool, true, false, not, ◌&&◌, Less, is_eq, refl, sym, ap, ap₂, subst, ◌∙◌, arith, nat_lt, nat_le, bytes_eq, ◌==◌, sum_by, ◌||◌, rules}
use Rattle.std.specs.Float.{NotNan}
use Rattle.std.specs.Float.Ieee
use Rattle.std.specs.List.{AllByRecursion, list_all}
use Rattle.std.proofs.lemmas.Int.{ints}
use Rattle.std.proofs.lemmas.Bool.{and_parts, not-true}
use Rattle.std.proofs.lemmas.Bool.Decides.{nat_tests}
use Rattle.std.proofs.lemmas.List.Elements.{All-from_recursion}
use Rattle.std.proofs.lemmas.Nat.Bits.{bit_at-zero}
use Rattle.std.specs.Int.{bit_at}
use Rattle.sqlite_value.specs.declared.value.Value.{Value}
use Rattle.sqlite_value.specs.declared.value.Value.TheVariants.{Int, Real, Text}
use Rattle.sqlite_value.specs.Order.{Row, number, bytes, exact, value_cmp}
use Rattle.sqlite_value.specs.Keys.{first_key, plain}
use Rattle.sqlite_trees.specs.Tree.{Trees, rowid, IsTable}
use Rattle.sqlite_trees.specs.View.{IsStorable, IsStorableRow}
use Rattle.sqlite_schema.specs.Rules.{equal, has_parent, table_reals, index_reals}
use Rattle.sqlite_rules.specs.Edit.{id_in, is_taken, next_rowid, IsOversized}
use Rattle.sqlite_rules.proofs.ListLemmas.{some_from, all_has, all_from, test_has, has_kept, has_either}
use Rattle.sqlite_rules.proofs.ProbeLemmas.{mapped_has}
use Rattle.sqlite.specs.Ops.{fits_i64, binary, is_false, from_truth}
use Rattle.sqlite_sql.specs.declared.ops.BinaryOp.TheVariants.{Compare, And, Or}
use Rattle.sqlite_sql.specs.declared.ops.CompareOp.TheVariants.{Eq, Ge, Le}
use Rattle.sqlite_value.specs.declared.keys.Collation.TheVariants.{Binary}
use Rattle.sqlite.specs.Table.{Table}
use Rattle.sqlite_sql.specs.Catalog.{entry_of}
use Rattle.sqlite_schema.specs.declared.schema.Index.{Index}
use Rattle.sqlite_tied.specs.Compute.{everything}
use Rattle.desk_sql.specs.Lists.{numbered_row, IsTableOf, IsNumbered}
use Rattle.desk_sql.specs.Rows.{whole, Tables, journey_row, Shows}
use Rattle.desk_sql.specs.Schema.{desk_schema, index_places, desk_with, IsExtra, to_journey}
use Rattle.desk_sql.specs.Writable.{AreLow, HasJourney}
use Rattle.desk_sql.proofs.Keyed.{int_below, next_above, is_table, id_of, value_of, own_rise}
use Rattle.desk_sql.proofs.Testing.{eq_whole, eq_text, eq_value, ge_value, le_value}
use Rattle.sqlite_trees.proofs.ListLemmas.{all-map, all_from_map, all_weaker}

-- Sizes.

abbrev is_real : Value → Bool
is_real (Real x) = true
is_real _ = false

int_number : (n : ℤ) → NotNan (exact n)
unfolding Ieee.is_nan
int_number n = search (rules, arith)

number_is : (v : Value) → is_real v ≡ false → NotNan (number v)
unfolding Ieee.is_nan
number_is v e = search (rules, arith, int_number)

numbers_are : (row : Row) → list_all (λ v. not (is_real v)) row ≡ true → AllByRecursion (λ v. NotNan (number v)) row
numbers_are row all = all_from (λ v. NotNan (number v)) row (λ v there. number_is v (not-true (is_real v) (test_has (λ v. not (is_real v)) row v all there)))

-- the row has from one to 2000 values and none is a float
abbrev is_plain : Row → Bool
is_plain row = (nat_lt 0 (length row) && nat_le (length row) 2001) && list_all (λ v. not (is_real v)) row

-- a row of integers, texts and bytes can be stored, if it is short
pub storable : (reals : ℕ) (row : Row) → reals ≡ 0 → is_plain row ≡ true → sum_by (λ v. 18 + length (bytes v)) row ≤ 10 ^ 9 → IsStorable reals row
storable reals row none plainly short =
    let parts = and_parts (nat_lt 0 (length row) && nat_le (length row) 2001) (list_all (λ v. not (is_real v)) row) plainly in
    record {
      typed = λ c one. absurd (let zero : bit_at reals c ≡ 0 = ap (λ r. bit_at r c) none ∙ bit_at-zero c in omega (arith, zero, one));
      columns = long (length row) parts.0;
      numbers = All-from_recursion (λ v. NotNan (number v)) row (numbers_are row parts.1);
      short = short;
    }
  where
    long : (n : ℕ) → (nat_lt 0 n && nat_le n 2001) ≡ true → (0 < n) × (n ≤ 2001)
    long n h = search (rules, arith, and_parts, nat_tests)

-- the row fits the store, and so does its entry in each index, whatever indexes there are beside those of the keys
abbrev pub NeverOversized : Table → Row → Type 0
NeverOversized table row = (extra : List Index) → AllByRecursion IsExtra extra → ¬ IsOversized (desk_with extra) table row

-- the entry of the row under these columns fits the store
abbrev EntryFits : Table → Row → List ℕ → Type 0
EntryFits table row columns = IsStorable (index_reals (table_reals table) columns) (entry_of columns row)

alike : (a b : ℕ) → a ≡ b → (a == b) ≡ true
alike a b same = grind (arith, nat_tests)

extra_fits : (table : Table) (row : Row) (i : Index) → IsExtra i → i.table ≡ table.tree
    → AllByRecursion (λ (p : ℕ × List ℕ). EntryFits table row p.1) (filter (λ (p : ℕ × List ℕ). p.0 == table.tree) index_places)
    → EntryFits table row i.columns
extra_fits table row i it of entries = search (rules, arith, all_has, has_kept, alike)

pub held_from : (table : Table) (row : Row) → IsStorableRow (table_reals table) row
    → AllByRecursion (λ (i : Index). EntryFits table row i.columns) (filter (λ (i : Index). i.table == table.tree) desk_schema.indexes)
    → AllByRecursion (λ (p : ℕ × List ℕ). EntryFits table row p.1) (filter (λ (p : ℕ × List ℕ). p.0 == table.tree) index_places)
    → NeverOversized table row
held_from table row whole keys others extra are x = search (rules, arith, has_either, all_has, has_kept, alike, extra_fits)

-- Rowids.

pub fits_whole : (n : ℕ) → n < 2 ^ 63 → fits_i64 (pos n) ≡ true
fits_whole n low = grind (arith, ints, nat_tests)

pub fits_int : (z : ℤ) → pos 0 <ℤ z → z <ℤ pos (2 ^ 63) → fits_i64 z ≡ true
fits_int z up low = search (rules, arith, fits_whole, ints)

-- the next rowid is positive, and so many are left from it on
pub next_low : (n : ℕ) (d : ℤ) (rows : List Row) → AreLow n rows → pos 0 <ℤ d → (d +ℤ pos n) <ℤ (pos (2 ^ 63) +ℤ pos 1)
    → (pos 0 <ℤ fold (λ _ r. id_in (rowid r) +ℤ pos 1) d rows) × ((fold (λ _ r. id_in (rowid r) +ℤ pos 1) d rows +ℤ pos n) <ℤ (pos (2 ^ 63) +ℤ pos 1))
next_low n d [] low up under = (up, under)
next_low n d (r ∷ rows) low up under =
    next_low n (id_in (rowid r) +ℤ pos 1) rows low.1 (omega (arith, ints, low.0.0)) (omega (arith, ints, low.0.1))

pub next_fits : (rows : List Row) → AreLow 1 rows → fits_i64 (next_rowid rows) ≡ true
next_fits rows low =
    let next = next_low 1 (pos 1) rows low (omega (arith, ints)) (omega (arith, ints)) in
    fits_int (next_rowid rows) next.0 (omega (arith, ints, next.1))

module _ {X : Type 0} (f : X → Row) (id : X → ℤ) (keyed : (x : X) → rowid (f x) ≡ Int (id x)) where
  -- no row has a rowid above all others
  pub untaken : (xs : List X) (n : ℤ) → AllByRecursion (λ x. id x <ℤ n) xs → (new : Row) → rowid new ≡ Int n → is_taken (map f xs) new ≡ false
  untaken [] n low new is = refl
  untaken (x ∷ xs) n low new is =
      let first : value_cmp (rowid (f x)) (rowid new) ≡ Less = rw (keyed x, is) (int_below (id x) n low.0) in
      ap₂ ◌||◌ (ap is_eq first) (untaken xs n low.1 new is)

-- the rowid that the store chooses is free
pub chosen_free : {X : Type 0} (columns : X → Row) (rows : List Row) (xs : List X) (x : X) → IsTableOf columns rows xs
    → is_taken rows (numbered_row columns (next_rowid rows, x)) ≡ false
chosen_free columns rows xs x it =
    rw it.rows_are (untaken (numbered_row columns) id_of (λ _. refl) it.numbered (next_rowid (map (numbered_row columns) it.numbered))
    (next_above (numbered_row columns) id_of (λ _. refl) it.numbered it.rise)
    (numbered_row columns (next_rowid (map (numbered_row columns) it.numbered), x)) refl)

-- so is a number above all others
pub number_free : {X : Type 0} (number : X → ℕ) (row_of : X → Row) (keyed : (x : X) → rowid (row_of x) ≡ whole (number x)) (rows : List Row)
    (xs : List X) (x : X) → IsNumbered number row_of rows xs → AllByRecursion (λ y. number y < number x) xs → is_taken rows (row_of x) ≡ false
number_free number row_of keyed rows xs x it below =
    rw it.rows_are (untaken row_of (λ y. pos (number y)) keyed xs (pos (number x))
    (all_weaker (λ y. number y < number x) (λ y. pos (number y) <ℤ pos (number x)) (λ y low. omega (arith, ints, low)) xs below) (row_of x) (keyed x))

pub table_of : {X : Type 0} (columns : X → Row) (rows : List Row) (xs : List X) → IsTableOf columns rows xs → IsTable rows
table_of columns rows xs it = rw it.rows_are (is_table (numbered_row columns) id_of (λ _. refl) it.numbered it.rise)

pub table_numbered : {X : Type 0} (number : X → ℕ) (row_of : X → Row) (keyed : (x : X) → rowid (row_of x) ≡ whole (number x)) (rows : List Row)
    (xs : List X) → IsNumbered number row_of rows xs → IsTable rows
table_numbered number row_of keyed rows xs it =
    rw it.rows_are (is_table row_of (λ y. pos (number y)) keyed xs (own_rise number row_of keyed xs it.rise))

-- Keys.

-- what holds of each value holds of each row
pub rows_all : {X : Type 0} (columns : X → Row) (rows : List Row) (xs : List X) (Q : Row → Type 0) (R : X → Type 0) → IsTableOf columns rows xs
    → ((p : ℤ × X) → R p.1 → Q (numbered_row columns p)) → AllByRecursion R xs → AllByRecursion Q rows
rows_all columns rows xs Q R it so all = search (rules, arith, all-map, all_weaker, value_of, all_from_map)

pub numbered_all : {X : Type 0} (row_of : X → Row) (rows : List Row) (xs : List X) (Q : Row → Type 0) (R : X → Type 0) → rows ≡ map row_of xs
    → ((x : X) → R x → Q (row_of x)) → AllByRecursion R xs → AllByRecursion Q rows
numbered_all row_of rows xs Q R are so all = subst (AllByRecursion Q) (sym are) (all-map Q row_of xs (all_weaker R _ so xs all))

pub key_text : (a b : List ℕ) → equal (first_key plain).collation (Text a) (Text b) ≡ bytes_eq a b
unfolding first_key
key_text a b = eq_text a b

pub key_whole : (a b : ℕ) → equal (first_key plain).collation (whole a) (whole b) ≡ (a == b)
unfolding first_key
key_whole a b = eq_whole a b

-- a row that names a journey in its first column has its parent
pub parent_first : (db : Trees) (t : Tables) (id : ℕ) (v : Value) (rest : Row) → Shows db t → HasJourney id t
    → has_parent desk_schema.tables db (v ∷ whole id ∷ rest) (to_journey 1) ≡ true
unfolding everything first_key
parent_first db t id v rest shown (j, there, is) =
    some_from _ (db 6) (journey_row j) (rw shown.journey.rows_are (mapped_has journey_row t.journey j there))
    (rw (eq_whole j.id id, alike j.id id is) refl)

pub parent_second : (db : Trees) (t : Tables) (id : ℕ) (v w : Value) (rest : Row) → Shows db t → HasJourney id t
    → has_parent desk_schema.tables db (v ∷ w ∷ whole id ∷ rest) (to_journey 2) ≡ true
unfolding everything first_key
parent_second db t id v w rest shown (j, there, is) =
    some_from _ (db 6) (journey_row j) (rw shown.journey.rows_are (mapped_has journey_row t.journey j there))
    (rw (eq_whole j.id id, alike j.id id is) refl)

-- Checks.

or_value : (x y : Bool) → is_false (binary Or (from_truth (Some x)) (from_truth (Some y))) ≡ not (x || y)
unfolding binary
or_value x y = search (rules, arith)

and_value : (x y : Bool) → is_false (binary And (from_truth (Some x)) (from_truth (Some y))) ≡ not (x && y)
unfolding binary
and_value x y = search (rules, arith)

-- the tests of the tables' checks, which fail only where they are false
abbrev pub is_bit : ℕ → Bool
is_bit n = not (is_false (binary Or (binary (Compare Eq Binary) (whole n) (whole 0)) (binary (Compare Eq Binary) (whole n) (whole 1))))

abbrev pub is_between : ℕ → ℕ → ℕ → Bool
is_between n low high = not (is_false (binary And (binary (Compare Ge Binary) (whole n) (whole low)) (binary (Compare Le Binary) (whole n) (whole high))))

-- 0 and 1 are in range
pub bit_holds : (n : ℕ) → n ≤ 1
    → is_false (binary Or (binary (Compare Eq Binary) (whole n) (whole 0)) (binary (Compare Eq Binary) (whole n) (whole 1))) ≡ false
bit_holds n low = search (rules, arith, eq_value, or_value)

-- the column is between two numbers
pub range_holds : (n low high : ℕ) → low ≤ n → n ≤ high
    → is_false (binary And (binary (Compare Ge Binary) (whole n) (whole low)) (binary (Compare Le Binary) (whole n) (whole high))) ≡ false
range_holds n low high from to = search (rules, arith, ge_value, le_value, and_value, nat_tests)

-- where the test of a range is not false, the column is at most its end
pub range_ends : (n low high : ℕ)
    → not (is_false (binary And (binary (Compare Ge Binary) (whole n) (whole low)) (binary (Compare Le Binary) (whole n) (whole high)))) ≡ true → n ≤ high
range_ends n low high holds = search (rules, arith, ge_value, le_value, and_value, nat_tests)
