-- The result of a prefix of rows: which of the faults of all rows is the first. For `fronts`.
use Rattle.std.proofs.Common.{◌≡◌, ◌∙◌, ap, sym, subst, refl, ℕ, suc, ◌+◌, ◌<◌, ◌≤◌, List, [], ◌∷◌, ◌++◌, Bool, true, false, length, map, append_assoc, arith, Option, Some, None, ◌==◌, not, nat_le, if◌then◌else◌, Ok, Err, append-nil, eq-eqb, eqb-true, le-leb}
use Rattle.std.specs.List.{list_all}
use Rattle.std.proofs.Common.{length-append}
use Rattle.commands.proofs.RepeatLemmas.{distinct_if_none}
use Rattle.allotment.specs.Making.{unless, first_fault}
use Rattle.allotment.specs.declared.cells.Row.{Row}
use Rattle.commands.specs.Batches.{is_new_cell, is_good_row, repeat_behind, repeat_among}
use Rattle.commands.specs.declared.replies.CsvCause.{CsvCause}
use Rattle.commands.specs.declared.replies.CsvCause.TheVariants as cause
use Rattle.commands.specs.Limits.{most_rows}
use Rattle.allotment_csv.specs.Rows.{record_causes, row_of_record}
use Rattle.allotment_csv.specs.Files.{in_csv, rows_of, comes_again, causes_at, row_faults, faults_behind, rows_faults}
use Rattle.allotment_csv.specs.Fronts.{AreRows, Ends, IsFront, AreRowsOfBatch}
use Rattle.allotment_csv.specs.Results.{IsFirst}
use Rattle.allotment.proofs.TestLemmas.{and_make}
use Rattle.allotment_csv.proofs.RowLemmas.{good_row}

-- Rows of records.

-- so many rows as records
pub as_many_rows : (front : List (List (List ℕ))) (rows : List Row) → AreRows front rows → length front ≡ length rows
as_many_rows [] [] are = refl
as_many_rows [] (r ∷ rows) are = absurd are
as_many_rows (fields ∷ front) [] are = absurd are
as_many_rows (fields ∷ front) (r ∷ rows) are = ap (λ n. suc n) (as_many_rows front rows are.2)

-- one more row
pub one_more_row : (front : List (List (List ℕ))) (rows : List Row) (fields : List (List ℕ)) (r : Row)
    → AreRows front rows → record_causes fields ≡ [] → row_of_record fields ≡ Some r
    → AreRows (front ++ (fields ∷ [])) (rows ++ (r ∷ []))
one_more_row [] [] fields r are good is = (good, is, tt)
one_more_row [] (s ∷ rows) fields r are good is = absurd are
one_more_row (f ∷ front) [] fields r are good is = absurd are
one_more_row (f ∷ front) (s ∷ rows) fields r are good is = grind (arith, one_more_row front rows fields r are.2 good)

-- the rows of such records are these
pub rows_of-front : (front : List (List (List ℕ))) (rows : List Row) → AreRows front rows → rows_of front ≡ rows
rows_of-front [] [] are = refl
rows_of-front [] (r ∷ rows) are = absurd are
rows_of-front (fields ∷ front) [] are = absurd are
rows_of-front (fields ∷ front) (r ∷ rows) are = grind (arith, rows_of-front front rows)

-- such rows keep the limits
all_good : (front : List (List (List ℕ))) (rows : List Row) → AreRows front rows → list_all is_good_row rows ≡ true
all_good [] [] are = refl
all_good [] (r ∷ rows) are = absurd are
all_good (fields ∷ front) [] are = absurd are
all_good (fields ∷ front) (r ∷ rows) are = grind (arith, and_make, good_row, all_good front rows)

-- no rows are those of no records
no_rows : (front : List (List (List ℕ))) → AreRows front [] → front ≡ []
no_rows [] are = refl
no_rows (fields ∷ front) are = absurd are

-- Faults of rows.

-- a double negation is the test itself
not_not : (b : Bool) → not (not b) ≡ b
not_not b = grind arith

-- a row after good ones is wrong if its cell stands before, and otherwise not
pub row_faults-front : (earlier : List (List (List ℕ))) (before : List Row) (fields : List (List ℕ)) (r : Row)
    → AreRows earlier before → record_causes fields ≡ [] → row_of_record fields ≡ Some r → length before + 1 ≤ most_rows
    → row_faults earlier fields ≡ unless (is_new_cell r before) (in_csv (length before + 1) cause.Twice)
row_faults-front earlier before fields r are good is few = grind (arith, as_many_rows, le-leb, not_not, rows_of-front)

-- what a prefix adds to all that is wrong after some rows: nothing, or that a cell is repeated
abbrev ComesTo : List (List (List ℕ)) → List (List (List ℕ)) → List (List (List ℕ)) → Option ℕ → Type 0
ComesTo earlier front rest None = faults_behind earlier (front ++ rest) ≡ faults_behind (earlier ++ front) rest
ComesTo earlier front rest (Some i) = IsFirst (in_csv (i + 1) cause.Twice) (faults_behind earlier (front ++ rest))

-- a good row before the prefix does not change the result
behind_new : (earlier front rest : List (List (List ℕ))) (fields : List (List ℕ)) (o : Option ℕ)
    → row_faults earlier fields ≡ [] → ComesTo (earlier ++ (fields ∷ [])) front rest o
    → ComesTo earlier (fields ∷ front) rest o
behind_new earlier front rest fields o none comes = grind (arith, append_assoc)

-- a row before the prefix whose cell is repeated is the result
behind_old : (earlier front rest : List (List (List ℕ))) (fields : List (List ℕ)) (n : ℕ) (o : Option ℕ)
    → row_faults earlier fields ≡ in_csv (n + 1) cause.Twice ∷ [] → Some n ≡ o
    → ComesTo earlier (fields ∷ front) rest o
behind_old earlier front rest fields n None again is = cc
behind_old earlier front rest fields n (Some i) again is = (
  faults_behind (earlier ++ (fields ∷ [])) (front ++ rest),
  ap (λ xs. xs ++ faults_behind (earlier ++ (fields ∷ [])) (front ++ rest)) again
      ∙ ap (λ m. in_csv (m + 1) cause.Twice ∷ faults_behind (earlier ++ (fields ∷ [])) (front ++ rest)) cc,
)

-- the first row decides, or else the later ones
at_row : (earlier front rest : List (List (List ℕ))) (fields : List (List ℕ)) (before rows : List Row) (r : Row)
    → (o : Option ℕ) (b : Bool) → is_new_cell r before ≡ b
    → row_faults earlier fields ≡ unless (is_new_cell r before) (in_csv (length before + 1) cause.Twice)
    → (repeat_behind (before ++ (r ∷ [])) rows ≡ o → ComesTo (earlier ++ (fields ∷ [])) front rest o)
    → (if is_new_cell r before then repeat_behind (before ++ (r ∷ [])) rows else Some (length before)) ≡ o
    → ComesTo earlier (fields ∷ front) rest o
at_row earlier front rest fields before rows r o true new faults on is = grind (arith, behind_new)
at_row earlier front rest fields before rows r o false old faults on is =
    behind_old earlier front rest fields (length before) o
    (faults ∙ ap (λ b. unless b (in_csv (length before + 1) cause.Twice)) old)
    (sym (ap (λ b. if b then repeat_behind (before ++ (r ∷ [])) rows else Some (length before)) old) ∙ is)

-- the first row whose cell is repeated decides
comes_to : (earlier front rest : List (List (List ℕ))) (before rows : List Row) (o : Option ℕ)
    → AreRows earlier before → AreRows front rows → length before + length rows ≤ most_rows
    → repeat_behind before rows ≡ o → ComesTo earlier front rest o
comes_to earlier [] rest before [] None are good few is = ap (λ xs. faults_behind xs rest) (sym (append-nil earlier))
comes_to earlier [] rest before [] (Some i) are good few is = cc
comes_to earlier [] rest before (r ∷ rows) o are good few is = absurd good
comes_to earlier (fields ∷ front) rest before [] o are good few is = absurd good
comes_to earlier (fields ∷ front) rest before (r ∷ rows) o are good few is =
    at_row earlier front rest fields before rows r o (is_new_cell r before) refl
    (row_faults-front earlier before fields r are good.0 good.1 (omega (arith, few)))
    (λ later. comes_to (earlier ++ (fields ∷ [])) front rest (before ++ (r ∷ [])) rows o
    (one_more_row earlier before fields r are good.0 good.1) good.2
    (omega (arith, few, length-append before (r ∷ []))) later)
    is

-- All rows.

-- the first thing that is wrong is reported
told : {X F : Type 0} (value : X) (x : F) (xs : List F) → IsFirst x xs → first_fault value xs ≡ Err x
told value x xs first = ap (first_fault value) first.1

-- the first thing that is wrong stays the first where more is wrong after it
first-append : {F : Type 0} (x : F) (xs ys : List F) → IsFirst x xs → IsFirst x (xs ++ ys)
first-append x xs ys first = (first.0 ++ ys, ap (λ zs. zs ++ ys) first.1)

-- the suffix after a prefix
behind : (all front : List (List (List ℕ))) (rows : List Row) (wrong : Option CsvCause) → Ends all front rows wrong
    → (rest : List (List (List ℕ))) × (all ≡ front ++ rest)
behind all front rows wrong end = grind (arith, append-nil)

-- the result of a prefix, from the first row on
front_comes_to : (front rest : List (List (List ℕ))) (rows : List Row) (o : Option ℕ)
    → AreRows front rows → length rows ≤ most_rows → repeat_among rows ≡ o → ComesTo [] front rest o
front_comes_to front rest rows o good few is = comes_to [] front rest [] rows o tt good (omega (arith, few)) is

-- a cell is repeated in the prefix
pub whole_again : (all : List (List (List ℕ))) (rows : List Row) (wrong : Option CsvCause) (i : ℕ)
    → IsFront all rows wrong → repeat_among rows ≡ Some i
    → first_fault (rows_of all) (rows_faults all) ≡ Err (in_csv (i + 1) cause.Twice)
whole_again all rows wrong i is again =
    let rest = behind all is.front rows wrong is.end in
    told (rows_of all) (in_csv (i + 1) cause.Twice) (rows_faults all)
    (first-append (in_csv (i + 1) cause.Twice) (faults_behind [] all) (unless (nat_le 1 (length all)) (in_csv 0 cause.Empty))
    (subst (λ xs. IsFirst (in_csv (i + 1) cause.Twice) (faults_behind [] xs)) (sym rest.1)
    (front_comes_to is.front rest.0 rows (Some i) is.good is.few again)))

-- the first thing that is wrong with a row by itself is the first that is wrong with it
row_first : (earlier : List (List (List ℕ))) (n : ℕ) (fields : List (List ℕ)) (c : CsvCause) → length earlier ≡ n
    → IsFirst c (causes_at (n + 1) fields) → IsFirst (in_csv (n + 1) c) (row_faults earlier fields)
row_first earlier n fields c many first = (
  map (in_csv (n + 1)) first.0 ++ unless (not (comes_again earlier fields)) (in_csv (n + 1) cause.Twice),
  ap (λ m. map (in_csv (m + 1)) (causes_at (m + 1) fields) ++ unless (not (comes_again earlier fields)) (in_csv (m + 1) cause.Twice)) many
      ∙ ap (λ cs. map (in_csv (n + 1)) cs ++ unless (not (comes_again earlier fields)) (in_csv (n + 1) cause.Twice)) first.1,
)

-- the prefix repeats no cell, and the record after it is no row
pub whole_stopped : (all : List (List (List ℕ))) (rows : List Row) (c : CsvCause)
    → IsFront all rows (Some c) → repeat_among rows ≡ None
    → first_fault (rows_of all) (rows_faults all) ≡ Err (in_csv (length rows + 1) c)
whole_stopped all rows c is none =
    let end = is.end in
    let x = in_csv (length rows + 1) c in
    let first : IsFirst x (faults_behind is.front (end.fields ∷ end.later))
    = first-append x (row_faults is.front end.fields) (faults_behind (is.front ++ (end.fields ∷ [])) end.later)
    (row_first is.front (length rows) end.fields c (as_many_rows is.front rows is.good) end.first) in
    told (rows_of all) x (rows_faults all)
    (first-append x (faults_behind [] all) (unless (nat_le 1 (length all)) (in_csv 0 cause.Empty))
    (subst (λ xs. IsFirst x (faults_behind [] xs)) (sym end.parts)
    (subst (λ fs. IsFirst x fs)
    (sym (front_comes_to is.front (end.fields ∷ end.later) rows None is.good is.few none)) first)))

-- there is no row
pub whole_empty : (all : List (List (List ℕ))) (rows : List Row) → IsFront all rows None → rows ≡ []
    → first_fault (rows_of all) (rows_faults all) ≡ Err (in_csv 0 cause.Empty)
whole_empty all rows is none = grind (arith, no_rows)

-- nothing is wrong
pub whole_good : (all : List (List (List ℕ))) (rows : List Row) → IsFront all rows None → repeat_among rows ≡ None
    → 1 ≤ length rows → first_fault (rows_of all) (rows_faults all) ≡ Ok rows
whole_good all rows is none some =
    ap (λ xs. first_fault (rows_of xs) (rows_faults xs)) is.end
    ∙ ap (λ fs. first_fault (rows_of is.front) (fs ++ unless (nat_le 1 (length is.front)) (in_csv 0 cause.Empty)))
    (ap (faults_behind []) (sym (append-nil is.front)) ∙ front_comes_to is.front [] rows None is.good is.few none)
    ∙ ap (λ n. first_fault (rows_of is.front) (unless (nat_le 1 n) (in_csv 0 cause.Empty))) (as_many_rows is.front rows is.good)
    ∙ ap (λ b. first_fault (rows_of is.front) (unless b (in_csv 0 cause.Empty))) (le-leb 1 (length rows) some)
    ∙ ap (λ xs. Ok xs) (rows_of-front is.front rows is.good)

-- rows without a fault make a batch
pub whole_of_batch : (all : List (List (List ℕ))) (rows : List Row) → IsFront all rows None → repeat_among rows ≡ None
    → 1 ≤ length rows → AreRowsOfBatch rows
whole_of_batch all rows is none some = grind (arith, all_good, distinct_if_none, le-leb)

-- Reading.

-- so many of these records were read, all rows, and these are left
pub record IsReadTo (all left : List (List (List ℕ))) (rows : List Row) : Type 0 where
  pub front : List (List (List ℕ))
  pub good : AreRows front rows
  pub parts : all ≡ front ++ left

-- one more row
pub read_to_more : (all left later : List (List (List ℕ))) (rows : List Row) (fields : List (List ℕ)) (r : Row)
    → IsReadTo all left rows → left ≡ fields ∷ later → record_causes fields ≡ [] → row_of_record fields ≡ Some r
    → IsReadTo all later (rows ++ (r ∷ []))
read_to_more all left later rows fields r is next good row =
    record {
      front = is.front ++ (fields ∷ []);
      good = one_more_row is.front rows fields r is.good good row;
      parts = is.parts ∙ ap (λ xs. is.front ++ xs) next ∙ sym (append_assoc is.front (fields ∷ []) later);
    }

-- no record is left
pub read_to_end : (all left : List (List (List ℕ))) (rows : List Row) → IsReadTo all left rows → left ≡ []
    → length rows ≤ most_rows → IsFront all rows None
read_to_end all left rows is none few = grind (arith, append-nil)

-- the next record is no row
pub read_to_stop : (all left later : List (List (List ℕ))) (rows : List Row) (fields : List (List ℕ)) (c : CsvCause)
    → IsReadTo all left rows → left ≡ fields ∷ later → IsFirst c (record_causes fields) → length rows < most_rows
    → IsFront all rows (Some c)
read_to_stop all left later rows fields c is next first few = grind (arith, le-leb)

-- the next record is one too many
pub read_to_many : (all left later : List (List (List ℕ))) (rows : List Row) (fields : List (List ℕ))
    → IsReadTo all left rows → left ≡ fields ∷ later → length rows ≡ most_rows → IsFront all rows (Some cause.Many)
read_to_many all left later rows fields is next full =
    record {
      front = is.front;
      good = is.good;
      few = omega (arith, full);
      end = record {
        fields = fields;
        later = later;
        parts = is.parts ∙ ap (λ xs. is.front ++ xs) next;
        first = (
          record_causes fields,
          ap (λ n. unless (nat_le (n + 1) most_rows) cause.Many ++ record_causes fields) full,
        );
      };
    }

-- no row is there
pub none_if_empty : (rows : List Row) (n : ℕ) → n ≡ length rows → (n == 0) ≡ true → rows ≡ []
none_if_empty [] n is empty = refl
none_if_empty (r ∷ rows) n is empty = absurd (omega (arith, is, eqb-true n 0 empty))

-- a row is there
pub some_if_not : (n m : ℕ) → n ≡ m → (n == 0) ≡ false → 1 ≤ m
some_if_not n m is some = grind (arith, eq-eqb)

-- an option without a value is `None`
pub none_if_not : {X : Type 0} (o : Option X) → ((x : X) → o ≡ Some x → ⊥) → o ≡ None
none_if_not o other = grind arith
