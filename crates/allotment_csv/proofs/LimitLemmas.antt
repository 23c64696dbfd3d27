-- What is read of an allotment file keeps the limits of a batch.
use Rattle.std.proofs.Common.{◌≡◌, ◌∙◌, ap, sym, subst, refl, ℕ, ◌+◌, ◌≤◌, List, [], ◌∷◌, ◌++◌, true, length, map, arith, length-append, Option, Some, None, nat_le, option_and_then, if◌then◌else◌, Result, Ok, unwrap_or, eqb-true, leb-true, le-leb}
use Rattle.std.specs.List.{list_all}
use Rattle.allotment.specs.Cells.{the_cell}
use Rattle.allotment.specs.Limits.{is_between, is_code, most_places}
use Rattle.allotment.specs.Nights.{night_in}
use Rattle.allotment.specs.Rows.{allotted}
use Rattle.allotment.specs.Texts.{keep_if, kind_of_word, number_in, places_in}
use Rattle.allotment.specs.declared.cells.Row.{Row}
use Rattle.allotment.specs.declared.codes.Kind.{Kind}
use Rattle.allotment.specs.declared.codes.Kind.TheVariants.{Flight}
use Rattle.allotment.proofs.NightLemmas.{night_text-night_in}
use Rattle.allotment.proofs.TestLemmas.{and_both, and_make, keep_if_some, keep_if_yes}
use Rattle.plan.proofs.ListFacts.{append_none, unless_none, first_fault_ok, some_is}
use Rattle.commands.specs.BatchData.{Batched}
use Rattle.commands.specs.Batches.{is_new_cell, repeat_behind, is_good_row, is_batch}
use Rattle.commands.specs.Names.{is_batch_name}
use Rattle.commands.specs.declared.replies.CsvCause.TheVariants as cause
use Rattle.commands.proofs.RepeatLemmas.{distinct_if_none}
use Rattle.commands.specs.Limits.{most_rows}
use Rattle.allotment_csv.specs.Rows.{field_causes, record_causes, row_of_record}
use Rattle.allotment_csv.specs.Files.{in_csv, rows_of, faults_behind, rows_faults, rows_in, named, batch_of}
use Rattle.allotment_csv.specs.Fronts.{AreRows}
use Rattle.allotment_csv.specs.declared.faults.CsvFault.{CsvFault}
use Rattle.allotment_csv.proofs.RowLemmas.{the_row}
use Rattle.allotment_csv.proofs.FrontLemmas.{as_many_rows, one_more_row, rows_of-front, row_faults-front}

-- A record.

-- what is kept of a number is within the limits
kept_within : (low high : ℕ) (o : Option ℕ) (n : ℕ) → option_and_then (keep_if (is_between low high)) o ≡ Some n
    → is_between low high n ≡ true
kept_within low high o n e = grind (arith, keep_if_some)

-- places that are read are few enough
places_few : (text : List ℕ) (n : ℕ) → places_in text ≡ Some n → nat_le n most_places ≡ true
places_few text n e = (and_both _ _ (kept_within 0 most_places (number_in text) n e)).1

-- the record is a row, which keeps the limits
record IsGood (fields : List (List ℕ)) : Type 0 where
  pub row : Row
  pub there : row_of_record fields ≡ Some row
  pub good : is_good_row row ≡ true

-- five fields without a fault are such a row
fields_good : (fields : List (List ℕ)) → length fields ≡ 5 → field_causes fields ≡ [] → IsGood fields
fields_good [] many e = absurd (omega (arith, many))
fields_good (kind ∷ []) many e = absurd (omega (arith, many))
fields_good (kind ∷ supplier ∷ []) many e = absurd (omega (arith, many))
fields_good (kind ∷ supplier ∷ product ∷ []) many e = absurd (omega (arith, many))
fields_good (kind ∷ supplier ∷ product ∷ night ∷ []) many e = absurd (omega (arith, many))
fields_good (kind ∷ supplier ∷ product ∷ night ∷ places ∷ []) many e =
    let last = append_none _ _ e in
    let third = append_none _ _ last.0 in
    let second = append_none _ _ third.0 in
    let codes = and_both _ _ (unless_none _ _ second.1) in
    let k : Kind = unwrap_or (kind_of_word kind) Flight in
    let n : ℕ = unwrap_or (night_in night) 0 in
    let m : ℕ = unwrap_or (places_in places) 0 in
    let is = some_is (kind_of_word kind) Flight (unless_none _ _ second.0) in
    let falls = some_is (night_in night) 0 (unless_none _ _ third.1) in
    let some = some_is (places_in places) 0 (unless_none _ _ last.1) in
    record {
      row = allotted (the_cell k supplier product n) m;
      there = the_row kind supplier product night places k supplier product n m is
          (keep_if_yes is_code supplier codes.0) (keep_if_yes is_code product codes.1) falls some;
      good = and_make _ _
          (and_make _ _ (and_make _ _ codes.0 codes.1) (night_text-night_in night n falls).0)
          (places_few places m some);
    }
fields_good (kind ∷ supplier ∷ product ∷ night ∷ places ∷ more ∷ later) many e = absurd (omega (arith, many))

-- a record without a fault is such a row
record_good : (fields : List (List ℕ)) → record_causes fields ≡ [] → IsGood fields
record_good fields e = grind (arith, append_none, and_both, unless_none, fields_good, eqb-true)

-- The records.

-- a list of which each element becomes one of no elements has none
map_none : {X Y : Type 0} (f : X → Y) (xs : List X) → map f xs ≡ [] → xs ≡ []
map_none f [] e = refl
map_none f (x ∷ xs) e = cc

-- after these rows the records are rows, which keep the limits, and of which none repeats a cell
record AreGood (before : List Row) (records : List (List (List ℕ))) : Type 0 where
  pub rows : List Row
  pub are : AreRows records rows
  pub good : list_all is_good_row rows ≡ true
  pub few : length before + length rows ≤ most_rows
  pub new : repeat_behind before rows ≡ None

-- one row, and the later ones
good_cons : (before : List Row) (fields : List (List ℕ)) (later : List (List (List ℕ))) (here : IsGood fields)
    → record_causes fields ≡ [] → is_new_cell here.row before ≡ true → AreGood (before ++ (here.row ∷ [])) later
    → AreGood before (fields ∷ later)
good_cons before fields later here none new behind =
    record {
      rows = here.row ∷ behind.rows;
      are = (none, here.there, behind.are);
      good = and_make _ _ here.good behind.good;
      few = omega (arith, behind.few, length-append before (here.row ∷ []));
      new = ap (λ b. if b then repeat_behind (before ++ (here.row ∷ [])) behind.rows else Some (length before)) new ∙ behind.new;
    }

-- records without a fault are such rows
records_good : (earlier : List (List (List ℕ))) (before : List Row) (records : List (List (List ℕ)))
    → AreRows earlier before → length before ≤ most_rows → faults_behind earlier records ≡ [] → AreGood before records
records_good earlier before [] are few e = grind arith
records_good earlier before (fields ∷ later) are few e =
    let parts = append_none _ _ e in
    let causes = append_none _ _ (map_none _ _ (append_none _ _ parts.0).0) in
    let here = record_good fields causes.1 in
    let low : length earlier + 1 ≤ most_rows = leb-true _ _ (unless_none _ _ causes.0) in
    let within : length before + 1 ≤ most_rows = omega (arith, low, as_many_rows earlier before are) in
    let new : is_new_cell here.row before ≡ true =
    unless_none _ (in_csv (length before + 1) cause.Twice)
    (sym (row_faults-front earlier before fields here.row are causes.1 here.there within) ∙ parts.0) in
    good_cons before fields later here causes.1 new
    (records_good (earlier ++ (fields ∷ [])) (before ++ (here.row ∷ [])) later
    (one_more_row earlier before fields here.row are causes.1 here.there)
    (omega (arith, within, length-append before (here.row ∷ []))) parts.1)

-- The file.

-- such rows under a good name are a batch
rows_batch : (name : List ℕ) (records : List (List (List ℕ))) → is_batch_name name ≡ true → rows_faults records ≡ []
    → is_batch name (rows_of records) ≡ true
rows_batch name records called e =
    let parts = append_none _ _ e in
    let is = records_good [] [] records tt (omega arith) parts.0 in
    let low : 1 ≤ length is.rows = omega (arith, leb-true _ _ (unless_none _ _ parts.1), as_many_rows records is.rows is.are) in
    let high : length is.rows ≤ most_rows = omega (arith, is.few) in
    subst (λ rows. is_batch name rows ≡ true) (sym (rows_of-front records is.rows is.are))
    (and_make _ _
    (and_make _ _ (and_make _ _ called (and_make _ _ (le-leb 1 (length is.rows) low) (le-leb (length is.rows) most_rows high))) is.good)
    (distinct_if_none is.rows is.new))

-- what is read of a file's bytes
read_batch : (name bytes : List ℕ) (rows : List Row) → is_batch_name name ≡ true → rows_in bytes ≡ Ok rows
    → is_batch name rows ≡ true
read_batch name bytes rows called e = grind (arith, first_fault_ok, rows_batch, append_none)

-- under a name
named_batch : (name : List ℕ) (r : Result (List Row) CsvFault) (b : Batched)
    → ((rows : List Row) → r ≡ Ok rows → is_batch name rows ≡ true) → named name r ≡ Ok b → is_batch b.name b.rows ≡ true
named_batch name r b good e = grind arith

-- a batch that is read keeps the limits
pub batch_keeps_limits : (name bytes : List ℕ) (b : Batched) → batch_of name bytes ≡ Ok b → is_batch b.name b.rows ≡ true
batch_keeps_limits name bytes b e = grind (arith, named_batch, read_batch)
