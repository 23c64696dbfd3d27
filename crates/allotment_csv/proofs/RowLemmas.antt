-- The row of a record, and the first thing that is wrong with one that is none. For `rows`.
use Rattle.std.proofs.Common.{◌≡◌, ◌∙◌, ap, sym, refl, ℕ, List, [], ◌∷◌, ◌++◌, Bool, true, false, Option, Some, None, ◌&&◌, nat_le, bytes_eq, is_some, option_and_then, if◌then◌else◌, Result, Ok, Err, MatchResult, arith}
use Rattle.std.specs.Option.{ok_or}
use Rattle.allotment.specs.Cells.{the_cell}
use Rattle.allotment.specs.Limits.{is_between, is_code, is_good_cell, is_night, most_places}
use Rattle.allotment.specs.Making.{unless}
use Rattle.allotment.specs.Nights.{night_in, is_text_of, named_night, night_text}
use Rattle.allotment.specs.Rows.{allotted}
use Rattle.allotment.specs.Texts.{keep_if, kind_of_word, cell_from, places_in}
use Rattle.allotment.specs.declared.cells.Cell.{Cell}
use Rattle.allotment.specs.declared.cells.Row.{Row}
use Rattle.commands.specs.Batches.{is_good_row}
use Rattle.allotment.specs.declared.codes.Kind.{Kind}
use Rattle.allotment.proofs.TestLemmas.{and_both, and_make, keep_if_some, keep_if_none}
use Rattle.commands.specs.declared.replies.CsvCause.{CsvCause}
use Rattle.commands.specs.declared.replies.CsvCause.TheVariants as cause
use Rattle.allotment_csv.specs.Rows.{field_causes, record_causes, has_shape, row_from, row_of_record}
use Rattle.allotment_csv.specs.Results.{IsFirst}

-- Fields.

-- the causes of five fields, by whether each is what stands there
abbrev causes_by : Bool → Bool → Bool → Bool → List CsvCause
causes_by kind codes night places =
    unless kind cause.Kind ++ unless codes cause.Code ++ unless night cause.Night ++ unless places cause.Places

-- whether there is a value
found_none : {X : Type 0} (o : Option X) → o ≡ None → is_some o ≡ false
found_none o e = cc

found_some : {X : Type 0} (o : Option X) (x : X) → o ≡ Some x → is_some o ≡ true
found_some o x e = cc

-- the first text is no kind
pub no_kind : (kind supplier product night places : List ℕ) → kind_of_word kind ≡ None
    → IsFirst cause.Kind (field_causes (kind ∷ supplier ∷ product ∷ night ∷ places ∷ []))
no_kind kind supplier product night places none = (
  causes_by true (is_code supplier && is_code product) (is_some (night_in night)) (is_some (places_in places)),
  ap (λ b. causes_by b (is_code supplier && is_code product) (is_some (night_in night)) (is_some (places_in places)))
      (found_none (kind_of_word kind) none),
)

-- one of the codes is none
pub no_codes : (kind supplier product night places : List ℕ) (k : Kind) → kind_of_word kind ≡ Some k
    → (is_code supplier && is_code product) ≡ false
    → IsFirst cause.Code (field_causes (kind ∷ supplier ∷ product ∷ night ∷ places ∷ []))
no_codes kind supplier product night places k is none = (
  causes_by true true (is_some (night_in night)) (is_some (places_in places)),
  ap (λ b. causes_by b (is_code supplier && is_code product) (is_some (night_in night)) (is_some (places_in places)))
      (found_some (kind_of_word kind) k is)
      ∙ ap (λ b. causes_by true b (is_some (night_in night)) (is_some (places_in places))) none,
)

-- the supplier is no code
pub no_supplier : (kind supplier product night places : List ℕ) (k : Kind) → kind_of_word kind ≡ Some k
    → keep_if is_code supplier ≡ None
    → IsFirst cause.Code (field_causes (kind ∷ supplier ∷ product ∷ night ∷ places ∷ []))
no_supplier kind supplier product night places k is none =
    no_codes kind supplier product night places k is
    (ap (λ b. b && is_code product) (keep_if_none is_code supplier none))

-- whatever stands before it, a test that fails makes all fail
and_false : (b : Bool) → (b && false) ≡ false
and_false b = grind arith

-- the product is no code
pub no_product : (kind supplier product night places : List ℕ) (k : Kind) → kind_of_word kind ≡ Some k
    → keep_if is_code product ≡ None
    → IsFirst cause.Code (field_causes (kind ∷ supplier ∷ product ∷ night ∷ places ∷ []))
no_product kind supplier product night places k is none =
    no_codes kind supplier product night places k is
    (ap (λ b. is_code supplier && b) (keep_if_none is_code product none) ∙ and_false (is_code supplier))

-- what is kept is a code
is_one : (text code : List ℕ) → keep_if is_code text ≡ Some code → is_code text ≡ true
is_one text code kept = let one = keep_if_some is_code text code kept in ap is_code one.0 ∙ one.1

-- both codes are codes
both_codes : (supplier product s p : List ℕ) → keep_if is_code supplier ≡ Some s → keep_if is_code product ≡ Some p
    → (is_code supplier && is_code product) ≡ true
both_codes supplier product s p first second = grind (arith, is_one)

-- the text is no night
pub no_night : (kind supplier product night places : List ℕ) (k : Kind) (s p : List ℕ) → kind_of_word kind ≡ Some k
    → keep_if is_code supplier ≡ Some s → keep_if is_code product ≡ Some p → night_in night ≡ None
    → IsFirst cause.Night (field_causes (kind ∷ supplier ∷ product ∷ night ∷ places ∷ []))
no_night kind supplier product night places k s p is first second none = (
  causes_by true true true (is_some (places_in places)),
  ap (λ b. causes_by b (is_code supplier && is_code product) (is_some (night_in night)) (is_some (places_in places)))
      (found_some (kind_of_word kind) k is)
      ∙ ap (λ b. causes_by true b (is_some (night_in night)) (is_some (places_in places)))
      (both_codes supplier product s p first second)
      ∙ ap (λ b. causes_by true true b (is_some (places_in places))) (found_none (night_in night) none),
)

-- what depends on the places alone
up_to_places : (kind supplier product night places : List ℕ) (k : Kind) (s p : List ℕ) (n : ℕ)
    → kind_of_word kind ≡ Some k → keep_if is_code supplier ≡ Some s → keep_if is_code product ≡ Some p
    → night_in night ≡ Some n
    → field_causes (kind ∷ supplier ∷ product ∷ night ∷ places ∷ []) ≡ causes_by true true true (is_some (places_in places))
up_to_places kind supplier product night places k s p n is first second there =
    grind (arith, found_some (kind_of_word kind) k, found_some (night_in night) n, both_codes supplier product s p first)

-- the places are none
pub no_places : (kind supplier product night places : List ℕ) (k : Kind) (s p : List ℕ) (n : ℕ)
    → kind_of_word kind ≡ Some k → keep_if is_code supplier ≡ Some s → keep_if is_code product ≡ Some p
    → night_in night ≡ Some n → places_in places ≡ None
    → IsFirst cause.Places (field_causes (kind ∷ supplier ∷ product ∷ night ∷ places ∷ []))
no_places kind supplier product night places k s p n is first second there none = (
  [],
  up_to_places kind supplier product night places k s p n is first second there
      ∙ ap (λ b. causes_by true true true b) (found_none (places_in places) none),
)

-- the night that a text names is a night
named_is_night : (text : List ℕ) (named n : ℕ) → (if is_text_of text named then Some named else None) ≡ Some n
    → is_night n ≡ true
named_is_night text named n e = go (is_night named) refl e
  where
    go : (b : Bool) → is_night named ≡ b
        → (if b && bytes_eq (night_text named) text then Some named else None) ≡ Some n → is_night n ≡ true
    go true is found = whole (bytes_eq (night_text named) text) found
      where
        whole : (d : Bool) → (if d then Some named else None) ≡ Some n → is_night n ≡ true
        whole d one = grind arith
    go false is found = cc

-- what was read of the fields makes the row
pub the_row : (kind supplier product night places : List ℕ) (k : Kind) (s p : List ℕ) (n m : ℕ)
    → kind_of_word kind ≡ Some k → keep_if is_code supplier ≡ Some s → keep_if is_code product ≡ Some p
    → night_in night ≡ Some n → places_in places ≡ Some m
    → row_of_record (kind ∷ supplier ∷ product ∷ night ∷ places ∷ []) ≡ Some (allotted (the_cell k s p n) m)
the_row kind supplier product night places k s p n m is first second there some =
    grind (
      arith,
      keep_if_some is_code supplier s first,
      keep_if_some is_code product p second,
      is_one supplier s,
      is_one product p,
      named_is_night night (named_night night) n there,
    )

-- a reading that fails found nothing
pub found_nothing : {X E : Type 0} (o : Option X) (why e : E) → Err e ≡ ok_or o why → o ≡ None
found_nothing o why e is = grind arith

-- a reading that succeeds found its value
pub found_value : {X E : Type 0} (o : Option X) (why : E) (x : X) → Ok x ≡ ok_or o why → o ≡ Some x
found_value o why x is = grind arith

-- a record that has not the shape of a row is reported as such
pub shape_first : (fields : List (List ℕ)) → None ≡ keep_if has_shape fields → IsFirst cause.Shape (record_causes fields)
shape_first fields none =
    (field_causes fields, ap (λ b. unless b cause.Shape ++ field_causes fields) (keep_if_none has_shape fields (sym none)))

-- with the shape of a row, what is wrong is wrong with the fields
pub causes_of_fields : (fields texts : List (List ℕ)) → Some texts ≡ keep_if has_shape fields
    → record_causes fields ≡ field_causes texts
causes_of_fields fields texts kept =
    let one = keep_if_some has_shape fields texts (sym kept) in
    ap (λ b. unless b cause.Shape ++ field_causes fields) (ap has_shape one.0 ∙ one.1) ∙ ap field_causes one.0

-- the row of the record is that of the fields
pub row_of_fields : (fields texts : List (List ℕ)) → Some texts ≡ keep_if has_shape fields
    → row_of_record fields ≡ row_of_record texts
row_of_fields fields texts kept = ap row_of_record (keep_if_some has_shape fields texts (sym kept)).0

-- what holds of the fields holds of the record
pub record_read : (fields texts : List (List ℕ)) (result : Result Row CsvCause) → Some texts ≡ keep_if has_shape fields
    → MatchResult result (λ row. (field_causes texts ≡ []) × (row_of_record texts ≡ Some row)) (λ c. IsFirst c (field_causes texts))
    → MatchResult result (λ row. (record_causes fields ≡ []) × (row_of_record fields ≡ Some row)) (λ c. IsFirst c (record_causes fields))
record_read fields texts result kept is = grind (arith, causes_of_fields, row_of_fields)

-- Limits of rows.

-- a cell that is read keeps the limits
good_cell : (k : Option Kind) (s p : List ℕ) (n : Option ℕ) (x : Cell) → cell_from k s p n ≡ Some x → is_good_cell x ≡ true
good_cell k s p n x is = search (arith, keep_if_some)

-- places that are read keep the limits
few_places : (o : Option ℕ) (m : ℕ) → option_and_then (keep_if (is_between 0 most_places)) o ≡ Some m
    → nat_le m most_places ≡ true
few_places o m is = grind (arith, and_both, keep_if_some)

-- a row of both keeps the limits
good_parts : (c : Option Cell) (n : Option ℕ) (r : Row) → row_from c n ≡ Some r
    → ((x : Cell) → c ≡ Some x → is_good_cell x ≡ true) → ((m : ℕ) → n ≡ Some m → nat_le m most_places ≡ true)
    → is_good_row r ≡ true
good_parts c n r is cell places = grind (arith, and_make)

-- the row of a record keeps the limits
pub good_row : (fields : List (List ℕ)) (r : Row) → row_of_record fields ≡ Some r → is_good_row r ≡ true
good_row [] r is = cc
good_row (a ∷ []) r is = cc
good_row (a ∷ b ∷ []) r is = cc
good_row (a ∷ b ∷ c ∷ []) r is = cc
good_row (a ∷ b ∷ c ∷ d ∷ []) r is = cc
good_row (kind ∷ supplier ∷ product ∷ night ∷ places ∷ []) r is = search (arith, good_parts, good_cell, few_places)
good_row (a ∷ b ∷ c ∷ d ∷ e ∷ f ∷ more) r is = cc
