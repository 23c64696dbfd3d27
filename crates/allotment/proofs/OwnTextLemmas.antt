-- Two different rows have different texts, and so have two different wants. For the laws of the texts.
use Rattle.std.proofs.Common.{◌≡◌, ℕ, ◌≤◌, ◌<◌, ◌^◌, true, List, [], ◌∷◌, take, sym, ap, ◌∙◌, arith, append_assoc, Some, decimal, nat_le, leb-true}
use Rattle.std.specs.List.{list_all}
use Rattle.std.proofs.lemmas.Fmt.{decimal_injective}
use Rattle.allotment.specs.Want.{Wanted}
use Rattle.allotment.specs.Limits.{is_code, is_good_cell, is_night, is_want, most_nights, most_places}
use Rattle.allotment.specs.Nights.{night_in, night_text}
use Rattle.allotment.specs.Rows.{Allotted, allotted, is_row}
use Rattle.allotment.specs.Texts.{parts, joined, slash, kind_letter, kind_of_letter, cell_of_parts, row_text, want_text}
use Rattle.allotment.specs.declared.codes.Kind.{Kind}
use Rattle.allotment.specs.declared.codes.Kind.TheVariants.{Cover}
use Rattle.allotment.proofs.TestLemmas.{and_both, and_make}
use Rattle.allotment.proofs.NightLemmas.{night_in-night_text}
use Rattle.allotment.proofs.PlainLemmas.{is_plain, letter_plain, code_plain, night_plain, decimal_plain}
use Rattle.allotment.proofs.JoinLemmas.{plain_parts}
use Rattle.allotment.proofs.LawLemmas.{letter_again, is_sound, four_again}

-- Rows.

-- the parts of a row after its letter
abbrev four_of : Allotted → List (List ℕ)
four_of r = r.cell.supplier ∷ r.cell.product ∷ night_text r.cell.night ∷ decimal r.places ∷ []

-- a row is written as its five parts
row_five : (r : Allotted) → row_text r ≡ joined slash (kind_letter r.cell.kind ∷ four_of r)
row_five r = simp append_assoc

-- the places of a good row are few enough to be a number of the machine
few_places : (r : Allotted) → is_row r ≡ true → r.places < 2 ^ 64
few_places r e = grind (arith, and_both, leb-true)

-- the five parts of a row contain no `/`
row_plain : (r : Allotted) → is_row r ≡ true → list_all is_plain (kind_letter r.cell.kind ∷ four_of r) ≡ true
row_plain r e =
    grind (
      arith,
      is_sound r.cell (and_both (is_good_cell r.cell) (nat_le r.places most_places) e).0,
      and_both (is_good_cell r.cell) (nat_le r.places most_places),
      code_plain r.cell.supplier,
      code_plain r.cell.product,
      night_plain r.cell.night,
      decimal_plain r.places,
      few_places r,
    )

-- cutting the text of a row gives its parts back
row_parts : (r : Allotted) → is_row r ≡ true → parts slash (row_text r) ≡ kind_letter r.cell.kind ∷ four_of r
row_parts r e = ap (parts slash) (row_five r) ∙ plain_parts (kind_letter r.cell.kind) (four_of r) (row_plain r e)

-- rows with equal parts are equal
row_by_parts : (r s : Allotted) → is_row r ≡ true → is_row s ≡ true
    → kind_letter r.cell.kind ∷ four_of r ≡ kind_letter s.cell.kind ∷ four_of s → r ≡ s
row_by_parts r s good fine e =
    let one = and_both (is_good_cell r.cell) (nat_le r.places most_places) good in
    let other = and_both (is_good_cell s.cell) (nat_le s.places most_places) fine in
    let found : Some r.cell ≡ Some s.cell =
    sym (four_again r.cell one.0) ∙ ap (λ ps. cell_of_parts (take 4 ps)) e ∙ four_again s.cell other.0 in
    let cells : r.cell ≡ s.cell = cc in
    let places = decimal_injective r.places s.places (few_places r good) (few_places s fine) cc in
    ap (λ x. allotted x r.places) cells ∙ ap (λ n. allotted s.cell n) places

-- rows with the same text are the same
pub row_same : (r s : Allotted) → is_row r ≡ true → is_row s ≡ true → row_text r ≡ row_text s → r ≡ s
row_same r s good fine e =
    row_by_parts r s good fine (sym (row_parts r good) ∙ ap (parts slash) e ∙ row_parts s fine)

-- Wants.

-- the parts of a want after its letter
abbrev pub five_of : Wanted → List (List ℕ)
five_of w = w.supplier ∷ w.product ∷ night_text w.first ∷ decimal w.nights ∷ decimal w.count ∷ []

-- the limits of a want, one by one
pub record IsSoundWant (w : Wanted) : Type 0 where
  pub supplier : is_code w.supplier ≡ true
  pub product : is_code w.product ≡ true
  pub first : is_night w.first ≡ true
  pub nights : w.nights < 2 ^ 64
  pub count : w.count < 2 ^ 64

-- no kind may have more nights than cover
pub fewer_than_cover : (k : Kind) → most_nights k ≤ most_nights Cover
fewer_than_cover k = grind arith

-- a good want keeps them
pub is_sound_want : (w : Wanted) → is_want w ≡ true → IsSoundWant w
is_sound_want w e = grind (arith, and_both, leb-true, fewer_than_cover)

-- the six parts of a want contain no `/`
pub want_plain : (w : Wanted) → IsSoundWant w → list_all is_plain (kind_letter w.kind ∷ five_of w) ≡ true
want_plain w g = grind (arith, and_make, letter_plain, code_plain, night_plain, decimal_plain)

-- cutting the text of a want gives its parts back
want_parts : (w : Wanted) → IsSoundWant w → parts slash (want_text w) ≡ kind_letter w.kind ∷ five_of w
want_parts w g = plain_parts (kind_letter w.kind) (five_of w) (want_plain w g)

-- kinds with the same letter are the same
letter_same : (k l : Kind) → kind_letter k ≡ kind_letter l → k ≡ l
letter_same k l e = let both : Some k ≡ Some l = sym (letter_again k) ∙ ap kind_of_letter e ∙ letter_again l in cc

-- nights with the same text are the same
night_same : (m n : ℕ) → is_night m ≡ true → is_night n ≡ true → night_text m ≡ night_text n → m ≡ n
night_same m n p q e = cc (sym (night_in-night_text m p) ∙ ap night_in e ∙ night_in-night_text n q)

-- wants with equal parts are equal
want_by_parts : (w v : Wanted) → IsSoundWant w → IsSoundWant v
    → kind_letter w.kind ∷ five_of w ≡ kind_letter v.kind ∷ five_of v → w ≡ v
want_by_parts w v g h e = grind (arith, letter_same, night_same, decimal_injective)

-- wants with the same text are the same
pub want_same : (w v : Wanted) → is_want w ≡ true → is_want v ≡ true → want_text w ≡ want_text v → w ≡ v
want_same w v good fine e =
    want_by_parts w v (is_sound_want w good) (is_sound_want v fine) (sym (want_parts w (is_sound_want w good))
    ∙ ap (parts slash) e ∙ want_parts v (is_sound_want v fine))
