-- A value is read back from its text, and a text that is read is the text of its value. For the laws of the texts.
use Rattle.std.proofs.Common.{◌≡◌, ℕ, Bool, true, cond, ◌==◌, List, [], ◌∷◌, refl, sym, ap, ◌∙◌, Option, Some, None, find, bytes_eq, eqb-true, arith}
use Rattle.std.specs.List.{list_all}
use Rattle.std.proofs.lemmas.List.Splits.{join_with_byte-slice_split}
use Rattle.allotment.specs.Cells.{kind_number}
use Rattle.allotment.specs.Limits.{is_code, is_good_cell, is_night}
use Rattle.allotment.specs.Nights.{night_in, night_text}
use Rattle.allotment.specs.Texts.{parts, joined, slash, kinds, kind_letter, kind_word, kind_of_letter, kind_of_number, kind_of_word, cell_from, cell_of_parts, cell_in, cell_text}
use Rattle.allotment.specs.declared.codes.Kind.{Kind}
use Rattle.allotment.specs.declared.cells.Cell.{Cell}
use Rattle.allotment.proofs.TestLemmas.{and_both, and_make, keep_if_some, keep_if_yes, same_bytes}
use Rattle.allotment.proofs.NightLemmas.{night_in-night_text, night_text-night_in}
use Rattle.allotment.proofs.PlainLemmas.{is_plain, letter_plain, code_plain, night_plain}
use Rattle.allotment.proofs.JoinLemmas.{plain_parts}

-- Kinds.

-- the first element passes, or a later one does
find_if : {X : Type 0} (test : X → Bool) (y x : X) (xs : List X) (b : Bool) → test y ≡ b
    → (find test xs ≡ Some x → test x ≡ true) → cond b (Some y) (find test xs) ≡ Some x → test x ≡ true
find_if test y x xs b t h e = grind arith

-- what a search finds passes
pub find_passes : {X : Type 0} (test : X → Bool) (xs : List X) (x : X) → find test xs ≡ Some x → test x ≡ true
find_passes test [] x e = cc
find_passes test (y ∷ ys) x e = find_if test y x ys (test y) refl (find_passes test ys x) e

-- a kind that is read of a number has it
pub number_read : (n : ℕ) (k : Kind) → kind_of_number n ≡ Some k → n ≡ kind_number k
number_read n k e = sym (eqb-true (kind_number k) n (find_passes (λ kind. kind_number kind == n) kinds k e))

-- a kind that is read of a letter has it
pub letter_read : (text : List ℕ) (k : Kind) → kind_of_letter text ≡ Some k → text ≡ kind_letter k
letter_read text k e = sym (same_bytes _ text (find_passes (λ kind. bytes_eq (kind_letter kind) text) kinds k e))

-- a kind that is read of a word has it
pub word_read : (text : List ℕ) (k : Kind) → kind_of_word text ≡ Some k → text ≡ kind_word k
word_read text k e = sym (same_bytes _ text (find_passes (λ kind. bytes_eq (kind_word kind) text) kinds k e))

-- the number of a kind is read back as the kind
pub number_again : (k : Kind) → kind_of_number (kind_number k) ≡ Some k
number_again k = grind arith

-- the letter of a kind is read back as the kind
pub letter_again : (k : Kind) → kind_of_letter (kind_letter k) ≡ Some k
letter_again k = grind arith

-- the word of a kind is read back as the kind
pub word_again : (k : Kind) → kind_of_word (kind_word k) ≡ Some k
word_again k = grind arith

-- Cells.

-- what the parts of a cell say
record ReadsCell (parts_text : List ℕ) (x : Cell) : Type 0 where
  pub good : is_good_cell x ≡ true
  pub spelled : cell_text x ≡ parts_text

-- the kind and the night of a cell that was made of options
cell_made : (a s p t : List ℕ) (k : Option Kind) (n : Option ℕ) (x : Cell) → kind_of_letter a ≡ k → night_in t ≡ n
    → cell_from k s p n ≡ Some x → ReadsCell (joined slash (a ∷ s ∷ p ∷ t ∷ [])) x
cell_made a s p t None n x is falls e = cc
cell_made a s p t (Some kind) None x is falls e = cc
cell_made a s p t (Some kind) (Some night) x is falls e =
    let kept = keep_if_some is_good_cell (record { kind = kind; supplier = s; product = p; night = night }) x e in
    let letter = letter_read a kind is in
    record {
      good = kept.1;
      spelled = ap cell_text (sym kept.0) ∙ ap (λ z. joined slash (z ∷ s ∷ p ∷ night_text night ∷ [])) (sym letter)
          ∙ ap (λ z. joined slash (a ∷ s ∷ p ∷ z ∷ [])) ((night_text-night_in t night falls).1);
    }

-- only four parts make a cell, and they spell it
parts_made : (ps : List (List ℕ)) (x : Cell) → cell_of_parts ps ≡ Some x → ReadsCell (joined slash ps) x
parts_made (a ∷ s ∷ p ∷ t ∷ []) x e = cell_made a s p t (kind_of_letter a) (night_in t) x refl refl e
parts_made _ x e = cc

-- a text that is read as a cell is the text of that cell
pub cell_read : (text : List ℕ) (x : Cell) → cell_in text ≡ Some x → (is_good_cell x ≡ true) × (text ≡ cell_text x)
cell_read text x e =
    let reads = parts_made (parts slash text) x e in
    (reads.good, sym (reads.spelled ∙ join_with_byte-slice_split slash text))

-- the limits of a cell, one by one
pub record IsSound (x : Cell) : Type 0 where
  pub supplier : is_code x.supplier ≡ true
  pub product : is_code x.product ≡ true
  pub night : is_night x.night ≡ true

-- a good cell keeps them
pub is_sound : (x : Cell) → is_good_cell x ≡ true → IsSound x
is_sound x e = grind (arith, and_both)

-- the four parts of a cell contain no `/`
four_plain : (x : Cell) → IsSound x
    → list_all is_plain (kind_letter x.kind ∷ x.supplier ∷ x.product ∷ night_text x.night ∷ []) ≡ true
four_plain x g = grind (arith, and_make, letter_plain, code_plain, night_plain)

-- the four parts of a cell are read as the cell
pub four_again : (x : Cell) → is_good_cell x ≡ true
    → cell_of_parts (kind_letter x.kind ∷ x.supplier ∷ x.product ∷ night_text x.night ∷ []) ≡ Some x
four_again x e =
    ap (λ k. cell_from k x.supplier x.product (night_in (night_text x.night))) (letter_again x.kind)
    ∙ ap (λ n. cell_from (Some x.kind) x.supplier x.product n) (night_in-night_text x.night (is_sound x e).night)
    ∙ keep_if_yes is_good_cell x e

-- the text of a cell is read back as the cell
pub cell_again : (x : Cell) → is_good_cell x ≡ true → cell_in (cell_text x) ≡ Some x
cell_again x e = simp (plain_parts, four_plain, is_sound, four_again)
