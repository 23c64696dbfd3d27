-- The five fields of a record, by their places. For `fields`.
use Rattle.std.proofs.Common.{◌≡◌, ◌≢◌, ap, sym, subst, refl, ℕ, zero, suc, ◌-◌, ◌<◌, take, drop, List, [], ◌∷◌, Bool, true, false, length, arith, Some, None, ◌&&◌, bytes_eq, codes}
use Rattle.std.specs.List.{list_all}
use Rattle.std.proofs.lemmas.Bool.{and_parts}
use Rattle.std.specs.Str.{IsAscii, IsUtf8, is_utf8}
use Rattle.std.proofs.lemmas.Str.{IsAscii-drop, IsAscii-take, IsUtf8-from_ascii, IsUtf8-from_is_utf8, is_utf8-from_IsUtf8}
use Rattle.csv.specs.Records.{Row, cut_from, field_at, fields_of, text_of}
use Rattle.allotment.specs.Texts.{keep_if}
use Rattle.allotment.proofs.TestLemmas.{keep_if_no, keep_if_some, keep_if_none, keep_if_yes}
use Rattle.allotment_csv.specs.Fields.{text_at, is_at}
use Rattle.allotment_csv.specs.Rows.{has_shape, is_heading, are_same}

-- a text is what is kept of its bytes
pub text_there : (bytes : List ℕ) → IsUtf8 bytes → keep_if is_utf8 bytes ≡ Some bytes
text_there bytes text = keep_if_yes is_utf8 bytes (is_utf8-from_IsUtf8 bytes text)

-- each field of a text of ASCII is ASCII
ascii_at : (start : ℕ) (ends bytes : List ℕ) (i : ℕ) (field : List ℕ) → IsAscii bytes
    → field_at (cut_from start ends bytes) i ≡ Some field → IsAscii field
unfolding field_at cut_from
ascii_at start [] bytes i field ascii is = cc
ascii_at start (end ∷ ends) bytes zero field ascii is =
    let here : take (end - start) (drop start bytes) ≡ field = cc in
    subst IsAscii here (IsAscii-take (drop start bytes) (end - start) (IsAscii-drop bytes start ascii))
ascii_at start (end ∷ ends) bytes (suc i) field ascii is = ascii_at end ends bytes i field ascii is

-- a field of a text of ASCII is text
pub text_of_ascii : (r : Row) (i : ℕ) (field : List ℕ) → IsAscii (text_of r) → Some field ≡ field_at (fields_of r) i
    → IsUtf8 field
text_of_ascii r i field ascii is = IsUtf8-from_ascii field (ascii_at 0 r.ends r.bytes i field ascii (sym is))

-- where bytes are no text, nothing is kept of them
pub text_gone : (bytes : List ℕ) → (IsUtf8 bytes → ⊥) → keep_if is_utf8 bytes ≡ None
text_gone bytes other = keep_if_no is_utf8 bytes (go (is_utf8 bytes) refl)
  where
    go : (b : Bool) → is_utf8 bytes ≡ b → b ≡ false
    go true is = absurd (other (IsUtf8-from_is_utf8 bytes is))
    go false is = refl

-- where one field is no text, the fields are not kept
none_text : (fields : List (List ℕ)) (k : ℕ) → text_at fields k ≡ None → k < length fields
    → list_all is_utf8 fields ≡ false
unfolding field_at
none_text [] k none within = absurd (omega arith)
none_text (f ∷ fields) zero none within = ap (λ b. b && list_all is_utf8 fields) (keep_if_none is_utf8 f none)
none_text (f ∷ fields) (suc k) none within = grind (arith, none_text fields k none)

-- a record with a field that is no text has not the shape of a row
pub no_shape_at : (fields : List (List ℕ)) (k : ℕ) → k < 5 → length fields ≡ 5 → text_at fields k ≡ None
    → keep_if has_shape fields ≡ None
no_shape_at fields k low five none = grind (arith, keep_if_no, none_text)

-- if five tests hold, their conjunction holds
all_texts : (v w x y z : Bool) → v ≡ true → w ≡ true → x ≡ true → y ≡ true → z ≡ true
    → (v && (w && (x && (y && (z && true))))) ≡ true
all_texts v w x y z a b c d e = cc

-- a record of five texts has the shape of a row
pub has_texts : (fields : List (List ℕ)) (a b c d e : List ℕ) → length fields ≡ 5
    → text_at fields 0 ≡ Some a → text_at fields 1 ≡ Some b → text_at fields 2 ≡ Some c → text_at fields 3 ≡ Some d
    → text_at fields 4 ≡ Some e → keep_if has_shape fields ≡ Some (a ∷ b ∷ c ∷ d ∷ e ∷ [])
unfolding field_at
has_texts [] a b c d e five p q r s t = absurd (omega (arith, five))
has_texts (v ∷ []) a b c d e five p q r s t = absurd (omega (arith, five))
has_texts (v ∷ w ∷ []) a b c d e five p q r s t = absurd (omega (arith, five))
has_texts (v ∷ w ∷ x ∷ []) a b c d e five p q r s t = absurd (omega (arith, five))
has_texts (v ∷ w ∷ x ∷ y ∷ []) a b c d e five p q r s t = absurd (omega (arith, five))
has_texts (v ∷ w ∷ x ∷ y ∷ z ∷ []) a b c d e five p q r s t = grind (arith, keep_if_some, keep_if_yes, all_texts)
has_texts (v ∷ w ∷ x ∷ y ∷ z ∷ more ∷ later) a b c d e five p q r s t = absurd (omega (arith, five))

-- fields that are the same are as many
as_many : (xs ys : List (List ℕ)) → are_same xs ys ≡ true → length xs ≡ length ys
as_many [] [] same = refl
as_many [] (y ∷ ys) same = cc
as_many (x ∷ xs) [] same = cc
as_many (x ∷ xs) (y ∷ ys) same = ap (λ n. suc n) (as_many xs ys (and_parts (bytes_eq x y) (are_same xs ys) same).1)

-- a record with another number of fields is not the heading
pub not_heading : (fields : List (List ℕ)) → length fields ≢ 5 → is_heading fields ≡ false
not_heading fields other = grind (arith, as_many)

-- the heading, word by word
pub heading_words : (fields : List (List ℕ)) → length fields ≡ 5
    → is_heading fields
    ≡ (is_at fields 0 (codes "kind") && (is_at fields 1 (codes "supplier") && (is_at fields 2 (codes "product")
    && (is_at fields 3 (codes "night") && is_at fields 4 (codes "places")))))
unfolding field_at
heading_words [] five = absurd (omega (arith, five))
heading_words (v ∷ []) five = absurd (omega (arith, five))
heading_words (v ∷ w ∷ []) five = absurd (omega (arith, five))
heading_words (v ∷ w ∷ x ∷ []) five = absurd (omega (arith, five))
heading_words (v ∷ w ∷ x ∷ y ∷ []) five = absurd (omega (arith, five))
heading_words (v ∷ w ∷ x ∷ y ∷ z ∷ []) five = grind arith
heading_words (v ∷ w ∷ x ∷ y ∷ z ∷ more ∷ later) five = absurd (omega (arith, five))
