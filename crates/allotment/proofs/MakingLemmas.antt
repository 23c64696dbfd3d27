-- How a want is made of its parts.
use Rattle.std.proofs.Common.{◌≡◌, ℕ, true, false, ◌&&◌, List, sym, ap, ◌∙◌, Option, Some, None, Ok, Err, arith}
use Rattle.std.specs.Option.{ok_or}
use Rattle.allotment.specs.Limits.{is_code, are_nights, is_count}
use Rattle.allotment.specs.Making.{want_of_parts, want_made}
use Rattle.allotment.specs.Nights.{night_in}
use Rattle.allotment.specs.Texts.{keep_if}
use Rattle.allotment.specs.declared.codes.Kind.{Kind}
use Rattle.allotment.specs.declared.wants.Bad.{Bad}
use Rattle.allotment.specs.declared.wants.Bad.TheVariants as bad
use Rattle.allotment.proofs.TestLemmas.{and_make, keep_if_some}

-- What each reader of a part gave.

-- what was read is what was there
ok_some : {X F : Type 0} (o : Option X) (x : X) (fault : F) → Ok x ≡ ok_or o fault → o ≡ Some x
ok_some o x fault e = grind arith

-- a code that was read is its text
pub code_read : (text code : List ℕ) (read : Option (List ℕ)) → read ≡ keep_if is_code text → Ok code ≡ ok_or read bad.Code
    → (text ≡ code) × (is_code code ≡ true)
code_read text code read is e = keep_if_some is_code text code (sym is ∙ ok_some read code bad.Code e)

-- two codes that were read are their texts
pub record AreCodes (first second s p : List ℕ) : Type 0 where
  pub supplier : first ≡ s
  pub product : second ≡ p
  pub both : (is_code first && is_code second) ≡ true

-- what was read of two codes makes them so
pub both_codes : (supplier product : List ℕ) {s p : List ℕ} {first second : Option (List ℕ)}
    → first ≡ keep_if is_code supplier → Ok s ≡ ok_or first bad.Code
    → second ≡ keep_if is_code product → Ok p ≡ ok_or second bad.Code → AreCodes supplier product s p
both_codes supplier product {s} {p} {first} {second} is read is_too read_too =
    let one = code_read supplier s first is read in
    let other = code_read product p second is_too read_too in
    record {
      supplier = one.0;
      product = other.0;
      both = and_make (is_code supplier) (is_code product) (ap is_code one.0 ∙ one.1) (ap is_code other.0 ∙ other.1);
    }

-- a night that was read is the text's
pub night_read : (o : Option ℕ) (night : ℕ) → Ok night ≡ ok_or o bad.Night → o ≡ Some night
night_read o night e = ok_some o night bad.Night e

-- where a fault was reported, nothing was there
err_none : {X F : Type 0} (o : Option X) (e fault : F) → Err e ≡ ok_or o fault → (o ≡ None) × (e ≡ fault)
err_none o e fault is = grind arith

-- where none was read, the text has none
pub no_night : (o : Option ℕ) (e : Bad) → Err e ≡ ok_or o bad.Night → (o ≡ None) × (e ≡ bad.Night)
no_night o e is = err_none o e bad.Night is

-- What is made of codes that are some, by what else is wrong.

module _ (kind : Kind) (supplier product text : List ℕ) (nights count : ℕ) (codes : (is_code supplier && is_code product) ≡ true) where
  -- there is no first night
  pub made_no_night : night_in text ≡ None → want_made kind supplier product text nights count ≡ Err bad.Night
  made_no_night none = grind arith

  module _ (first : ℕ) (read : night_in text ≡ Some first) where
    -- there are too few or too many nights
    pub made_no_nights : are_nights kind first nights ≡ false → want_made kind supplier product text nights count ≡ Err bad.Nights
    made_no_nights none = grind arith

    -- the count is out of range
    pub made_no_count : are_nights kind first nights ≡ true → is_count count ≡ false
        → want_made kind supplier product text nights count ≡ Err bad.Count
    made_no_count some none = grind arith

    -- nothing is wrong
    pub made_whole : are_nights kind first nights ≡ true → is_count count ≡ true
        → want_made kind supplier product text nights count ≡ Ok (want_of_parts kind supplier product (Some first) nights count)
    made_whole some good = grind arith

-- a want of what was read is one of the parts
pub parts_same : (kind : Kind) {supplier product s p : List ℕ} → supplier ≡ s → product ≡ p → (first nights count : ℕ)
    → want_of_parts kind s p (Some first) nights count ≡ want_of_parts kind supplier product (Some first) nights count
parts_same kind {supplier} {product} {s} {p} e f first nights count = cc
