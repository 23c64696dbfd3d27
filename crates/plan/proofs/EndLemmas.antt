-- The mark at the end of a step, and the tries at the end of a line. For what cuts them off.
use Rattle.std.proofs.Common.{◌≡◌, ◌≢◌, ℕ, zero, suc, ◌+◌, ◌-◌, ◌<◌, ◌≤◌, ◌⊎◌, true, false, List, [], ◌∷◌, ◌++◌, length, take, drop, refl, sym, ap, ◌∙◌, arith, Some, None, is_some, if◌then◌else◌, length-append, take-append-drop}
use Rattle.std.specs.Fmt.{digits}
use Rattle.std.specs.List.{slice_get}
use Rattle.std.proofs.Math.Seq.{drop-append_seam, take-append_seam}
use Rattle.std.proofs.lemmas.Fmt.{decimal_digit}
use Rattle.allotment.specs.Texts.{star}
use Rattle.plan.specs.Limits.{most_tries}
use Rattle.plan.specs.Drafts.{number_or_none}
use Rattle.plan.specs.PlanLine.{has_mark, without_mark, tries_text, tries_in, front_of, end_of}
use Rattle.allotment.proofs.TestLemmas.{same_bytes}
use Rattle.plan.proofs.ReadLemmas.{tries_read}

-- The mark.

-- where the last byte begins
pub seam : (front : List ℕ) (c : ℕ) → length (front ++ c ∷ []) - 1 ≡ length front
seam front c = omega (arith, length-append front (c ∷ []))

-- a text with a `*` at its end has a mark
pub marked : (front : List ℕ) → has_mark (front ++ star ∷ []) ≡ true
marked front = grind (arith, seam, drop-append_seam)

-- the text without its mark is what stands before the `*`
pub marked_front : (front : List ℕ) → without_mark (front ++ star ∷ []) ≡ front
marked_front front = grind (arith, marked, seam, take-append_seam)

-- a text that ends with no `*` has no mark
pub unmarked : (text : List ℕ) → ((front : List ℕ) → text ≢ front ++ star ∷ []) → has_mark text ≡ false
unmarked text none =
    grind (arith, none (take (length text - 1) text), take-append-drop (length text - 1) text, same_bytes (star ∷ []) (drop (length text - 1) text))

-- a text that ends with no `*` is unchanged without a mark
pub unmarked_front : (text : List ℕ) → ((front : List ℕ) → text ≢ front ++ star ∷ []) → without_mark text ≡ text
unmarked_front text none = ap (λ b. if b then take (length text - 1) text else text) (unmarked text none)

-- The tries.

-- where the last two bytes begin
two_seam : (front : List ℕ) (c d : ℕ) → length ((front ++ c ∷ []) ++ d ∷ []) - 2 ≡ length front
two_seam front c d = omega (arith, length-append (front ++ c ∷ []) (d ∷ []), length-append front (c ∷ []))

-- two bytes, one after another
two_behind : (front : List ℕ) (c d : ℕ) → (front ++ c ∷ []) ++ d ∷ [] ≡ front ++ c ∷ d ∷ []
two_behind [] c d = refl
two_behind (x ∷ front) c d = ap (λ z. x ∷ z) (two_behind front c d)

-- the two bytes after a prefix are the end
pub end_of_two : (front : List ℕ) (c d : ℕ) → end_of ((front ++ c ∷ []) ++ d ∷ []) ≡ c ∷ d ∷ []
end_of_two front c d = grind (arith, two_seam, two_behind, drop-append_seam)

-- the text of few tries is read as their number
pub tries_again : (n : ℕ) → n ≤ most_tries → tries_in (tries_text n) ≡ Some n
unfolding tries_in digits
tries_again zero l = refl
tries_again (suc zero) l = refl
tries_again (suc (suc zero)) l = refl
tries_again (suc (suc (suc zero))) l = refl
tries_again (suc (suc (suc (suc zero)))) l = refl
tries_again (suc (suc (suc (suc (suc zero))))) l = refl
tries_again (suc (suc (suc (suc (suc (suc zero)))))) l = refl
tries_again (suc (suc (suc (suc (suc (suc (suc zero))))))) l = refl
tries_again (suc (suc (suc (suc (suc (suc (suc (suc zero)))))))) l = refl
tries_again (suc (suc (suc (suc (suc (suc (suc (suc (suc zero))))))))) l = refl
tries_again (suc (suc (suc (suc (suc (suc (suc (suc (suc (suc n)))))))))) l = absurd (omega arith)

-- `!` and a digit are the tries
pub tries_found : (text front body : List ℕ) (d : ℕ) → text ≡ front ++ d ∷ [] → front ≡ body ++ 33 ∷ []
    → 48 ≤ d → d ≤ 57 → tries_in (end_of text) ≡ Some (d - 48)
tries_found text front body d e f low high =
    ap (λ z. tries_in (end_of z)) (e ∙ ap (λ z. z ++ d ∷ []) f) ∙ ap tries_in (end_of_two body 33 d)
    ∙ ap (λ z. tries_in (33 ∷ z)) (sym (decimal_digit (d - 48) (omega arith) ∙ ap (λ z. z ∷ []) (omega arith)))
    ∙ tries_again (d - 48) (omega arith)

-- a line that ends with tries
record EndsInTries (text : List ℕ) : Type 0 where
  pub front : List ℕ
  pub digit : ℕ
  pub low : 48 ≤ digit
  pub high : digit ≤ 57
  pub whole : text ≡ (front ++ 33 ∷ []) ++ digit ∷ []

-- a line that has tries ends in them
ends_in_tries : (text : List ℕ) → is_some (tries_in (end_of text)) ≡ true → EndsInTries text
ends_in_tries text e =
    let read = tries_read (end_of text) e in
    let n = number_or_none (tries_in (end_of text)) in
    let end : end_of text ≡ 33 ∷ (48 + n) ∷ [] =
    sym read.spelled ∙ ap (λ z. 33 ∷ z) (decimal_digit n (omega (arith, read.few))) in
    record {
      front = front_of text;
      digit = 48 + n;
      low = omega arith;
      high = omega (arith, read.few);
      whole = sym (take-append-drop (length text - 2) text) ∙ ap (λ z. front_of text ++ z) end
          ∙ sym (two_behind (front_of text) 33 (48 + n));
    }

-- a line that ends in no tries has none
tries_none : (text : List ℕ) → (EndsInTries text → ⊥) → tries_in (end_of text) ≡ None
tries_none text none = grind (arith, ends_in_tries text)

-- the byte after a prefix
behind_front : (front : List ℕ) (d : ℕ) → slice_get (front ++ d ∷ []) (length front) ≡ Some d
behind_front [] d = refl
behind_front (x ∷ front) d = behind_front front d

-- the last byte
last_byte : (text front : List ℕ) (d : ℕ) → text ≡ front ++ d ∷ [] → slice_get text (length text - 1) ≡ Some d
last_byte text front d e = grind (arith, seam, behind_front)

-- what stands before the last byte
before_last : (front : List ℕ) (d : ℕ) → take (length (front ++ d ∷ []) - 1) (front ++ d ∷ []) ≡ front
before_last front d = ap (λ z. take z (front ++ d ∷ [])) (seam front d) ∙ take-append_seam front (d ∷ [])

-- an empty line has no tries
pub tries_empty : (text : List ℕ) → slice_get text (length text - 1) ≡ None → tries_in (end_of text) ≡ None
tries_empty text e = grind (arith, tries_none, last_byte)

-- a line that ends with no digit has no tries
pub tries_no_digit : (text : List ℕ) (d : ℕ) → slice_get text (length text - 1) ≡ Some d → (d < 48) ⊎ (57 < d)
    → tries_in (end_of text) ≡ None
tries_no_digit text d e out = grind (arith, tries_none, last_byte)

-- a line with no `!` before its last digit has no tries
pub tries_no_mark : (text front : List ℕ) (d : ℕ) → text ≡ front ++ d ∷ []
    → ((body : List ℕ) → front ≢ body ++ 33 ∷ []) → tries_in (end_of text) ≡ None
tries_no_mark text front d e none =
    tries_none text (λ ends.
    none ends.front
    (sym (before_last front d) ∙ ap (λ z. take (length z - 1) z) (sym e ∙ ends.whole)
    ∙ before_last (ends.front ++ 33 ∷ []) ends.digit))
