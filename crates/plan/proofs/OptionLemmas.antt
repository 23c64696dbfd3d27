-- What is read of an option, in the words of a want that is made of its parts. For the readers of options.
use Rattle.std.proofs.Common.{◌≡◌, ℕ, Bool, true, false, ◌&&◌, List, [], ◌∷◌, ◌++◌, refl, ap, ◌∙◌, arith, Option, Some, None, Err, is_some, option_and_then, Result, le-leb, leb-true, codes, if◌then◌else◌}
use Rattle.serde_json.specs.Data.{Data}
use Rattle.allotment.specs.Want.{Wanted}
use Rattle.allotment.specs.Limits.{is_between, is_code, is_count, are_nights}
use Rattle.allotment.specs.Making.{unless, first_fault, want_made}
use Rattle.allotment.specs.Nights.{night_in}
use Rattle.allotment.specs.Texts.{parts, slash, keep_if, number_in, kind_of_letter, kind_of_word}
use Rattle.allotment.specs.declared.codes.Kind.{Kind}
use Rattle.allotment.specs.declared.wants.Bad.TheVariants as bad
use Rattle.plan.specs.declared.causes.PlanCause.TheVariants as cause
use Rattle.plan.specs.declared.faults.BadPlan.{BadPlan}
use Rattle.plan.specs.Drafts.{OptionDraft, at, number_or_none}
use Rattle.plan.specs.PlanLine.{option_draft, option_of_parts}
use Rattle.plan.specs.PlanJson.{has_just, in_member, whole_number, text_of, option_members, option_said, json_option}
use Rattle.plan.specs.Levels.{judged_option, told_want, told_option}
use Rattle.allotment.proofs.TestLemmas.{and_both, and_make, fails_too}
use Rattle.allotment.proofs.OwnTextLemmas.{fewer_than_cover}
use Rattle.plan.proofs.NumberLemmas.{small_number}

-- a number that is there, from 1 to 255
abbrev small : Option ℕ → ℕ
small o = number_or_none (option_and_then (keep_if (is_between 1 255)) o)

-- nights that a kind may have are from 1 to 255
nights_between : (k : Kind) (f n : ℕ) → are_nights k f n ≡ true → is_between 1 255 n ≡ true
nights_between k f n e = grind (arith, and_both, fewer_than_cover, leb-true, and_make, le-leb)

-- a count that a want may have is from 1 to 255
count_between : (n : ℕ) → is_count n ≡ true → is_between 1 255 n ≡ true
count_between n e = grind (arith, and_both, leb-true, and_make, le-leb)

-- a test says of an option's number, if there is one, what it says of this one; where it passes, this is the number
pub record Tells (test : ℕ → Bool) (o : Option ℕ) (n : ℕ) : Type 0 where
  pub same : (is_some o && test (number_or_none o)) ≡ test n
  pub value : test n ≡ true → number_or_none o ≡ n

-- so it is with a test that 0 does not pass, and the number or 0
pub tells_there : (test : ℕ → Bool) (o : Option ℕ) → test 0 ≡ false → Tells test o (number_or_none o)
tells_there test o x = grind arith

-- and with a test that no number over 255 passes either, and the number from 1 to 255 or 0
tells_small : (test : ℕ → Bool) (o : Option ℕ) → ((n : ℕ) → test n ≡ true → is_between 1 255 n ≡ true) → test 0 ≡ false
    → Tells test o (small o)
tells_small test o in_range x = grind (arith, tells_there, fails_too)

-- the first fault of an option is that of the want
pub first_told : (i : ℕ) (codes night nights count : Bool) (v w : Wanted) → (nights ≡ true → count ≡ true → v ≡ w)
    → first_fault v
    (unless true (at i cause.Kind) ++ unless codes (at i cause.Code) ++ unless night (at i cause.Night)
    ++ unless nights (at i cause.Nights) ++ unless count (at i cause.Count))
    ≡ told_want i (first_fault w
    (unless codes bad.Code ++ unless night bad.Night ++ unless nights bad.Nights ++ unless count bad.Count))
first_told i codes night nights count v w same = grind arith

-- an option of these six parts
abbrev pub six_said : Option Kind → List ℕ → List ℕ → List ℕ → Option ℕ → Option ℕ → OptionDraft
six_said k s p f n c = record { kind = k; supplier = s; product = p; first = night_in f; nights = n; count = c }

-- the first fault of an option with a kind is that of the want of its parts
kind_told : (i : ℕ) (k : Kind) (s p f : List ℕ) (n c : Option ℕ) (a b : ℕ)
    → Tells (are_nights k (number_or_none (night_in f))) n a → Tells is_count c b
    → judged_option i (Some (six_said (Some k) s p f n c)) ≡ told_want i (want_made k s p f a b)
unfolding judged_option
kind_told i k s p f n c a b nights count =
    let good = is_code s && is_code p in
    let night = is_some (night_in f) in
    let first = number_or_none (night_in f) in
    let want : ℕ → ℕ → Wanted = λ x y. record { kind = k; supplier = s; product = p; first = first; nights = x; count = y } in
    let told : Bool → Bool → Result Wanted BadPlan = λ x y. first_fault (want (number_or_none n) (number_or_none c))
    (unless true (at i cause.Kind) ++ unless good (at i cause.Code) ++ unless night (at i cause.Night)
    ++ unless x (at i cause.Nights) ++ unless y (at i cause.Count)) in
    ap (λ x. told x (is_some c && is_count (number_or_none c))) nights.same
    ∙ ap (told (are_nights k first a)) count.same
    ∙ first_told i good night (are_nights k first a) (is_count b) (want (number_or_none n) (number_or_none c)) (want a b)
    (λ e g. ap (λ x. want x (number_or_none c)) (nights.value e) ∙ ap (want a) (count.value g))

-- the first fault of an option is that of its kind
pub option_judged : (i : ℕ) (o : Option Kind) (s p f : List ℕ) (n c : Option ℕ) (a b : ℕ)
    → ((k : Kind) → Tells (are_nights k (number_or_none (night_in f))) n a) → Tells is_count c b
    → judged_option i (Some (six_said o s p f n c)) ≡ told_option i o s p f a b
unfolding judged_option
option_judged i None s p f n c a b nights count = refl
option_judged i (Some k) s p f n c a b nights count = kind_told i k s p f n c a b (nights k) count

-- the first fault of an option of six parts is that of its kind, then of the want of its parts
pub option_told : (i : ℕ) (text k s p f n c : List ℕ) → parts slash text ≡ k ∷ s ∷ p ∷ f ∷ n ∷ c ∷ []
    → judged_option i (option_draft text) ≡ told_option i (kind_of_letter k) s p f (small_number n) (small_number c)
option_told i text k s p f n c e =
    ap (λ z. judged_option i (option_of_parts z)) e
    ∙ option_judged i (kind_of_letter k) s p f (number_in n) (number_in c) (small_number n) (small_number c)
    (λ kind. tells_small (are_nights kind (number_or_none (night_in f))) (number_in n) (nights_between kind (number_or_none (night_in f))) refl)
    (tells_small is_count (number_in c) count_between refl)

-- and that of an object with the six members that of its kind, then of the want of its members
pub members_told : (i : ℕ) (d : Data) → has_just option_members d ≡ true → judged_option i (json_option d)
    ≡ told_option i (kind_of_word (text_of (codes "kind") d)) (text_of (codes "supplier") d) (text_of (codes "product") d)
    (text_of (codes "first") d) (number_or_none (in_member (codes "nights") whole_number d))
    (number_or_none (in_member (codes "count") whole_number d))
members_told i d e =
    ap (λ b. judged_option i (if b then Some (option_said d) else None)) e
    ∙ option_judged i (kind_of_word (text_of (codes "kind") d)) (text_of (codes "supplier") d) (text_of (codes "product") d)
    (text_of (codes "first") d) (in_member (codes "nights") whole_number d) (in_member (codes "count") whole_number d) _ _
    (λ k. tells_there (are_nights k (number_or_none (night_in (text_of (codes "first") d)))) (in_member (codes "nights") whole_number d) refl)
    (tells_there is_count (in_member (codes "count") whole_number d) refl)

-- an option of another shape
pub option_shape : (i : ℕ) → judged_option i None ≡ Err (at i cause.Shape)
unfolding judged_option
option_shape i = refl
