-- What is read as a plan is spelled as its line. For the law that a plan has one spelling.
use Rattle.std.proofs.Common.{◌≡◌, ℕ, zero, suc, ◌+◌, ◌-◌, ◌<◌, ◌≤◌, Bool, true, List, [], ◌∷◌, ◌++◌, map, length, take, drop, refl, sym, ap, subst, ◌∙◌, arith, Option, Some, None, Ok, find, is_some, decimal, if◌then◌else◌, append-nil, take-append-drop}
use Rattle.std.specs.List.{AllByRecursion, enumerate_from}
use Rattle.std.proofs.lemmas.List.Splits.{join_with_byte-slice_split}
use Rattle.allotment.specs.Cells.{numbers_from}
use Rattle.allotment.specs.Limits.{is_night}
use Rattle.allotment.specs.Texts.{parts, joined, number_in, slash, bar, semicolon, kind_letter, kind_of_letter, want_text}
use Rattle.allotment.specs.Nights.{night_text, night_in}
use Rattle.allotment.specs.declared.codes.Kind.TheVariants.{Flight}
use Rattle.plan.specs.Limits.{most_tries}
use Rattle.plan.specs.PlanModel.{Planned}
use Rattle.plan.specs.Drafts.{OptionDraft, StepDraft, kind_or_any, number_or_none, option_faults, step_faults, faults, want_of, step_of, plan_of}
use Rattle.plan.specs.PlanLine.{step_text, mark_text, tries_text, tries_in, IsPlanLine, option_of_parts, option_draft, has_mark, without_mark, step_draft, line_draft, plan_in}
use Rattle.allotment.proofs.TestLemmas.{keep_if_some, same_bytes, and_both}
use Rattle.allotment.proofs.LawLemmas.{letter_read}
use Rattle.allotment.proofs.NightLemmas.{night_text-night_in}
use Rattle.plan.proofs.ListFacts.{append_none, unless_none, flat_map_none, first_fault_ok, find_passes, some_is}
use Rattle.plan.proofs.CleanLemmas.{HasNight, HasNights, all_images, wants_of, steps_of, draft_keeps}

-- Parts of an option.

-- a kind that is read has that letter
kind_read : (k : List ℕ) → is_some (kind_of_letter k) ≡ true → kind_letter (kind_or_any (kind_of_letter k)) ≡ k
kind_read k e = sym (letter_read k _ (some_is (kind_of_letter k) Flight e))

-- a night that is read has that text
pub night_read : (t : List ℕ) → is_some (night_in t) ≡ true → (is_night (number_or_none (night_in t)) ≡ true) × (night_text (number_or_none (night_in t)) ≡ t)
night_read t e = night_text-night_in t _ (some_is (night_in t) 0 e)

-- a number that is read has that text
number_read : (t : List ℕ) → is_some (number_in t) ≡ true → decimal (number_or_none (number_in t)) ≡ t
number_read t e = grind (arith, keep_if_some, some_is, same_bytes)

-- An option.

-- texts of equal parts are equal
six_same : (s p : List ℕ) {a b c d x y z w : List ℕ} → a ≡ x → b ≡ y → c ≡ z → d ≡ w
    → joined slash (a ∷ s ∷ p ∷ b ∷ c ∷ d ∷ []) ≡ joined slash (x ∷ s ∷ p ∷ y ∷ z ∷ w ∷ [])
six_same s p {a} {b} {c} {d} {x} {y} {z} {w} e f g h = cc

-- an option has the shape of one, and its want has this text
abbrev Spells : Option OptionDraft → List ℕ → Type 0
Spells None t = ⊥
Spells (Some o) t = want_text (want_of o) ≡ t

-- the parts of an option that has no fault
option_reads : (i : ℕ) (ps : List (List ℕ)) → option_faults i (option_of_parts ps) ≡ [] → Spells (option_of_parts ps) (joined slash ps)
option_reads i (k ∷ s ∷ p ∷ f ∷ n ∷ c ∷ []) e =
    let last = append_none _ _ e in
    let fourth = append_none _ _ last.0 in
    let third = append_none _ _ fourth.0 in
    six_same s p (kind_read k (unless_none _ _ (append_none _ _ third.0).0)) (night_read f (unless_none _ _ third.1)).1
    (number_read n (and_both _ _ (unless_none _ _ fourth.1)).0) (number_read c (and_both _ _ (unless_none _ _ last.1)).0)
option_reads i _ e = cc

-- the first night of an option is read as a night
option_night : (ps : List (List ℕ)) → HasNight (option_of_parts ps)
option_night (k ∷ s ∷ p ∷ f ∷ n ∷ c ∷ []) = λ there. (night_read f there).0
option_night _ = tt

-- The options of a step.

-- one option, and the later ones
options_cons : (o : Option OptionDraft) (os : List (Option OptionDraft)) (t : List ℕ) (ts : List (List ℕ)) → Spells o t
    → map want_text (wants_of os) ≡ ts → map want_text (wants_of (o ∷ os)) ≡ t ∷ ts
options_cons o os t ts here later = grind (arith, wants_of)

-- options without a fault are spelled by their texts
options_read : (i : ℕ) (ts : List (List ℕ)) → AllByRecursion (λ o. option_faults i o ≡ []) (map option_draft ts)
    → map want_text (wants_of (map option_draft ts)) ≡ ts
options_read i [] e = refl
options_read i (t ∷ ts) e =
    options_cons (option_draft t) (map option_draft ts) t ts
    (subst (Spells (option_draft t)) (join_with_byte-slice_split slash t) (option_reads i (parts slash t) e.0)) (options_read i ts e.1)

-- A step.

-- a text is what it is without its mark, and its mark
marked_text : (t : List ℕ) (b : Bool) → has_mark t ≡ b → (if b then take (length t - 1) t else t) ++ mark_text b ≡ t
marked_text t b e = grind (arith, same_bytes, take-append-drop, append-nil)

-- a step without a fault is spelled by its options, joined again, and its mark
step_reads : (n i : ℕ) (t : List ℕ) → step_faults n (i, Some (step_draft t)) ≡ [] → step_text (step_of (step_draft t)) ≡ t
step_reads n i t e =
    let ts = parts bar (without_mark t) in
    ap (λ z. joined bar z ++ mark_text (has_mark t))
    (options_read i ts (flat_map_none (option_faults i) (map option_draft ts) (append_none _ _ e).1))
    ∙ ap (λ z. z ++ mark_text (has_mark t)) (join_with_byte-slice_split bar (without_mark t))
    ∙ marked_text t (has_mark t) refl

-- The steps.

-- the drafts of the steps of these texts
abbrev drafts_of : List (List ℕ) → List (Option StepDraft)
drafts_of ts = map (λ t. Some (step_draft t)) ts

-- steps without a fault are spelled by their texts
steps_read : (n i : ℕ) (ts : List (List ℕ)) → AllByRecursion (λ x. step_faults n x ≡ []) (enumerate_from i (drafts_of ts))
    → map step_text (steps_of (drafts_of ts)) ≡ ts
steps_read n i [] e = refl
steps_read n i (t ∷ ts) e = grind (arith, steps_of, step_reads, steps_read n (i + 1) ts)

-- their first nights are read as nights
steps_nights : (ts : List (List ℕ)) → AllByRecursion HasNights (drafts_of ts)
steps_nights ts = search (arith, all_images, option_night)

-- The tries.

-- what is found at the first number or later is below the end
found_within : (test : ℕ → Bool) (a n x : ℕ) (b : Bool)
    → (find test (numbers_from (suc a) n) ≡ Some x → x < suc a + n)
    → (if b then Some a else find test (numbers_from (suc a) n)) ≡ Some x → x < a + suc n
found_within test a n x b h e = grind arith

-- a number that is found is one of those that are searched
find_within : (test : ℕ → Bool) (a n x : ℕ) → find test (numbers_from a n) ≡ Some x → x < a + n
find_within test a zero x e = cc
find_within test a (suc n) x e = found_within test a n x (test a) (find_within test (suc a) n x) e

-- what is read of the tries
pub record ReadsTries (t : List ℕ) : Type 0 where
  pub spelled : tries_text (number_or_none (tries_in t)) ≡ t
  pub few : number_or_none (tries_in t) ≤ most_tries

-- tries that are read have this text, and are at most 9
pub tries_read : (t : List ℕ) → is_some (tries_in t) ≡ true → ReadsTries t
unfolding tries_in
tries_read t e = search (arith, some_is, find_within, same_bytes, find_passes)

-- The line.

-- a line without a fault is the line of the plan that its draft means
whole_line : (t : List ℕ) → faults (Some (line_draft t)) ≡ [] → IsPlanLine t (plan_of (Some (line_draft t)))
whole_line t e =
    let last = append_none _ _ e in
    let k = length t - 2 in
    let ts = parts semicolon (take k t) in
    let n = length (drafts_of ts) in
    let steps = steps_read n 1 ts (flat_map_none (step_faults n) (enumerate_from 1 (drafts_of ts)) last.1) in
    record {
      keeps_limits = draft_keeps (line_draft t) (steps_nights ts) e;
      spelled = sym (
          ap (λ z. joined semicolon z ++ tries_text (number_or_none (tries_in (drop k t)))) steps
          ∙ ap (λ z. z ++ tries_text (number_or_none (tries_in (drop k t)))) (join_with_byte-slice_split semicolon (take k t))
          ∙ ap (λ z. take k t ++ z) (tries_read (drop k t) (and_both _ _ (unless_none _ _ (append_none _ _ last.0).0)).0).spelled
          ∙ take-append-drop k t);
    }

-- what is read as a plan is its line
pub read_is_spelled : (t : List ℕ) (p : Planned) → plan_in t ≡ Ok p → IsPlanLine t p
unfolding plan_in
read_is_spelled t p e =
    grind (arith, first_fault_ok (plan_of (Some (line_draft t))) p (faults (Some (line_draft t))) e, whole_line t)
