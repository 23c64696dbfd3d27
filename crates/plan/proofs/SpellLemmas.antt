-- What is spelled as the line of a plan is read as it. For the law that a plan has one spelling.
use Rattle.std.proofs.Common.{◌≡◌, ℕ, ◌-◌, ◌≤◌, Bool, true, false, not, ◌==◌, List, [], ◌∷◌, ◌++◌, map, length, take, drop, refl, ap, ◌∙◌, arith, Option, Some, Ok, zero, suc}
use Rattle.std.specs.List.{list_all}
use Rattle.std.proofs.Math.Seq.{drop-append_seam, take-append_seam}
use Rattle.std.proofs.lemmas.Fmt.{decimal_digit}
use Rattle.std.proofs.lemmas.List.{append-nil, length-append, length-map}
use Rattle.std.proofs.lemmas.List.Folds.{list_all-map, list_all-append}
use Rattle.allotment.specs.Want.{Wanted}
use Rattle.allotment.specs.Limits.{is_want}
use Rattle.allotment.specs.Texts.{parts, joined, kind_letter, want_text, slash, semicolon, star}
use Rattle.plan.specs.Limits.{most_tries}
use Rattle.plan.specs.PlanModel.{Planned, StepPlan, is_step, is_plan}
use Rattle.plan.specs.Drafts.{StepDraft, Draft, drafted, drafted_step, drafted_plan, plan_made}
use Rattle.plan.specs.PlanLine.{step_text, mark_text, tries_text, tries_in, plan_line, IsPlanLine, option_draft, has_mark, without_mark, step_draft, front_of, end_of, line_draft, plan_in}
use Rattle.allotment.proofs.TestLemmas.{and_both, and_make, list_all_weaker, same_bytes}
use Rattle.allotment.proofs.NightLemmas.{night_in-night_text}
use Rattle.allotment.proofs.PlainLemmas.{is_plain_byte}
use Rattle.allotment.proofs.JoinLemmas.{lacks, all_lack, parts_joined, plain_parts}
use Rattle.plan.proofs.NumberLemmas.{number_again}
use Rattle.plan.proofs.EndLemmas.{tries_again, marked, marked_front}
use Rattle.allotment.proofs.LawLemmas.{letter_again}
use Rattle.allotment.proofs.OwnTextLemmas.{IsSoundWant, is_sound_want, five_of, want_plain}
use Rattle.plan.proofs.KeptLemmas.{drafted_again}
use Rattle.plan.proofs.LimitLemmas.{IsLimitedStep, step_limited, limited}

-- two texts without a byte are joined without it
lacks_append : (c : ℕ) (x y : List ℕ) → lacks c x ≡ true → lacks c y ≡ true → lacks c (x ++ y) ≡ true
lacks_append c x y e f = grind (arith, and_make, list_all-append)

-- texts without a byte that are joined by another byte are joined without it
lacks_joined : (c d : ℕ) (ts : List (List ℕ)) → not (d == c) ≡ true
    → list_all (lacks c) ts ≡ true → lacks c (joined d ts) ≡ true
lacks_joined c d [] o e = refl
lacks_joined c d (t ∷ []) o e = (and_both (lacks c t) true e).0
lacks_joined c d (t ∷ u ∷ ts) o e = grind (arith, and_both, lacks, lacks_append, and_make, lacks_joined c d (u ∷ ts) o)

-- a suffix of a text without a byte is without it
lacks_drop : (c k : ℕ) (t : List ℕ) → lacks c t ≡ true → lacks c (drop k t) ≡ true
lacks_drop c zero t e = e
lacks_drop c (suc k) [] e = refl
lacks_drop c (suc k) (b ∷ t) e = lacks_drop c k t (and_both (not (b == c)) (lacks c t) e).1

-- what is printed of values that pass is read back as their drafts
pub map_again : {X A Y : Type 0} (test : X → Bool) (print : X → A) (read : A → Y) (draft : X → Y)
    → ((x : X) → test x ≡ true → read (print x) ≡ draft x)
    → (xs : List X) → list_all test xs ≡ true → map read (map print xs) ≡ map draft xs
map_again test print read draft again [] e = refl
map_again test print read draft again (x ∷ xs) e = grind (arith, and_both, map_again test print read draft again xs)

-- Parts of an option.

-- the text of a want is cut into its parts, each of which is read as it was
option_again : (w : Wanted) → IsSoundWant w → option_draft (want_text w) ≡ Some (drafted w)
option_again w g =
    grind (arith, plain_parts (kind_letter w.kind) (five_of w), want_plain w, letter_again, night_in-night_text, number_again)

-- the text of a want contains no separator of options or steps
want_lacks : (c : ℕ) (w : Wanted) → not (slash == c) ≡ true → is_plain_byte c ≡ false → IsSoundWant w → lacks c (want_text w) ≡ true
want_lacks c w o odd g = search (arith, lacks_joined, all_lack, want_plain)

-- The options of a step.

-- the texts of options contain no separator of options or steps
wants_lack : (c : ℕ) (ws : List Wanted) → not (slash == c) ≡ true → is_plain_byte c ≡ false → list_all is_want ws ≡ true
    → list_all (lacks c) (map want_text ws) ≡ true
wants_lack c ws o odd e = grind (arith, list_all-map, lacks, list_all_weaker, want_lacks, is_sound_want)

-- A step.

-- a text without stars has no mark
unmarked : (x : List ℕ) (b : Bool) → has_mark x ≡ b → lacks star x ≡ true → b ≡ false
unmarked x true e l = grind (arith, same_bytes (star ∷ []) (drop (length x - 1) x), lacks_drop star (length x - 1) x l)
unmarked x false e l = refl

-- the mark after a text without stars is read back as it was
mark_again : (x : List ℕ) (b : Bool) → lacks star x ≡ true → has_mark (x ++ mark_text b) ≡ b
mark_again x b l = grind (arith, marked, append-nil, unmarked)

-- the mark after a text without stars is taken off
without_again : (x : List ℕ) (b : Bool) → lacks star x ≡ true → without_mark (x ++ mark_text b) ≡ x
without_again x b l = grind (arith, marked_front, mark_again, append-nil)

-- cutting joined texts gives them back
parts_back : (c : ℕ) (ts : List (List ℕ)) → 1 ≤ length ts → list_all (lacks c) ts ≡ true → parts c (joined c ts) ≡ ts
parts_back c [] some e = absurd (omega arith)
parts_back c (t ∷ ts) some e = parts_joined c t ts e

-- the text of a step is read as the step
step_again : (s : StepPlan) → IsLimitedStep s → step_draft (step_text s) ≡ drafted_step s
step_again s g =
    grind (arith, lacks_joined, wants_lack, without_again, mark_again, parts_back, length-map, map_again, option_again, is_sound_want)

-- a mark is one byte, or none
mark_lacks : (c : ℕ) (b : Bool) → not (star == c) ≡ true → lacks c (mark_text b) ≡ true
mark_lacks c b e = grind (arith, and_make)

-- the text of a step contains no separator of steps
step_lacks : (s : StepPlan) → IsLimitedStep s → lacks semicolon (step_text s) ≡ true
step_lacks s g = grind (arith, lacks_append, lacks_joined, wants_lack, mark_lacks)

-- The steps.

-- the texts of steps contain no separator of steps
steps_lack : (steps : List StepPlan) → list_all is_step steps ≡ true → list_all (lacks semicolon) (map step_text steps) ≡ true
steps_lack steps e = grind (arith, list_all-map, lacks, list_all_weaker, step_lacks, step_limited)

-- The line.

-- the tries are the last two bytes
tries_length : (n : ℕ) → n ≤ most_tries → length (tries_text n) ≡ 2
tries_length n l = ap (λ z. length (33 ∷ z)) (decimal_digit n (omega arith))

-- the line of a plan is read as what the plan says
line_again : (p : Planned) → 1 ≤ length p.steps → p.tries ≤ most_tries → list_all is_step p.steps ≡ true → line_draft (plan_line p) ≡ drafted_plan p
line_again p some few good =
    let body = joined semicolon (map step_text p.steps) in
    let end = tries_text p.tries in
    let at_end : length (body ++ end) - 2 ≡ length body = omega (arith, length-append body end, tries_length p.tries few) in
    let front : front_of (body ++ end) ≡ body = ap (λ z. take z (body ++ end)) at_end ∙ take-append_seam body end in
    let back : end_of (body ++ end) ≡ end = ap (λ z. drop z (body ++ end)) at_end ∙ drop-append_seam body end in
    let draft : List (Option StepDraft) → Option ℕ → Draft = λ steps tries. record { steps = steps; tries = tries } in
    let read : List (List ℕ) → List (Option StepDraft) = map (λ t. Some (step_draft t)) in
    ap (λ z. draft (read (parts semicolon z)) (tries_in (end_of (body ++ end)))) front
    ∙ ap (λ z. draft (read (parts semicolon body)) (tries_in z)) back
    ∙ ap (λ z. draft (read (parts semicolon body)) z) (tries_again p.tries few)
    ∙ ap (λ z. draft (read z) (Some p.tries))
    (parts_back semicolon (map step_text p.steps) (omega (arith, some, length-map p.steps step_text)) (steps_lack p.steps good))
    ∙ ap (λ z. draft z (Some p.tries))
    (map_again is_step step_text (λ t. Some (step_draft t)) (λ s. Some (drafted_step s))
    (λ s good. ap Some (step_again s (step_limited s good))) p.steps good)

-- what is spelled as the line of a plan is read as it
pub spelled_is_read : (t : List ℕ) (p : Planned) → IsPlanLine t p → plan_in t ≡ Ok p
unfolding plan_in
spelled_is_read t p line = grind (arith, limited, line_again, drafted_again)

-- a plan that keeps the limits is made as it is
pub made_again : (p : Planned) → is_plan p ≡ true → plan_made p ≡ Ok p
unfolding plan_made
made_again = drafted_again
