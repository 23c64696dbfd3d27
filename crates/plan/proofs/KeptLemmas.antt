-- Wants, steps and plans, and their drafts: the only faults of these are the limits that they break. For plans that are
-- made of steps, and for lines.
use mathlib.Core.List.{map-map}
use Rattle.std.proofs.Common.{◌≡◌, ◌≢◌, ℕ, ◌+◌, ◌<◌, ◌≤◌, ◌⊎◌, Bool, true, false, not, ◌&&◌, ◌==◌, List, [], ◌∷◌, ◌++◌, map, length, refl, sym, ap, ◌∙◌, arith, Some, Ok, Err, flat_map, filter_map, option_map, Result}
use Rattle.std.specs.List.{AllByRecursion, list_all, enumerate_from}
use Rattle.std.proofs.lemmas.Bool.{le-leb, lt-leb}
use Rattle.std.proofs.lemmas.List.{length-map}
use Rattle.allotment.specs.Want.{Wanted}
use Rattle.allotment.specs.Limits.{is_between, is_want}
use Rattle.allotment.specs.Making.{unless}
use Rattle.plan.specs.Limits.{most_options, most_steps, most_tries}
use Rattle.plan.specs.declared.causes.PlanCause.TheVariants as cause
use Rattle.plan.specs.declared.faults.BadPlan.{BadPlan}
use Rattle.plan.specs.PlanModel.{Planned, StepPlan, step_said, plan_said, is_last_unmarked, is_step, is_plan}
use Rattle.plan.specs.declared.steps.PlanStep.{PlanStep}
use Rattle.plan.specs.Drafts.{at, option_faults, step_faults, want_of, step_of, drafted, drafted_step, drafted_plan, judged, plan_made}
use Rattle.plan.specs.Levels.{step_limits, judged_step, judged_steps, steps_held}
use Rattle.allotment.proofs.TestLemmas.{and_both}
use Rattle.plan.proofs.LimitLemmas.{limited}
use Rattle.plan.proofs.CleanLemmas.{HasNight, HasNights, judged_keeps}
use Rattle.plan.proofs.LevelLemmas.{step_refused, limits_pass, mark_right}
use Rattle.plan.proofs.LineLemmas.{between_yes, with_tries, draft_no_tries, draft_miscounted, draft_by_steps}

-- A want.

-- a test that passes finds nothing wrong
unless_yes : {F : Type 0} (b : Bool) (f : F) → b ≡ true → unless b f ≡ []
unless_yes b f e = cc

-- nothing and nothing is nothing
none_append : {X : Type 0} (xs ys : List X) → xs ≡ [] → ys ≡ [] → xs ++ ys ≡ []
none_append xs ys e f = cc

-- nothing is wrong with the option of a want
option_clean : (i : ℕ) (w : Wanted) → is_want w ≡ true → option_faults i (Some (drafted w)) ≡ []
option_clean i w e = grind (arith, none_append, unless_yes, and_both)

-- nothing is wrong with the options of wants
options_clean : (i : ℕ) (ws : List Wanted) → list_all is_want ws ≡ true
    → flat_map (option_faults i) (map (λ w. Some (drafted w)) ws) ≡ []
options_clean i [] e = refl
options_clean i (w ∷ ws) e = grind (arith, and_both, none_append, option_clean, options_clean i ws)

-- what drafts of values mean are the values
drafted_back : {X Y : Type 0} (draft : X → Y) (mean : Y → X) → ((x : X) → mean (draft x) ≡ x) → (xs : List X)
    → filter_map (option_map mean) (map (λ x. Some (draft x)) xs) ≡ xs
drafted_back draft mean back [] = refl
drafted_back draft mean back (x ∷ xs) =
    ap (λ z. z ∷ filter_map (option_map mean) (map (λ y. Some (draft y)) xs)) (back x)
    ∙ ap (λ z. x ∷ z) (drafted_back draft mean back xs)

-- the step that its draft means, and the steps that theirs mean
step_back : (s : StepPlan) → step_of (drafted_step s) ≡ s
step_back s = ap (λ z. record { options = z; is_marked = s.is_marked }) (drafted_back drafted want_of (λ w. refl) s.options)

steps_back : (steps : List StepPlan) → filter_map (option_map step_of) (map (λ s. Some (drafted_step s)) steps) ≡ steps
steps_back = drafted_back drafted_step step_of step_back

-- A step.

-- nothing is wrong with a step that keeps both limits, and whose wants keep theirs
step_clean : (n i : ℕ) (s : StepPlan) → not (s.is_marked && i == n) ≡ true → is_between 1 most_options (length s.options) ≡ true
    → list_all is_want s.options ≡ true → step_faults n (i, Some (drafted_step s)) ≡ []
step_clean n i s mark count good = search (arith, none_append, unless_yes, length-map, options_clean)

-- a limit that a step breaks is reported
pub kept_refused : (n i k : ℕ) (s : StepPlan) (f : BadPlan) → k ≡ length s.options → Err f ≡ step_limits n i s.is_marked k
    → judged_step n i (Some (drafted_step s)) ≡ Err f
kept_refused n i k s f many limits =
    step_refused n i k (drafted_step s) f (length-map s.options (λ w. Some (drafted w)) ∙ sym many) limits

-- where a step keeps both limits, it is read unchanged
pub kept_within : (n i k : ℕ) (s : StepPlan) → list_all is_want s.options ≡ true → k ≡ length s.options
    → Ok tt ≡ step_limits n i s.is_marked k → judged_step n i (Some (drafted_step s)) ≡ Ok s
unfolding judged_step
kept_within n i k s good many limits = grind (arith, limits_pass, step_clean, step_back)

-- The steps.

-- a test that does not hold is false
not_so : (b : Bool) → not b ≡ true → b ≡ false
not_so b e = grind arith

-- no mark stands on the last of so many
mark_in_place : (n i : ℕ) (s : StepPlan) (steps : List StepPlan) → i + length (s ∷ steps) ≡ n + 1
    → is_last_unmarked (s ∷ steps) ≡ true → (s.is_marked ≡ false) ⊎ (i ≢ n)
mark_in_place n i s steps l u = grind (arith, not_so)

-- no mark stands on the last of the later ones
rest_unmarked : (s : StepPlan) (steps : List StepPlan) → is_last_unmarked (s ∷ steps) ≡ true → is_last_unmarked steps ≡ true
rest_unmarked s steps u = grind arith

-- nothing is wrong with steps that keep the limits
steps_clean : (n i : ℕ) (steps : List StepPlan) → i + length steps ≡ n + 1 → is_last_unmarked steps ≡ true
    → list_all is_step steps ≡ true → flat_map (step_faults n) (enumerate_from i (map (λ s. Some (drafted_step s)) steps)) ≡ []
steps_clean n i [] l u e = refl
steps_clean n i (s ∷ steps) l u e =
    let both = and_both (is_step s) (list_all is_step steps) e in
    let here = and_both (is_between 1 most_options (length s.options)) (list_all is_want s.options) both.0 in
    none_append _ _ (step_clean n i s (mark_right s.is_marked i n (mark_in_place n i s steps l u)) here.0 here.1)
    (steps_clean n (i + 1) steps (omega arith) (rest_unmarked s steps u) both.1)

-- A plan.

-- what a draft of a plan that keeps the limits means, or the fault in it, is the plan
pub drafted_again : (p : Planned) → is_plan p ≡ true → judged (Some (drafted_plan p)) ≡ Ok p
drafted_again p e = grind (arith, limited, length-map, none_append, unless_yes, le-leb, between_yes, steps_clean, steps_back)

-- too many tries
pub made_tries : (p : Planned) → most_tries < p.tries → plan_made p ≡ Err (at 0 cause.Tries)
unfolding plan_made
made_tries p many = draft_no_tries (drafted_plan p) (lt-leb p.tries most_tries many)

-- no step, or too many
pub made_miscounted : (p : Planned) (n : ℕ) → n ≡ length p.steps → p.tries ≤ most_tries → (n ≡ 0) ⊎ (most_steps < n)
    → plan_made p ≡ Err (at 0 cause.Steps)
unfolding plan_made
made_miscounted p n same few out = grind (arith, draft_miscounted, length-map, le-leb)

-- where tries and number are in order, the first fault of a plan is that of its steps
pub made_by_steps : (items : List PlanStep) (tries n : ℕ) (r : Result (List StepPlan) BadPlan) → n ≡ length items → tries ≤ most_tries
    → 1 ≤ n → n ≤ most_steps → judged_steps n (steps_held items) ≡ r → plan_made (plan_said items tries) ≡ with_tries tries r
unfolding plan_made
made_by_steps items tries n r same few low high kept =
    draft_by_steps (drafted_plan (plan_said items tries)) n r
    (length-map (map step_said items) (λ s. Some (drafted_step s)) ∙ length-map items step_said ∙ sym same) (le-leb tries most_tries few) low high
    (ap (judged_steps n) (map-map (λ s. Some (drafted_step s)) step_said items) ∙ kept)

-- the first nights of wants that keep the limits are nights
wants_nights : (ws : List Wanted) → list_all is_want ws ≡ true → AllByRecursion HasNight (map (λ w. Some (drafted w)) ws)
wants_nights [] e = tt
wants_nights (w ∷ ws) e = grind (arith, and_both, wants_nights ws)

-- so are those of steps
steps_nights : (steps : List StepPlan) → list_all is_step steps ≡ true
    → AllByRecursion HasNights (map (λ s. Some (drafted_step s)) steps)
steps_nights [] e = tt
steps_nights (s ∷ steps) e = grind (arith, and_both, wants_nights, steps_nights steps)

-- a plan that is made of steps that keep the limits keeps them
pub made_keeps : (p : Planned) → list_all is_step p.steps ≡ true → plan_made p ≡ Ok p → is_plan p ≡ true
unfolding plan_made
made_keeps p limits made = judged_keeps (drafted_plan p) p (steps_nights p.steps limits) made
