-- A draft in which nothing is wrong means a plan that keeps the limits. For plans that are read, and for those that are made.
use Rattle.std.proofs.Common.{◌≡◌, ℕ, ◌+◌, true, List, [], ◌∷◌, length, map, refl, ap, ◌∙◌, arith, Option, Some, None, Ok, filter_map, option_map, is_some}
use Rattle.std.specs.List.{AllByRecursion, list_all, enumerate_from}
use Rattle.allotment.specs.Want.{Wanted}
use Rattle.allotment.specs.Limits.{is_between, is_night, is_want}
use Rattle.allotment.proofs.TestLemmas.{and_both, and_make}
use Rattle.plan.specs.Limits.{most_options, most_steps}
use Rattle.plan.specs.PlanModel.{Planned, StepPlan, is_step, is_last_unmarked, is_plan}
use Rattle.plan.specs.Drafts.{OptionDraft, StepDraft, Draft, number_or_none, option_faults, step_faults, faults, want_of, step_of, plan_of, judged}
use Rattle.plan.proofs.ListFacts.{append_none, unless_none, flat_map_none, first_fault_ok}

-- the first night of an option, where it has one, is a night
abbrev pub HasNight : Option OptionDraft → Type 0
HasNight None = Unit {0}
HasNight (Some o) = is_some o.first ≡ true → is_night (number_or_none o.first) ≡ true

-- so is that of each option of a step
abbrev pub HasNights : Option StepDraft → Type 0
HasNights None = Unit {0}
HasNights (Some s) = AllByRecursion HasNight s.options

-- a fact of each image
pub all_images : {X Y : Type 0} (P : Y → Type 0) (f : X → Y) → ((x : X) → P (f x)) → (xs : List X) → AllByRecursion P (map f xs)
all_images P f each [] = tt
all_images P f each (x ∷ xs) = (each x, all_images P f each xs)

-- Options.

-- the wants that options mean
abbrev pub wants_of : List (Option OptionDraft) → List Wanted
wants_of os = filter_map (option_map want_of) os

-- the want of an option in which nothing is wrong keeps the limits
option_keeps : (i : ℕ) (o : OptionDraft) → HasNight (Some o) → option_faults i (Some o) ≡ [] → is_want (want_of o) ≡ true
option_keeps i o night e = grind (arith, append_none, and_both, unless_none, and_make)

-- the wants of such options: as many, and each keeps the limits
record KeepOptions (os : List (Option OptionDraft)) : Type 0 where
  pub good : list_all is_want (wants_of os) ≡ true
  pub many : length (wants_of os) ≡ length os

options_keep : (i : ℕ) (os : List (Option OptionDraft)) → AllByRecursion HasNight os
    → AllByRecursion (λ o. option_faults i o ≡ []) os → KeepOptions os
options_keep i [] nights e = record { good = refl; many = refl }
options_keep i (None ∷ os) nights e = let bad = e.0 in cc
options_keep i (Some o ∷ os) nights e = grind (arith, and_make, option_keeps, options_keep i os nights.1 e.1)

-- Steps.

-- the steps that drafts mean
abbrev pub steps_of : List (Option StepDraft) → List StepPlan
steps_of ss = filter_map (option_map step_of) ss

-- the step of a draft in which nothing is wrong keeps the limits
step_keeps : (n i : ℕ) (s : StepDraft) → HasNights (Some s) → step_faults n (i, Some s) ≡ [] → is_step (step_of s) ≡ true
step_keeps n i s nights e =
    let last = append_none _ _ e in
    let options = options_keep i s.options nights (flat_map_none (option_faults i) s.options last.1) in
    and_make _ _ (ap (is_between 1 most_options) options.many ∙ unless_none _ _ (append_none _ _ last.0).1) options.good

-- the steps of such drafts, from one of them on to the last of so many: as many, each keeps the limits, the last has no mark
record KeepSteps (ss : List (Option StepDraft)) : Type 0 where
  pub good : list_all is_step (steps_of ss) ≡ true
  pub unmarked : is_last_unmarked (steps_of ss) ≡ true
  pub many : length (steps_of ss) ≡ length ss

steps_keep : (n i : ℕ) (ss : List (Option StepDraft)) → i + length ss ≡ n + 1 → AllByRecursion HasNights ss
    → AllByRecursion (λ x. step_faults n x ≡ []) (enumerate_from i ss) → KeepSteps ss
steps_keep n i [] l nights e = record { good = refl; unmarked = refl; many = refl }
steps_keep n i (None ∷ ss) l nights e = let bad = e.0 in cc
steps_keep n i (Some s ∷ ss) l nights e = grind (arith, step_keeps, steps_keep n (i + 1) ss (omega arith) nights.1)

-- A plan.

-- the plan of a draft in which nothing is wrong keeps the limits
pub draft_keeps : (d : Draft) → AllByRecursion HasNights d.steps → faults (Some d) ≡ [] → is_plan (plan_of (Some d)) ≡ true
draft_keeps d nights e =
    let last = append_none _ _ e in
    let first = append_none _ _ last.0 in
    let n = length d.steps in
    let steps = steps_keep n 1 d.steps (omega arith) nights (flat_map_none (step_faults n) (enumerate_from 1 d.steps) last.1) in
    let many = ap (is_between 1 most_steps) steps.many ∙ unless_none _ _ first.1 in
    and_make _ _ (and_make _ _ (and_make _ _ many steps.good) steps.unmarked) (and_both _ _ (unless_none _ _ first.0)).1

-- so does the plan that a draft is judged to be
pub judged_keeps : (d : Draft) (p : Planned) → AllByRecursion HasNights d.steps → judged (Some d) ≡ Ok p → is_plan p ≡ true
judged_keeps d p nights e = grind (arith, first_fault_ok, draft_keeps)
