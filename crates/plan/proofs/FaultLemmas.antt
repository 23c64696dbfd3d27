-- At which step a fault may be. For the readers of lines and of JSON.
use Rattle.std.proofs.Common.{◌≡◌, ℕ, ◌+◌, ◌<◌, ◌≤◌, ◌⊎◌, inl, inr, List, [], ◌∷◌, ◌++◌, length, arith, Option, Some, None, Err, flat_map}
use Rattle.std.specs.List.{enumerate_from}
use Rattle.serde_json.specs.Data.{Data}
use Rattle.allotment.specs.Making.{first_fault}
use Rattle.plan.specs.Limits.{most_steps}
use Rattle.plan.specs.declared.faults.BadPlan.{BadPlan}
use Rattle.plan.specs.Drafts.{Draft, StepDraft, OptionDraft, option_faults, step_faults, plan_of, judged}
use Rattle.plan.specs.PlanLine.{line_draft, plan_in}
use Rattle.plan.specs.PlanJson.{json_draft, plan_in_json}

-- the first of some faults is the first of the earlier ones, or of the later ones
first_either : {X F : Type 0} (x : X) (fs gs : List F) (f : F) → first_fault x (fs ++ gs) ≡ Err f
    → (first_fault x fs ≡ Err f) ⊎ (first_fault x gs ≡ Err f)
first_either x fs gs f e = grind arith

-- a fault of an option is at its step
option_step : {X : Type 0} (x : X) (i : ℕ) (o : Option OptionDraft) (f : BadPlan) → first_fault x (option_faults i o) ≡ Err f → f.step ≡ i
option_step x i None f e = cc
option_step x i (Some o) f e = grind arith

-- so is one of options
options_step : {X : Type 0} (x : X) (i : ℕ) (os : List (Option OptionDraft)) (f : BadPlan)
    → first_fault x (flat_map (option_faults i) os) ≡ Err f → f.step ≡ i
options_step x i [] f e = cc
options_step x i (o ∷ os) f e = elim (first_either x (option_faults i o) (flat_map (option_faults i) os) f e) [
  | inl here ↦ option_step x i o f here
  | inr later ↦ options_step x i os f later
]

-- and one of a step
step_step : {X : Type 0} (x : X) (n i : ℕ) (s : Option StepDraft) (f : BadPlan) → first_fault x (step_faults n (i, s)) ≡ Err f → f.step ≡ i
step_step x n i None f e = cc
step_step x n i (Some s) f e = grind (arith, options_step x i s.options f)

-- a fault of steps is at one of them
steps_step : {X : Type 0} (x : X) (n i : ℕ) (ss : List (Option StepDraft)) (f : BadPlan)
    → first_fault x (flat_map (step_faults n) (enumerate_from i ss)) ≡ Err f → f.step < i + length ss
steps_step x n i [] f e = cc
steps_step x n i (s ∷ ss) f e = elim (first_either x (step_faults n (i, s)) (flat_map (step_faults n) (enumerate_from (i + 1) ss)) f e) [
  | inl here ↦ omega (arith, step_step x n i s f here)
  | inr later ↦ omega (arith, steps_step x n (i + 1) ss f later)
]

-- the reported fault of a draft names no step after the last one that a plan may have, however many steps it has
draft_fault : (o : Option Draft) (f : BadPlan) → judged o ≡ Err f → f.step ≤ most_steps
draft_fault None f e = grind arith
draft_fault (Some d) f e = grind (arith, steps_step (plan_of (Some d)) (length d.steps) 1 d.steps f)

-- so does that of a line
pub fault_step : (text : List ℕ) (f : BadPlan) → plan_in text ≡ Err f → f.step ≤ most_steps
unfolding plan_in
fault_step text f e = draft_fault (Some (line_draft text)) f e

-- and that of a value
pub json_fault_step : (d : Data) (f : BadPlan) → plan_in_json d ≡ Err f → f.step ≤ most_steps
unfolding plan_in_json
json_fault_step d f e = draft_fault (json_draft d) f e
