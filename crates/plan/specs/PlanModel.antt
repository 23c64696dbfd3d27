-- What a plan says, and its limits. Steps are counted from 1, and so are the options of a step.
use Rattle.std.specs.Prelude.{ℕ, zero, suc, ◌&&◌, not, Bool, true, false, List, [], ◌∷◌, map, length, nat_le, slice_get, Option, None, option_map, option_and_then, unwrap_or}
use Rattle.std.specs.List.{list_all}
use Rattle.allotment.specs.Want.{Wanted}
use Rattle.allotment.specs.Limits.{is_between, is_want}
use Rattle.plan.specs.Limits.{most_options, most_steps, most_tries}
use Rattle.plan.specs.declared.steps.PlanStep.{PlanStep}

-- one step: the wants that would do, in order of preference, and whether a save-point is taken after it
pub record StepPlan : Type 0 where
  pub options : List Wanted
  pub is_marked : Bool

-- a plan: its steps, and how often a refused step is retried
pub record Planned : Type 0 where
  pub steps : List StepPlan
  pub tries : ℕ

-- what the steps of a program say
abbrev pub step_said : PlanStep → StepPlan
step_said s = record { options = s.options.items; is_marked = s.save }

-- what steps and tries say as a plan
abbrev pub plan_said : List PlanStep → ℕ → Planned
plan_said steps tries = record { steps = map step_said steps; tries = tries }

-- the element with this number, counted from 1
abbrev pub numbered : {X : Type 0} → List X → ℕ → Option X
numbered xs zero = None
numbered xs (suc i) = slice_get xs i

-- how many steps a plan has
abbrev pub step_count : Planned → ℕ
step_count plan = length plan.steps

-- whether a step is marked
abbrev pub is_marked_at : Planned → ℕ → Bool
is_marked_at plan i = unwrap_or (option_map (λ (s : StepPlan). s.is_marked) (numbered plan.steps i)) false

-- how many options a step has
abbrev pub option_count : Planned → ℕ → ℕ
option_count plan i = unwrap_or (option_map (λ (s : StepPlan). length s.options) (numbered plan.steps i)) 0

-- the want of an option of a step
abbrev pub want_at : Planned → ℕ → ℕ → Option Wanted
want_at plan i c = option_and_then (λ (s : StepPlan). numbered s.options c) (numbered plan.steps i)

-- The limits.

-- no mark stands on the last step
abbrev pub is_last_unmarked : List StepPlan → Bool
is_last_unmarked [] = true
is_last_unmarked (s ∷ []) = not s.is_marked
is_last_unmarked (s ∷ t ∷ later) = is_last_unmarked (t ∷ later)

-- the step keeps the limits: from 1 option, each of which keeps its own
abbrev pub is_step : StepPlan → Bool
is_step s = is_between 1 most_options (length s.options) && list_all is_want s.options

-- the plan keeps the limits: from 1 step, each with from 1 option, the last one unmarked, and few tries
abbrev pub is_plan : Planned → Bool
is_plan p =
    is_between 1 most_steps (length p.steps) && list_all is_step p.steps && is_last_unmarked p.steps && nat_le p.tries most_tries
