-- A plan as it was written, and what is wrong with it, in order.
use Rattle.std.specs.Prelude.{ℕ, ◌==◌, ◌&&◌, not, Bool, List, [], ◌∷◌, ◌++◌, map, length, filter_map, flat_map, nat_le, Option, Some, None, option_map, is_some, unwrap_or, Result}
use Rattle.std.specs.List.{enumerate_from}
use Rattle.allotment.specs.Want.{Wanted}
use Rattle.allotment.specs.Limits.{is_between, is_code, is_count, are_nights}
use Rattle.allotment.specs.Making.{unless, first_fault}
use Rattle.allotment.specs.declared.codes.Kind.{Kind}
use Rattle.allotment.specs.declared.codes.Kind.TheVariants.{Flight}
use Rattle.plan.specs.Limits.{most_options, most_steps, most_tries}
use Rattle.plan.specs.PlanModel.{Planned, StepPlan}
use Rattle.plan.specs.declared.causes.PlanCause.{PlanCause}
use Rattle.plan.specs.declared.causes.PlanCause.TheVariants as cause
use Rattle.plan.specs.declared.faults.BadPlan.{BadPlan}

-- an option: its two codes as they stand, and its other parts, each if it is one of its sort
pub record OptionDraft : Type 0 where
  pub kind : Option Kind
  pub supplier : List ℕ
  pub product : List ℕ
  pub first : Option ℕ
  pub nights : Option ℕ
  pub count : Option ℕ

-- a step: its options, of which one may be no option at all, and whether it is marked
pub record StepDraft : Type 0 where
  pub options : List (Option OptionDraft)
  pub is_marked : Bool

-- a plan: its steps, of which one may be no step at all, and its tries, if they are a number
pub record Draft : Type 0 where
  pub steps : List (Option StepDraft)
  pub tries : Option ℕ

-- this is wrong at this step, 0 for the plan as a whole
abbrev pub at : ℕ → PlanCause → BadPlan
at step cause = record { step = step; cause = cause }

-- the kind, and any where there is none
abbrev pub kind_or_any : Option Kind → Kind
kind_or_any kind = unwrap_or kind Flight

-- the number, and 0 where there is none
abbrev pub number_or_none : Option ℕ → ℕ
number_or_none n = unwrap_or n 0

-- what is wrong with an option of this step: its kind, a code, its first night, its nights, its count
abbrev pub option_faults : ℕ → Option OptionDraft → List BadPlan
option_faults i None = at i cause.Shape ∷ []
option_faults i (Some o) =
    unless (is_some o.kind) (at i cause.Kind)
    ++ unless (is_code o.supplier && is_code o.product) (at i cause.Code)
    ++ unless (is_some o.first) (at i cause.Night)
    ++ unless
    (is_some o.nights && are_nights (kind_or_any o.kind) (number_or_none o.first) (number_or_none o.nights))
    (at i cause.Nights)
    ++ unless (is_some o.count && is_count (number_or_none o.count)) (at i cause.Count)

-- what is wrong with the step of this number, of so many: a mark on the last, too many options or none, an option
abbrev pub step_faults : ℕ → ℕ × Option StepDraft → List BadPlan
step_faults n (i, None) = at i cause.Shape ∷ []
step_faults n (i, Some s) =
    unless (not (s.is_marked && i == n)) (at i cause.Save)
    ++ unless (is_between 1 most_options (length s.options)) (at i cause.Options)
    ++ flat_map (option_faults i) s.options

-- all that is wrong with a plan, in order. Only the first fault is reported, so it does not matter what a later one
-- says
abbrev pub faults : Option Draft → List BadPlan
faults None = at 0 cause.Shape ∷ []
faults (Some d) =
    unless (is_some d.tries && nat_le (number_or_none d.tries) most_tries) (at 0 cause.Tries)
    ++ unless (is_between 1 most_steps (length d.steps)) (at 0 cause.Steps)
    ++ flat_map (step_faults (length d.steps)) (enumerate_from 1 d.steps)

-- the want that an option means
abbrev pub want_of : OptionDraft → Wanted
want_of o = record {
  kind = kind_or_any o.kind;
  supplier = o.supplier;
  product = o.product;
  first = number_or_none o.first;
  nights = number_or_none o.nights;
  count = number_or_none o.count;
}

-- the step that a draft of it means
abbrev pub step_of : StepDraft → StepPlan
step_of s = record { options = filter_map (option_map want_of) s.options; is_marked = s.is_marked }

-- the plan that a draft means
abbrev pub plan_of : Option Draft → Planned
plan_of None = record { steps = []; tries = 0 }
plan_of (Some d) = record { steps = filter_map (option_map step_of) d.steps; tries = number_or_none d.tries }

-- the plan of a draft, or the first thing that is wrong with it
abbrev pub judged : Option Draft → Result Planned BadPlan
judged d = first_fault (plan_of d) (faults d)

-- the option whose parts are those of a want
abbrev pub drafted : Wanted → OptionDraft
drafted w = record {
  kind = Some w.kind;
  supplier = w.supplier;
  product = w.product;
  first = Some w.first;
  nights = Some w.nights;
  count = Some w.count;
}

-- the step whose options are these wants
abbrev pub drafted_step : StepPlan → StepDraft
drafted_step s = record { options = map (λ w. Some (drafted w)) s.options; is_marked = s.is_marked }

-- the draft that says what a plan says
abbrev pub drafted_plan : Planned → Draft
drafted_plan p = record { steps = map (λ s. Some (drafted_step s)) p.steps; tries = Some p.tries }

-- the plan of these steps and tries if it keeps the limits, else the first limit that it breaks
unfoldable pub plan_made : Planned → Result Planned BadPlan
plan_made p = judged (Some (drafted_plan p))
