-- What is read of an option, of a step and of all steps, and which limits they keep.
use Rattle.std.specs.Prelude.{◌≡◌, ℕ, ◌&&◌, ◌==◌, not, Bool, List, ◌++◌, map, filter_map, flat_map, Option, Some, None, option_map, Result, Ok, Err}
use Rattle.std.specs.List.{enumerate_from}
use Rattle.serde_json.specs.Data.{Data}
use Rattle.serde_json.specs.View.{view}
use Rattle.serde_json.specs.declared.value.Value.{Value}
use Rattle.allotment.specs.Want.{Wanted}
use Rattle.allotment.specs.Limits.{is_between}
use Rattle.allotment.specs.Making.{unless, first_fault, want_made}
use Rattle.allotment.specs.Texts.{parts, bar, semicolon}
use Rattle.allotment.specs.declared.codes.Kind.{Kind}
use Rattle.allotment.specs.declared.wants.Bad.{Bad}
use Rattle.allotment.specs.declared.wants.Bad.TheVariants as bad
use Rattle.plan.specs.Limits.{most_options}
use Rattle.plan.specs.PlanModel.{Planned, StepPlan, step_said, plan_said}
use Rattle.plan.specs.declared.steps.PlanStep.{PlanStep}
use Rattle.plan.specs.declared.causes.PlanCause.{PlanCause}
use Rattle.plan.specs.declared.causes.PlanCause.TheVariants as cause
use Rattle.plan.specs.declared.faults.BadPlan.{BadPlan}
use Rattle.plan.specs.Drafts.{OptionDraft, StepDraft, at, want_of, option_faults, step_of, step_faults, drafted_step, plan_made}
use Rattle.plan.specs.PlanLine.{option_draft, step_draft}
use Rattle.plan.specs.PlanJson.{json_option, json_step}

-- the cause of a plan's fault for this fault of a want
abbrev pub cause_of : Bad → PlanCause
cause_of bad.Code = cause.Code
cause_of bad.Night = cause.Night
cause_of bad.Nights = cause.Nights
cause_of bad.Count = cause.Count

-- the result of an option's want that is made so
abbrev pub told_want : ℕ → Result Wanted Bad → Result Wanted BadPlan
told_want i (Ok w) = Ok w
told_want i (Err b) = Err (at i (cause_of b))

-- the want of these parts, if there is a kind, or the first thing that is wrong with them
abbrev pub told_option : ℕ → Option Kind → List ℕ → List ℕ → List ℕ → ℕ → ℕ → Result Wanted BadPlan
told_option i None s p f n c = Err (at i cause.Kind)
told_option i (Some k) s p f n c = told_want i (want_made k s p f n c)

-- the want of an option of this step, or the first thing that is wrong with it
unfoldable pub judged_option : ℕ → Option OptionDraft → Result Wanted BadPlan
judged_option i None = Err (at i cause.Shape)
judged_option i (Some o) = first_fault (want_of o) (option_faults i (Some o))

-- the wants of the options of this step, or the first thing that is wrong with one of them
unfoldable pub judged_options : ℕ → List (Option OptionDraft) → Result (List Wanted) BadPlan
judged_options i os = first_fault (filter_map (option_map want_of) os) (flat_map (option_faults i) os)

-- whether the step of this number, of so many, may have this mark and so many options
abbrev pub step_limits : ℕ → ℕ → Bool → ℕ → Result (Unit {0}) BadPlan
step_limits n i save options =
    first_fault tt
    (unless (not (save && i == n)) (at i cause.Save) ++ unless (is_between 1 most_options options) (at i cause.Options))

-- the step of this number, of so many, or the first thing that is wrong with it
unfoldable pub judged_step : ℕ → ℕ → Option StepDraft → Result StepPlan BadPlan
judged_step n i None = Err (at i cause.Shape)
judged_step n i (Some s) = first_fault (step_of s) (step_faults n (i, Some s))

-- the steps, of so many, or the first thing that is wrong with one of them
unfoldable pub judged_steps : ℕ → List (Option StepDraft) → Result (List StepPlan) BadPlan
judged_steps n ss = first_fault (filter_map (option_map step_of) ss) (flat_map (step_faults n) (enumerate_from 1 ss))

-- the values of a program, as data
abbrev pub views : List Value → List Data
views values = map view values

-- options and steps by their drafts: those that a text spells, that values represent, and steps as the program holds them
abbrev pub options_spelled : List ℕ → List (Option OptionDraft)
options_spelled text = map option_draft (parts bar text)

abbrev pub steps_spelled : List ℕ → List (Option StepDraft)
steps_spelled text = map (λ step. Some (step_draft step)) (parts semicolon text)

abbrev pub options_shown : List Value → List (Option OptionDraft)
options_shown values = map (λ value. json_option (view value)) values

abbrev pub steps_shown : List Value → List (Option StepDraft)
steps_shown values = map (λ value. json_step (view value)) values

abbrev pub steps_held : List PlanStep → List (Option StepDraft)
steps_held steps = map (λ step. Some (drafted_step (step_said step))) steps

-- this is the plan of these steps and tries, or the first limit that it would break
abbrev pub MakesPlan : List PlanStep → ℕ → Result Planned BadPlan → Type 0
MakesPlan steps tries result = plan_made (plan_said steps tries) ≡ result
