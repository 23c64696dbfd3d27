-- What is read of a plan, by its tries, the number of its steps and what they are. For the readers of lines and JSON, and
-- for the call that makes a plan of steps.
use mathlib.Core.List.{map-map}
use Rattle.std.proofs.Common.{◌≡◌, ℕ, ◌<◌, ◌≤◌, ◌⊎◌, inr, Bool, true, false, ◌&&◌, List, ◌++◌, length, refl, sym, ap, ◌∙◌, arith, Option, Some, None, Ok, Err, flat_map, is_some, nat_le, option_map, Result}
use Rattle.std.specs.List.{enumerate_from}
use Rattle.std.proofs.lemmas.Bool.{le-leb, lt-leb}
use Rattle.std.proofs.lemmas.List.{length-map}
use Rattle.serde_json.specs.Data.{Data}
use Rattle.serde_json.specs.View.{view}
use Rattle.serde_json.specs.declared.value.Value.{Value}
use Rattle.allotment.specs.Limits.{is_between}
use Rattle.allotment.specs.Making.{unless, first_fault}
use Rattle.allotment.specs.Texts.{parts, semicolon}
use Rattle.plan.specs.Limits.{most_steps, most_tries}
use Rattle.plan.specs.declared.causes.PlanCause.TheVariants as cause
use Rattle.plan.specs.declared.faults.BadPlan.{BadPlan}
use Rattle.plan.specs.PlanModel.{Planned, StepPlan}
use Rattle.plan.specs.Drafts.{Draft, at, number_or_none, step_faults, plan_of, judged}
use Rattle.plan.specs.PlanLine.{front_of, end_of, tries_in, line_draft, plan_in}
use Rattle.plan.specs.PlanJson.{json_step, json_steps, json_tries, draft_with, plan_in_json}
use Rattle.plan.specs.Levels.{judged_steps, steps_spelled, steps_shown, views}
use Rattle.allotment.proofs.CutLemmas.{some_part}
use Rattle.allotment.proofs.TestLemmas.{and_both, and_make, keep_if_some}
use Rattle.plan.proofs.LevelLemmas.{and_false}
use Rattle.plan.proofs.ReadLemmas.{tries_read}

-- Numbers within limits.

-- 0, or a number over the most, is not from 1 to the most
pub between_no : (n most : ℕ) → (n ≡ 0) ⊎ (most < n) → is_between 1 most n ≡ false
between_no n most x = grind (arith, and_false, lt-leb)

-- a number from 1 to the most is between them
pub between_yes : (n most : ℕ) → 1 ≤ n → n ≤ most → is_between 1 most n ≡ true
between_yes n most low high = and_make _ _ (le-leb 1 n low) (le-leb n most high)

-- A draft of a plan.

-- whether these are tries
abbrev pub are_tries : Option ℕ → Bool
are_tries tries = is_some tries && nat_le (number_or_none tries) most_tries

-- the plan of these steps, or their fault
abbrev pub with_tries : ℕ → Result (List StepPlan) BadPlan → Result Planned BadPlan
with_tries tries (Ok steps) = Ok (record { steps = steps; tries = tries })
with_tries tries (Err f) = Err f

-- the first fault of a plan of these steps is theirs
tried_so : (tries : ℕ) (steps : List StepPlan) (fs : List BadPlan)
    → let p : Planned = record { steps = steps; tries = tries } in first_fault p fs ≡ with_tries tries (first_fault steps fs)
tried_so tries steps fs = grind arith

-- the first fault of a draft, by the tests of its tries and of the number of its steps
draft_told : (d : Draft) (a b : Bool) → are_tries d.tries ≡ a → is_between 1 most_steps (length d.steps) ≡ b
    → judged (Some d)
    ≡ first_fault (plan_of (Some d))
    (unless a (at 0 cause.Tries) ++ unless b (at 0 cause.Steps) ++ flat_map (step_faults (length d.steps)) (enumerate_from 1 d.steps))
draft_told d a b e h = cc

-- its tries are none
pub draft_no_tries : (d : Draft) → are_tries d.tries ≡ false → judged (Some d) ≡ Err (at 0 cause.Tries)
draft_no_tries d e = draft_told d false _ e refl

-- it has no step, or too many
pub draft_miscounted : (d : Draft) (n : ℕ) → length d.steps ≡ n → are_tries d.tries ≡ true → (n ≡ 0) ⊎ (most_steps < n)
    → judged (Some d) ≡ Err (at 0 cause.Steps)
draft_miscounted d n many e out = grind (arith, draft_told, between_no)

-- where tries and number are in order, the first fault of a draft is that of its steps
pub draft_by_steps : (d : Draft) (n : ℕ) (r : Result (List StepPlan) BadPlan) → length d.steps ≡ n → are_tries d.tries ≡ true
    → 1 ≤ n → n ≤ most_steps → judged_steps n d.steps ≡ r → judged (Some d) ≡ with_tries (number_or_none d.tries) r
unfolding judged_steps
draft_by_steps d n r many e low high read = grind (arith, draft_told, between_yes, tried_so)

-- A line.

-- a line that ends in no tries
pub line_no_tries : (text : List ℕ) → None ≡ tries_in (end_of text) → plan_in text ≡ Err (at 0 cause.Tries)
unfolding plan_in
line_no_tries text e = draft_no_tries (line_draft text) (sym (ap are_tries e))

-- a line that was cut into its steps, so many, and its tries
module _ (text front : List ℕ) (tries n : ℕ) (cut : front ≡ front_of text) (read : Some tries ≡ tries_in (end_of text))
    (many : n ≡ length (parts semicolon front)) where
  -- its draft has so many steps
  line_count : length (line_draft text).steps ≡ n
  line_count = grind (arith, length-map)

  -- tries that are read are at most 9
  line_tries : are_tries (tries_in (end_of text)) ≡ true
  line_tries = grind (arith, tries_read (end_of text) (sym (ap is_some read)))

  -- more steps than a plan may have
  pub line_too_long : most_steps < n → plan_in text ≡ Err (at 0 cause.Steps)
  unfolding plan_in
  line_too_long long = draft_miscounted (line_draft text) n line_count line_tries (inr long)

  -- where they are not too many, the first fault of a line is that of its steps
  pub line_by_steps : (r : Result (List StepPlan) BadPlan) → n ≤ most_steps → judged_steps n (steps_spelled front) ≡ r → plan_in text ≡ with_tries tries r
  unfolding plan_in
  line_by_steps r short steps =
      draft_by_steps (line_draft text) n r line_count line_tries (omega (arith, many, some_part semicolon front)) short
      (ap (λ z. judged_steps n (steps_spelled z)) (sym cut) ∙ steps)
      ∙ ap (λ o. with_tries (number_or_none o) r) (sym read)

-- A JSON value.

-- a value of another shape
pub json_unshaped : (d : Data) → None ≡ json_steps d → plan_in_json d ≡ Err (at 0 cause.Shape)
unfolding plan_in_json
json_unshaped d e = ap (λ o. judged (option_map (draft_with (json_tries d)) o)) (sym e)

-- a value of the shape of a plan, with tries or none
json_shaped : (d : Data) (vs : List Value) (tries : Option ℕ) → Some (views vs) ≡ json_steps d → tries ≡ json_tries d
    → plan_in_json d ≡ judged (Some (draft_with tries (views vs)))
unfolding plan_in_json
json_shaped d vs tries e same = cc

-- its tries are none
pub json_no_tries : (d : Data) (vs : List Value) → Some (views vs) ≡ json_steps d → None ≡ json_tries d
    → plan_in_json d ≡ Err (at 0 cause.Tries)
json_no_tries d vs e none = json_shaped d vs None e none ∙ draft_no_tries (draft_with None (views vs)) refl

-- a value of the shape of a plan, with these tries
module _ (d : Data) (vs : List Value) (tries : ℕ) (shape : Some (views vs) ≡ json_steps d) (read : Some tries ≡ json_tries d) where
  -- tries that are read are few
  few : nat_le tries most_tries ≡ true
  few = grind (arith, keep_if_some, and_both)

  -- its draft has as many steps as there are values
  json_count : length (draft_with (Some tries) (views vs)).steps ≡ length vs
  json_count = length-map (views vs) json_step ∙ length-map vs view

  -- it has no step, or too many
  pub json_miscounted : (length vs ≡ 0) ⊎ (most_steps < length vs) → plan_in_json d ≡ Err (at 0 cause.Steps)
  json_miscounted out =
      json_shaped d vs (Some tries) shape read
      ∙ draft_miscounted (draft_with (Some tries) (views vs)) (length vs) json_count few out

  -- where tries and number are in order, its first fault is that of its steps
  pub json_by_steps : (r : Result (List StepPlan) BadPlan) → 1 ≤ length vs → length vs ≤ most_steps
      → judged_steps (length vs) (steps_shown vs) ≡ r → plan_in_json d ≡ with_tries tries r
  json_by_steps r low high steps =
      json_shaped d vs (Some tries) shape read
      ∙ draft_by_steps (draft_with (Some tries) (views vs)) (length vs) r json_count few low high
      (ap (judged_steps (length vs)) (map-map json_step view vs) ∙ steps)
