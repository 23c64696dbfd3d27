-- What the fields of a plan say of its steps. For the readers of a plan, its copy, and the check of its steps.
use Rattle.std.proofs.Common.{◌≡◌, ℕ, ◌+◌, ◌-◌, ◌<◌, ◌≤◌, true, List, [], ◌∷◌, map, length, take, arith, get_or, Some}
use Rattle.std.specs.List.{list_all}
use Rattle.std.proofs.lemmas.List.{length-map}
use Rattle.std.proofs.lemmas.List.Folds.{list_all-append}
use Rattle.std.proofs.lemmas.Option.{slice_get_read, slice_get-map}
use Rattle.plan.specs.declared.steps.PlanStep.{PlanStep}
use Rattle.plan.specs.PlanModel.{Planned, step_said, plan_said, numbered, step_count, is_step}
use Rattle.plan.proofs.PrintLemmas.{mapped_more}

-- the element at an index is the one with the next number, counted from 1
pub numbered_read : {X : Type 0} (xs : List X) (i : ℕ) (x : X)
    → 1 ≤ i → i ≤ length xs → x ≡ get_or xs (i - 1) x → numbered xs i ≡ Some x
numbered_read xs i x low high e = grind (arith, slice_get_read)

-- the step with a number, where the plan is made of these steps
pub step_read : (items : List PlanStep) (tries i : ℕ) (plan : Planned) (x : PlanStep)
    → plan_said items tries ≡ plan → 1 ≤ i → i ≤ step_count plan → x ≡ get_or items (i - 1) x
    → numbered plan.steps i ≡ Some (step_said x)
step_read items tries i plan x said low high e = grind (arith, length-map, slice_get-map, numbered_read)

-- one more step keeps the limits, like those before it
pub limits_more : (items : List PlanStep) (k : ℕ) (x : PlanStep) → k < length items → x ≡ get_or items k x
    → list_all is_step (map step_said (take k items)) ≡ true → is_step (step_said x) ≡ true
    → list_all is_step (map step_said (take (k + 1) items)) ≡ true
limits_more items k x l e so_far here =
    grind (arith, mapped_more step_said items k x l, list_all-append is_step (map step_said (take k items)) (step_said x ∷ []))
