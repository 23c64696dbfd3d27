-- The rows of a plan, written one at a time. For PlanParts.
use Rattle.std.proofs.Common.{◌≡◌, ℕ, zero, suc, ◌+◌, List, [], ◌∷◌, ◌++◌, map, take, length, Bool, Some, refl, ap, ◌∙◌, arith, add-one, flat_map, slice_get, rules}
use Rattle.std.proofs.lemmas.List.{take_all}
use Rattle.allotment.specs.Want.{Wanted}
use Rattle.plan.specs.PlanModel.{Planned, StepPlan}
use Rattle.sql_model.specs.ExpectedRows.{counted_from, option_row, option_rows, step_rows}
use Rattle.sql_model.specs.Beginning.{first_steps, first_options}
use Rattle.sql_model.proofs.Numbering.{map_counted-last, flat_map_counted-last}

-- one more element, the next
taken_more : {X : Type 0} (xs : List X) (i : ℕ) (x : X) → slice_get xs i ≡ Some x
    → (take (suc i) xs ≡ take i xs ++ x ∷ []) × (length (take i xs) ≡ i)
taken_more [] i x e = cc
taken_more (y ∷ xs) zero x e = let same : y ≡ x = cc in (ap (λ z. z ∷ []) same, refl)
taken_more (y ∷ xs) (suc i) x e = search (rules, arith, taken_more xs i x e)

-- the options of the next step are appended
pub step_rows-more : (taken : ℕ → ℕ → Bool) (id : ℕ) (plan : Planned) (i : ℕ) (s : StepPlan)
    → slice_get plan.steps i ≡ Some s
    → step_rows taken id (first_steps (i + 1) plan) ≡ step_rows taken id (first_steps i plan) ++ option_rows taken id (i + 1) s
step_rows-more taken id plan i s e =
    let rows = λ (p : ℕ × StepPlan). option_rows taken id p.0 p.1 in
    let more = taken_more plan.steps i s e in
    let size = more.1 in
    ap (λ steps. flat_map rows (counted_from 1 steps)) (ap (λ n. take n plan.steps) (add-one i) ∙ more.0)
    ∙ flat_map_counted-last rows (take i plan.steps) s (i + 1) (omega arith)

-- the next option is appended
pub option_rows-more : (taken : ℕ → ℕ → Bool) (id k : ℕ) (s : StepPlan) (o : ℕ) (w : Wanted)
    → slice_get s.options o ≡ Some w
    → option_rows taken id k (first_options (o + 1) s) ≡ option_rows taken id k (first_options o s) ++ option_row id k s.is_marked (o + 1) (taken k (o + 1)) w ∷ []
option_rows-more taken id k s o w e =
    let row = λ (p : ℕ × Wanted). option_row id k s.is_marked p.0 (taken k p.0) p.1 in
    let more = taken_more s.options o w e in
    let size = more.1 in
    ap (λ options. map row (counted_from 1 options)) (ap (λ n. take n s.options) (add-one o) ∙ more.0)
    ∙ map_counted-last row (take o s.options) w (o + 1) (omega arith)

-- the rows up to the last step are all rows
pub step_rows-all : (taken : ℕ → ℕ → Bool) (id : ℕ) (plan : Planned)
    → step_rows taken id (first_steps (length plan.steps) plan) ≡ step_rows taken id plan
step_rows-all taken id plan = search (rules, arith, take_all)

-- the rows up to the last option are all rows of the step
pub option_rows-all : (taken : ℕ → ℕ → Bool) (id k : ℕ) (s : StepPlan)
    → option_rows taken id k (first_options (length s.options) s) ≡ option_rows taken id k s
option_rows-all taken id k s = search (rules, arith, take_all)
