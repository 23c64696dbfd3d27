-- The rows of a plan, step by step and option by option. For readers and writers of plans.
use Rattle.std.proofs.Common.{◌≡◌, ℕ, ◌+◌, ◌<◌, ◌++◌, length, refl, ap, ◌∙◌, arith, add-one, Option, Some, None, option_map, rules}
use Rattle.std.specs.Prelude.{unwrap_or}
use Rattle.plan.specs.PlanModel.{Planned, StepPlan, numbered, option_count, step_count}
use Rattle.sql_model.specs.ExpectedRows.{step_rows_of, none_taken}
use Rattle.sql_model.specs.Beginning.{first_steps, rows_of_step, rows_of_option, first_rows_of_step}
use Rattle.sql_model.proofs.Numbering.{there_is}
use Rattle.sql_model.proofs.PlanWriting.{option_rows-more, option_rows-all, step_rows-more}

-- the next option is appended
pub first_rows_of_step-more : (id : ℕ) (plan : Planned) (i n : ℕ) → n < option_count plan i
    → first_rows_of_step id plan i (n + 1) ≡ first_rows_of_step id plan i n ++ rows_of_option id plan i (n + 1)
first_rows_of_step-more id plan i n within = go (numbered plan.steps i) refl within
  where
    go : (o : Option StepPlan) → numbered plan.steps i ≡ o → n < unwrap_or (option_map (λ (s : StepPlan). length s.options) o) 0
        → first_rows_of_step id plan i (n + 1) ≡ first_rows_of_step id plan i n ++ rows_of_option id plan i (n + 1)
    go None e low = absurd (omega arith)
    go (Some s) e low =
        let w = there_is s.options n low in
        let next : numbered s.options (n + 1) ≡ Some w.0 = ap (numbered s.options) (add-one n) ∙ w.1 in
        rw (e, next) (option_rows-more none_taken id i s n w.0 w.1)

-- the rows up to the last option are all rows of the step
pub first_rows_of_step-all : (id : ℕ) (plan : Planned) (i n : ℕ) → n ≡ option_count plan i
    → first_rows_of_step id plan i n ≡ rows_of_step id plan i
first_rows_of_step-all id plan i n all = search (rules, arith, option_rows-all)

-- the rows of the next step are appended
pub step_rows_of-more : (id : ℕ) (plan : Planned) (n : ℕ) → n < step_count plan
    → step_rows_of id (first_steps (n + 1) plan) ≡ step_rows_of id (first_steps n plan) ++ rows_of_step id plan (n + 1)
step_rows_of-more id plan n within = search (rules, arith, there_is plan.steps n within, step_rows-more, add-one)
