-- Consecutive rows that are those of a plan. For the functions of `plan_rows`.
use Rattle.std.proofs.Common.{◌≡◌, ℕ, Bool, ◌+◌, ◌<◌, ◌≤◌, List, [], ◌∷◌, ◌++◌, map, take, take_all, length, get_or, sym, ap, ◌∙◌, arith, append_assoc, rules}
use Rattle.std.proofs.lemmas.List.{map-append, take_more}
use Rattle.allotment.specs.Want.{Wanted}
use Rattle.plan.specs.PlanModel.{Planned, option_count, step_count}
use Rattle.desk_sql.specs.FoundRows.{step_of}
use Rattle.desk_sql.specs.declared.steps.StepFound.{StepFound}
use Rattle.sql_model.specs.ExpectedRows.{step_rows_of, none_taken, option_row}
use Rattle.sql_model.proofs.PlanReading.{option_row-want}
use Rattle.sql_model.specs.Reading.{not_taken}
use Rattle.sql_model.specs.Beginning.{first_steps, first_rows_of_step, rows_of_step}
use Rattle.sql_model.proofs.PlanWriting.{step_rows-all}
use Rattle.sql_reads.specs.PlanRows.{first_rows, TellsWant, TellsOption, TellStep, TellPlan}
use Rattle.sql_model.proofs.PlanParts.{first_rows_of_step-more, first_rows_of_step-all, step_rows_of-more}

-- the rows of a list and of its suffix
first_rows-append : (id : ℕ) (xs ys : List StepFound) → first_rows id (xs ++ ys) ≡ first_rows id xs ++ first_rows id ys
first_rows-append id xs ys = ap (map not_taken) (map-append (step_of id) xs ys) ∙ map-append not_taken (map (step_of id) xs) (map (step_of id) ys)

-- one more option of a step
pub option_more : (rows : List StepFound) (from n : ℕ) (plan : Planned) (i : ℕ) (row : StepFound) → from + n < length rows → row ≡ get_or rows (from + n) row → n < option_count plan i
    → TellsOption row plan i (n + 1)
    → ((id : ℕ) → first_rows id (take (from + n) rows) ≡ first_rows id (take from rows) ++ first_rows_of_step id plan i n)
    → (id : ℕ) → first_rows id (take (from + (n + 1)) rows) ≡ first_rows id (take from rows) ++ first_rows_of_step id plan i (n + 1)
option_more rows from n plan i row inside there low tells told id =
    ap (λ k. first_rows id (take k rows)) (let e : from + (n + 1) ≡ (from + n) + 1 = omega arith in e)
    ∙ ap (first_rows id) (take_more rows (from + n) row inside ∙ ap (λ x. take (from + n) rows ++ x ∷ []) (sym there))
    ∙ first_rows-append id (take (from + n) rows) (row ∷ []) ∙ ap (λ ys. ys ++ first_rows id (row ∷ [])) (told id)
    ∙ append_assoc (first_rows id (take from rows)) (first_rows_of_step id plan i n) (first_rows id (row ∷ []))
    ∙ ap (λ ys. first_rows id (take from rows) ++ ys)
    (ap (λ ys. first_rows_of_step id plan i n ++ ys) (sym (tells id)) ∙ sym (first_rows_of_step-more id plan i n low))

-- the rows up to the last option are those of the step
pub step_whole : (rows : List StepFound) (from n : ℕ) (plan : Planned) (i : ℕ) → n ≡ option_count plan i → from + n ≤ length rows
    → ((id : ℕ) → first_rows id (take (from + n) rows) ≡ first_rows id (take from rows) ++ first_rows_of_step id plan i n)
    → TellStep rows from plan i (from + n)
step_whole rows from n plan i all within told = search (rules, arith, first_rows_of_step-all)

-- one more step of a plan
pub step_more : (rows : List StepFound) (from to : ℕ) (plan : Planned) (n : ℕ) → n < step_count plan → TellStep rows from plan (n + 1) to
    → ((id : ℕ) → first_rows id (take from rows) ≡ step_rows_of id (first_steps n plan))
    → (id : ℕ) → first_rows id (take to rows) ≡ step_rows_of id (first_steps (n + 1) plan)
step_more rows from to plan n low step told id =
    step.told id ∙ ap (λ ys. ys ++ rows_of_step id plan (n + 1)) (told id) ∙ sym (step_rows_of-more id plan n low)

-- the rows up to the last step are those of the plan, if no row is left
pub plan_whole : (rows : List StepFound) (count n : ℕ) (plan : Planned) → n ≡ step_count plan → count ≡ length rows
    → ((id : ℕ) → first_rows id (take count rows) ≡ step_rows_of id (first_steps n plan)) → TellPlan rows plan
plan_whole rows count n plan all whole told id =
    sym (ap (first_rows id) (sym (take_all count rows (omega (arith, whole)))) ∙ told id ∙ ap (λ k. step_rows_of id (first_steps k plan)) all ∙ step_rows-all none_taken id plan)

-- the want in a row is that of the option whose row it is
pub want_one : (id k o : ℕ) (m t : Bool) (row : StepFound) (w v : Wanted) → TellsWant row w → step_of id row ≡ option_row id k m o t v → w ≡ v
want_one id k o m t row w v tells e = search (rules, arith, option_row-want)
