-- The rows of a journey's steps give its plan, in order. For Readings, and for reads of plans.
use Rattle.std.proofs.Common.{◌≡◌, ◌⊎◌, ℕ, suc, ◌<◌, ◌≤◌, List, [], ◌∷◌, filter, Bool, Some, ap, ◌∙◌, arith, flat_map, rules}
use Rattle.std.specs.List.{AllByRecursion}
use Rattle.std.specs.List.Sorted.{IsPermutation}
use Rattle.std.proofs.lemmas.List.Sorted.{IsPermutation-trans}
use Rattle.sqlite_trees.specs.Tree.{IsAscending}
use Rattle.sqlite_trees.proofs.ListLemmas.{IsPermutation-filter, all-flat_map, all-map, all_of, all_weaker, all-append, ascending-map, ascending_weaker, ascending-append}
use Rattle.plan.specs.PlanModel.{Planned, StepPlan}
use Rattle.ledger.specs.Ledger.{Event, Journey, journeys, journey_at, history}
use Rattle.desk_sql.specs.Rows.{StepRow}
use Rattle.desk_sql.specs.FoundRows.{is_step_of, IsByPlace}
use Rattle.sql_model.specs.ExpectedRows.{counted_from, option_rows, step_rows, is_standing, steps_called}
use Rattle.sql_model.proofs.Numbering.{counted_rises, rows_if, group_at}
use Rattle.sql_model.proofs.Orders.{found_in_order}

-- an earlier step, or the same one and an earlier option
abbrev pub IsBefore : StepRow → StepRow → Type 0
IsBefore a b = (a.place < b.place) ⊎ ((a.place ≡ b.place) × (a.opt < b.opt))

-- rows in this order are in no other order by step and option
pub one_by_place : (called found : List StepRow) → IsPermutation called found → IsAscending IsBefore called
    → IsAscending IsByPlace found → found ≡ called
one_by_place called found =
    found_in_order IsBefore IsByPlace (λ a b p q. grind arith) (λ a b p q. grind arith) called found

module _ (taken : ℕ → ℕ → Bool) (id : ℕ) where
  -- each row of a plan has the journey's number
  step_rows-journey : (plan : Planned) → AllByRecursion (λ (r : StepRow). r.journey ≡ id) (step_rows taken id plan)
  step_rows-journey plan = search (rules, arith, all-flat_map, all_of, all-map)

  -- each row of a step has the number of the step
  pub step-rows_at : (n : ℕ) (p : StepPlan) → AllByRecursion (λ (r : StepRow). r.place ≡ n) (option_rows taken id n p)
  step-rows_at n p = search (rules, arith, all-map, all_of)

  option_rows-rise : (k : ℕ) (s : StepPlan) → IsAscending IsBefore (option_rows taken id k s)
  option_rows-rise k s = search (rules, arith, ascending-map, ascending_weaker, counted_rises)

  -- the rows of the steps from this number on
  abbrev rows_from : ℕ → List StepPlan → List StepRow
  rows_from k steps =
      flat_map (λ (s : ℕ × StepPlan). option_rows taken id s.0 s.1) (counted_from k steps)

  rows_from-above : (k : ℕ) (steps : List StepPlan) → AllByRecursion (λ (r : StepRow). k ≤ r.place) (rows_from k steps)
  rows_from-above k [] = tt
  rows_from-above k (s ∷ steps) = search (rules, arith, all-append, all_weaker, step-rows_at, rows_from-above (suc k) steps)

  rows_from-rise : (k : ℕ) (steps : List StepPlan) → IsAscending IsBefore (rows_from k steps)
  rows_from-rise k [] = tt
  rows_from-rise k (s ∷ steps) =
      search (
        rules,
        arith,
        ascending-append,
        option_rows-rise,
        all_weaker,
        rows_from-above,
        step-rows_at,
        rows_from-rise (suc k) steps,
      )

  -- the rows of a plan rise, step by step and option by option
  pub step_rows-rise : (plan : Planned) → IsAscending IsBefore (step_rows taken id plan)
  step_rows-rise plan = rows_from-rise 1 plan.steps

module _ (l : List Event) (rows : List StepRow) (id : ℕ) (a : Journey) (same : IsPermutation (steps_called l) rows)
    (at : journey_at l id ≡ Some a) where
  -- the rows expected of the journey's plan
  abbrev pub rows_called : List StepRow
  rows_called = step_rows (is_standing (history l id)) id a.plan

  steps_of-journey : filter (is_step_of id) (steps_called l) ≡ rows_called
  steps_of-journey =
      let rows = λ (n : ℕ) (b : Journey). step_rows (is_standing (history l n)) n b.plan in
      let own = λ (n : ℕ) (b : Journey). step_rows-journey (is_standing (history l n)) n b.plan in
      group_at (λ (r : StepRow). r.journey) rows own id (journeys l)
      ∙ ap (rows_if (λ (r : StepRow). r.journey) rows own id) at

  -- the rows found with a journey's number are those of its plan, in some order
  pub steps_found : IsPermutation rows_called (filter (is_step_of id) rows)
  steps_found = rw steps_of-journey at (IsPermutation-filter (is_step_of id) (steps_called l) rows same)

  -- the rows found with a journey's number, in order, are those of its plan
  pub steps_found_in_order : (found : List StepRow) → IsPermutation (filter (is_step_of id) rows) found
      → IsAscending IsByPlace found → found ≡ rows_called
  steps_found_in_order found sorted up =
      search (rules, arith, one_by_place, IsPermutation-trans, steps_found, step_rows-rise)
