-- The rows of one step of a journey's plan. For Readings, and for the choice of an option.
use Rattle.std.proofs.Common.{◌≡◌, ℕ, zero, suc, ◌+◌, ◌==◌, List, [], ◌∷◌, map, filter, length, Bool, Some, refl, sym, ap, ◌∙◌, arith, slice_get, ◌&&◌, rules}
use Rattle.std.specs.List.Sorted.{IsPermutation}
use Rattle.std.proofs.lemmas.List.Sorted.{IsPermutation-trans}
use Rattle.sqlite_trees.specs.Tree.{IsAscending}
use Rattle.sqlite_trees.proofs.ListLemmas.{IsPermutation-filter, ascending-filter}
use Rattle.allotment.specs.Want.{Wanted}
use Rattle.plan.specs.PlanModel.{Planned, StepPlan, numbered}
use Rattle.ledger.specs.Ledger.{Event, Journey, journey_at, history}
use Rattle.desk_sql.specs.FoundRows.{is_step_of, is_option_of, IsByPlace, step_of}
use Rattle.desk_sql.specs.Rows.{StepRow}
use Rattle.desk_sql.specs.declared.steps.StepFound.{StepFound}
use Rattle.sql_model.specs.ExpectedRows.{counted_from, option_row, option_rows, step_rows, is_standing, steps_called}
use Rattle.sql_model.proofs.Numbering.{rows_if, group_at}
use Rattle.sql_model.proofs.StepRows.{one_by_place, step-rows_at, step_rows-rise, steps_found}

-- the row is one of this step
abbrev pub is_at : ℕ → StepRow → Bool
is_at place r = r.place == place

-- of the rows of a plan those of one step are the rows of its options
pub step_rows_at : (taken : ℕ → ℕ → Bool) (id : ℕ) (plan : Planned) (place : ℕ) (p : StepPlan)
    → numbered plan.steps place ≡ Some p → filter (is_at place) (step_rows taken id plan) ≡ option_rows taken id place p
step_rows_at taken id plan place p e =
    let rows = option_rows taken id in
    let own = step-rows_at taken id in
    group_at (λ (r : StepRow). r.place) rows own place plan.steps ∙ ap (rows_if (λ (r : StepRow). r.place) rows own place) e

-- a filter of a filter tests both
filter_both : {X : Type 0} (p q : X → Bool) (xs : List X) → filter q (filter p xs) ≡ filter (λ x. p x && q x) xs
filter_both p q [] = refl
filter_both p q (x ∷ xs) = search (rules, arith, filter_both p q xs)

-- the rows found of a step, in order, are those of that step of the plan
pub options_found_in_order : (l : List Event) (rows found : List StepRow) (id place : ℕ) (a : Journey)
    → IsPermutation (steps_called l) rows → journey_at l id ≡ Some a
    → IsPermutation (filter (is_option_of id place) rows) found → IsAscending IsByPlace found
    → found ≡ filter (is_at place) (step_rows (is_standing (history l id)) id a.plan)
options_found_in_order l rows found id place a same at sorted up =
    one_by_place own_rows found
    (IsPermutation-trans own_rows (filter (is_at place) (filter (is_step_of id) rows)) found
    (IsPermutation-filter (is_at place) called (filter (is_step_of id) rows) (steps_found l rows id a same at))
    (rw (filter_both (is_step_of id) (is_at place) rows) sorted))
    (ascending-filter _ (is_at place) called (step_rows-rise (is_standing (history l id)) id a.plan)) up
  where
    called : List StepRow
    called = step_rows (is_standing (history l id)) id a.plan

    own_rows : List StepRow
    own_rows = filter (is_at place) called

-- What the rows of a step say.

module _ (id place : ℕ) (taken : ℕ → ℕ → Bool) (m : Bool) where
  abbrev row_at : ℕ × Wanted → StepRow
  row_at w = option_row id place m w.0 (taken place w.0) w.1

  -- this is the row of the want of this option
  abbrev pub IsRowAt : ℕ → List Wanted → StepFound → ℕ → Type 0
  IsRowAt n ws row i = (w : Wanted) × (slice_get ws i ≡ Some w) × (step_of id row ≡ option_row id place m n (taken place n) w)

  many : (n : ℕ) (ws : List Wanted) (found : List StepFound) → map (step_of id) found ≡ map row_at (counted_from n ws)
      → length found ≡ length ws
  many n [] [] e = refl
  many n (w ∷ ws) (f ∷ fs) e = search (rules, arith, many (suc n) ws fs)
  many n _ _ e = cc

  told : (n : ℕ) (ws : List Wanted) (found : List StepFound) → map (step_of id) found ≡ map row_at (counted_from n ws)
      → (i : ℕ) (row : StepFound) → slice_get found i ≡ Some row → IsRowAt (n + i) ws row i
  told n ws [] e i row there = cc
  told n [] (f ∷ fs) e i row there = cc
  told n (w ∷ ws) (f ∷ fs) e zero row there = search (rules, arith, arith)
  told n (w ∷ ws) (f ∷ fs) e (suc i) row there = search (rules, arith, told (suc n) ws fs)

-- there is a row for each option of a step, by its number
pub option_row_at : (id place : ℕ) (taken : ℕ → ℕ → Bool) (p : StepPlan) (found : List StepFound)
    → map (step_of id) found ≡ option_rows taken id place p
    → (length found ≡ length p.options)
    × ((i : ℕ) (row : StepFound) → slice_get found i ≡ Some row
    → (w : Wanted) × (numbered p.options (i + 1) ≡ Some w)
    × (step_of id row ≡ option_row id place p.is_marked (i + 1) (taken place (i + 1)) w))
option_row_at id place taken p found e = (many id place taken p.is_marked 1 p.options found e, λ i row there. at i row there)
  where
    at : (i : ℕ) (row : StepFound) → slice_get found i ≡ Some row
        → (w : Wanted) × (numbered p.options (i + 1) ≡ Some w)
        × (step_of id row ≡ option_row id place p.is_marked (i + 1) (taken place (i + 1)) w)
    at i row there =
        let it = told id place taken p.is_marked 1 p.options found e i row there in
        let number : 1 + i ≡ i + 1 = omega arith in
        let next : suc i ≡ i + 1 = omega arith in (
          it.0,
          ap (numbered p.options) (sym next) ∙ it.1,
          it.2 ∙ ap (λ n. option_row id place p.is_marked n (taken place n) it.0) number,
        )
