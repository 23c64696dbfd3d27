-- The steps that are built of the rows of a plan are those of the plan. For `plan_rows::steps_told`.
use Rattle.std.proofs.Common.{◌≡◌, ℕ, suc, ◌+◌, ◌<◌, ◌≤◌, ◌⊎◌, inr, List, [], ◌∷◌, ◌++◌, map, drop, length, get_or, Bool, true, false, IsTrue, Ok, Err, refl, sym, ap, subst, ◌∙◌, arith, append-nil, append_assoc, ◌==◌, flat_map, rules, inl}
use Rattle.std.specs.List.{list_all}
use Rattle.std.proofs.Math.ListN.{drop_of_length-le}
use Rattle.std.proofs.lemmas.Bool.{and_parts}
use Rattle.std.proofs.lemmas.List.{map-append, length-append, get_or_default}
use Rattle.allotment.specs.Limits.{is_want}
use Rattle.allotment.specs.Want.{Wanted}
use Rattle.plan.specs.PlanModel.{Planned, StepPlan, is_plan, is_step, plan_said, step_said}
use Rattle.plan.specs.Drafts.{plan_made}
use Rattle.plan.specs.declared.faults.BadPlan.{BadPlan}
use Rattle.plan.proofs.SpellLemmas.{made_again}
use Rattle.plan.specs.declared.steps.PlanStep.{PlanStep}
use Rattle.plan.proofs.LimitLemmas.{limited, step_limited}
use Rattle.desk_sql.specs.Rows.{StepRow}
use Rattle.desk_sql.specs.FoundRows.{step_of}
use Rattle.desk_sql.specs.declared.steps.StepFound.{StepFound}
use Rattle.sql_model.specs.ExpectedRows.{counted_from, flag, none_taken, option_row, option_rows}
use Rattle.sql_model.specs.Reading.{not_taken}
use Rattle.sql_reads.specs.PlanRows.{first_rows, AreRowsOf, Goes, IsLeft, IsOfPlace, TellsWant}
use Rattle.sql_reads.proofs.GoodPlans.{heads, tails, next_left, more_left}

-- the rows of these steps, the first of which has the number `k`
abbrev rows_from : ℕ → ℕ → List StepPlan → List StepRow
rows_from id k steps = flat_map (λ (t : ℕ × StepPlan). option_rows none_taken id t.0 t.1) (counted_from k steps)

-- the rows of these options of a step, the first of which has the number `n`
abbrev options_from : ℕ → ℕ → Bool → ℕ → List Wanted → List StepRow
options_from id k m n ws = map (λ (v : ℕ × Wanted). option_row id k m v.0 false v.1) (counted_from n ws)

made_of : List StepPlan → ℕ → Planned
made_of steps tries = record { steps = steps; tries = tries }

made_step : List Wanted → Bool → StepPlan
made_step options is_marked = record { options = options; is_marked = is_marked }

-- before the first option of a step, all its rows are left
starts : (id k : ℕ) (later : List StepPlan) (left : List StepRow) → list_all is_step later ≡ true → left ≡ rows_from id k later
    → IsLeft id k [] later left
starts id k [] left good e = (refl, e)
starts id k (s ∷ later) left good e = go s.options refl
  where
    go : (ws : List Wanted) → s.options ≡ ws → IsLeft id k [] (s ∷ later) left
    go [] none = search (rules, arith, step_limited, and_parts)
    go (w ∷ ws) some = (w, ws, some, e ∙ ap (λ os. options_from id k s.is_marked 1 os ++ rows_from id (suc k) later) some)

pub at_start : (id : ℕ) (plan : Planned) (rows : List StepFound) → AreRowsOf id plan rows → Goes id plan rows 0 [] []
at_start id plan rows are =
    let good = (limited plan are.good).each_step in
    record {
      later = plan.steps;
      steps_are = refl;
      good = good;
      left = starts id 1 plan.steps (first_rows id rows) good (sym are.rows_are);
    }

-- after the last row, all steps were built
pub at_end : (id : ℕ) (plan : Planned) (rows : List StepFound) (at : ℕ) (steps : List PlanStep) (options : List Wanted)
    → Goes id plan rows at steps options → length rows ≤ at → map step_said steps ≡ plan.steps
at_end id plan rows at steps options goes past = search (rules, arith, append-nil, drop_of_length-le)

-- What the next row gives: a want that keeps its limits. Then either the next one is of the same step, or the step ends.
pub record NextOption (id : ℕ) (plan : Planned) (rows : List StepFound) (at : ℕ) (steps : List PlanStep) (options : List Wanted) (row : StepFound) : Type 0 where
  pub want : Wanted
  pub good : is_want want ≡ true
  pub tells : TellsWant row want
  pub after : (IsOfPlace rows (at + 1) row.place × Goes id plan rows (at + 1) steps (options ++ (want ∷ [])))
      ⊎ ((IsOfPlace rows (at + 1) row.place → ⊥)
      × ((step : PlanStep) → step.options.items ≡ options ++ (want ∷ []) → step.save ≡ (row.save == 1) → Goes id plan rows (at + 1) (steps ++ (step ∷ [])) []))

good_in : (ws vs : List Wanted) (w : Wanted) → list_all is_want (ws ++ (w ∷ vs)) ≡ true → is_want w ≡ true
good_in [] vs w e = (and_parts (is_want w) (list_all is_want vs) e).0
good_in (x ∷ ws) vs w e = good_in ws vs w (and_parts (is_want x) (list_all is_want (ws ++ (w ∷ vs))) e).1

flag_is : (m : Bool) → (flag m == 1) ≡ m
flag_is m = search (rules, arith)

pub next_option : (id : ℕ) (plan : Planned) (rows : List StepFound) (at : ℕ) (steps : List PlanStep) (options : List Wanted) (row : StepFound)
    → Goes id plan rows at steps options → at < length rows → row ≡ get_or rows at row → NextOption id plan rows at steps options row
unfolding made_step
next_option id plan rows at steps options row goes inside is_row = go goes.later goes.steps_are goes.good goes.left
  where
    whole : first_rows id (drop at rows) ≡ not_taken (step_of id row) ∷ first_rows id (drop (at + 1) rows)
    whole =
        next_left id rows at row inside
        ∙ ap (λ (r : StepFound). not_taken (step_of id r) ∷ first_rows id (drop (at + 1) rows)) (sym is_row)

    go : (later : List StepPlan) → plan.steps ≡ map step_said steps ++ later → list_all is_step later ≡ true
        → IsLeft id (length steps + 1) options later (first_rows id (drop at rows)) → NextOption id plan rows at steps options row
    go [] are good left = absurd (let none = sym whole ∙ left.1 in cc)
    go (s ∷ later) are good left = record {
      want = left.0;
      good = good_in options left.1 left.0 (subst (λ os. list_all is_want os ≡ true) left.2 (step_limited s (and_parts (is_step s) (list_all is_step later) good).0).each_want);
      tells = record {
        kind = ap (λ (r : StepRow). r.kind) first;
        supplier = ap (λ (r : StepRow). r.supplier) first;
        product = ap (λ (r : StepRow). r.product) first;
        first = ap (λ (r : StepRow). r.night) first;
        nights = ap (λ (r : StepRow). r.nights) first;
        places = ap (λ (r : StepRow). r.places) first;
      };
      after = next left.1 left.2 (tails _ _ _ _ (sym whole ∙ left.3));
    }
      where
        first : not_taken (step_of id row) ≡ option_row id (length steps + 1) s.is_marked (length options + 1) false left.0
        first = heads _ _ _ _ (sym whole ∙ left.3)

        place : row.place ≡ length steps + 1
        place = ap (λ (r : StepRow). r.place) first

        next : (ws : List Wanted) → s.options ≡ options ++ (left.0 ∷ ws)
            → first_rows id (drop (at + 1) rows) ≡ options_from id (length steps + 1) s.is_marked (suc (length options + 1)) ws ++ rows_from id (suc (length steps + 1)) later
            → (IsOfPlace rows (at + 1) row.place × Goes id plan rows (at + 1) steps (options ++ (left.0 ∷ [])))
            ⊎ ((IsOfPlace rows (at + 1) row.place → ⊥)
            × ((step : PlanStep) → step.options.items ≡ options ++ (left.0 ∷ []) → step.save ≡ (row.save == 1) → Goes id plan rows (at + 1) (steps ++ (step ∷ [])) []))
        next (v ∷ ws) are_options rest =
            let more = more_left id rows (at + 1) _ _ rest in
            let count : suc (length options + 1) ≡ length (options ++ (left.0 ∷ [])) + 1 =
            let both = length-append options (left.0 ∷ []) in omega (arith, both) in
            let head = heads _ _ _ _ (sym (next_left id rows (at + 1) row more) ∙ rest) in
            let there : (get_or rows (at + 1) row).place ≡ length steps + 1 = ap (λ (r : StepRow). r.place) head in
            inl (
              record {
                row = get_or rows (at + 1) row;
                inside = more;
                there = get_or_default rows (at + 1) row (get_or rows (at + 1) row) more;
                same = there ∙ sym place;
              },
              record {
                later = s ∷ later;
                steps_are = are;
                good = good;
                left = (
                  v,
                  ws,
                  are_options ∙ sym (append_assoc options (left.0 ∷ []) (v ∷ ws)),
                  rest ∙ ap (λ m. options_from id (length steps + 1) s.is_marked m (v ∷ ws) ++ rows_from id (suc (length steps + 1)) later) count,
                );
              },
            )
        next [] are_options rest =
            inr ((λ (is : IsOfPlace rows (at + 1) row.place). other later (and_parts (is_step s) (list_all is_step later) good).1 rest is.row is.inside is.there (is.same ∙ place)), ends)
          where
            other : (later : List StepPlan) → list_all is_step later ≡ true
                → first_rows id (drop (at + 1) rows) ≡ rows_from id (suc (length steps + 1)) later
                → (n : StepFound) → at + 1 < length rows → n ≡ get_or rows (at + 1) n → n.place ≡ length steps + 1 → ⊥
            other [] fine left n more is_next same =
                let none = sym (next_left id rows (at + 1) n more) ∙ left in cc
            other (t ∷ later) fine left n more is_next same =
                let begins = starts id (suc (length steps + 1)) (t ∷ later) (first_rows id (drop (at + 1) rows)) fine left in
                let head = heads _ _ _ _ (sym (next_left id rows (at + 1) n more) ∙ begins.3) in
                let there : (get_or rows (at + 1) n).place ≡ suc (length steps + 1) = ap (λ (r : StepRow). r.place) head in
                let here : n.place ≡ (get_or rows (at + 1) n).place = ap (λ (r : StepFound). r.place) is_next in
                omega (arith, there, here, same)

            ends : (step : PlanStep) → step.options.items ≡ options ++ (left.0 ∷ []) → step.save ≡ (row.save == 1)
                → Goes id plan rows (at + 1) (steps ++ (step ∷ [])) []
            ends step step_options save =
                let saved : row.save ≡ flag s.is_marked = ap (λ (r : StepRow). r.save) first in
                let mark : step.save ≡ s.is_marked = save ∙ ap (λ n. n == 1) saved ∙ flag_is s.is_marked in
                let is : step_said step ≡ s =
                ap (λ os. made_step os step.save) (step_options ∙ sym are_options) ∙ ap (made_step s.options) mark in
                let number : suc (length steps + 1) ≡ length (steps ++ (step ∷ [])) + 1 =
                let both = length-append steps (step ∷ []) in omega (arith, both) in
                let fine = (and_parts (is_step s) (list_all is_step later) good).1 in
                record {
                  later = later;
                  steps_are =
                      are ∙ ap (λ x. map step_said steps ++ (x ∷ later)) (sym is)
                      ∙ sym (append_assoc (map step_said steps) (step_said step ∷ []) later)
                      ∙ ap (λ xs. xs ++ later) (sym (map-append step_said steps (step ∷ [])));
                  good = fine;
                  left = starts id (length (steps ++ (step ∷ [])) + 1) later (first_rows id (drop (at + 1) rows)) fine (rest ∙ ap (λ k. rows_from id k later) number);
                }

-- steps of a plan that keeps the limits make that plan
pub made_plan : (steps : List PlanStep) (tries : ℕ) (plan : Planned) → map step_said steps ≡ plan.steps → tries ≡ plan.tries
    → plan_said steps tries ≡ plan
unfolding made_of
made_plan steps tries plan same few = ap (λ ss. made_of ss tries) same ∙ ap (made_of plan.steps) few

pub made_good : (steps : List PlanStep) (tries : ℕ) (plan : Planned) (bad : BadPlan) → IsTrue (is_plan plan) → map step_said steps ≡ plan.steps
    → tries ≡ plan.tries → plan_made (plan_said steps tries) ≡ Err bad → ⊥
made_good steps tries plan bad good same few refused =
    let made : Ok plan ≡ Err bad = sym (ap plan_made (made_plan steps tries plan same few) ∙ made_again plan good) ∙ refused in cc
