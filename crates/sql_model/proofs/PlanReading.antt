-- A plan is read back from its rows, and written row by row. For RecordRows, and for reads of plans.
use Rattle.std.proofs.Common.{◌≡◌, ℕ, zero, suc, ◌≤◌, ◌==◌, List, [], ◌∷◌, map, filter, length, Bool, false, Option, Some, None, IsTrue, refl, sym, ap, ap₂, ◌∙◌, arith, rules}
use Rattle.sqlite_trees.proofs.ListLemmas.{map-map, map-flat_map, flat_map_same_on}
use Rattle.allotment.specs.Want.{Wanted}
use Rattle.allotment.specs.declared.codes.Kind.{Kind}
use Rattle.allotment.specs.declared.codes.Kind.TheVariants.{Flight, Room, Transfer, Cover}
use Rattle.plan.specs.PlanModel.{Planned, StepPlan, numbered, is_plan, is_step}
use Rattle.plan.proofs.LimitLemmas.{limited, step_limited}
use Rattle.desk_sql.specs.Rows.{StepRow}
use Rattle.sql_model.specs.ExpectedRows.{counted_from, flag, option_row, option_rows, none_taken, step_rows, step_rows_of}
use Rattle.sql_model.specs.Reading.{not_taken}
use Rattle.sql_model.proofs.Numbering.{rows_if, group_at, same_places, numbered-passes}
use Rattle.sql_model.proofs.OptionRows.{is_at}
use Rattle.sql_model.proofs.StepRows.{step-rows_at}

-- the rows of a plan without the marks of what is taken are the rows with which it began
pub step_rows-not_taken : (taken : ℕ → ℕ → Bool) (id : ℕ) (plan : Planned)
    → map not_taken (step_rows taken id plan) ≡ step_rows_of id plan
step_rows-not_taken taken id plan = search (rules, arith, map-flat_map, flat_map_same_on, map-map)

-- One plan.

-- the kind of a number
abbrev kind_of : ℕ → Kind
kind_of zero = Flight
kind_of (suc zero) = Room
kind_of (suc (suc zero)) = Transfer
kind_of (suc (suc (suc n))) = Cover

-- the want of an option's row
abbrev want_of : StepRow → Wanted
want_of r = record {
  kind = kind_of r.kind;
  supplier = r.supplier;
  product = r.product;
  first = r.night;
  nights = r.nights;
  count = r.places;
}

want_back : (id k o : ℕ) (m t : Bool) (w : Wanted) → want_of (option_row id k m o t w) ≡ w
want_back id k o m t w = search (rules, arith)

-- the row of an option determines its want
pub option_row-want : (id k o : ℕ) (m n t u : Bool) (w v : Wanted)
    → option_row id k m o t w ≡ option_row id k n o u v → w ≡ v
option_row-want id k o m n t u w v e = sym (want_back id k o m t w) ∙ ap want_of e ∙ want_back id k o n u v

flag_back : (m : Bool) → (flag m == 1) ≡ m
flag_back m = search (rules, arith)

-- the step of its rows, if it has some
abbrev step_in : List StepRow → Option StepPlan
step_in [] = None
step_in (r ∷ rows) = Some (record { options = map want_of (r ∷ rows); is_marked = r.save == 1 })

module _ (id : ℕ) where
  wants_back : (k o : ℕ) (m : Bool) (ws : List Wanted)
      → map want_of (map (λ (w : ℕ × Wanted). option_row id k m w.0 false w.1) (counted_from o ws)) ≡ ws
  wants_back k o m [] = refl
  wants_back k o m (w ∷ ws) = ap₂ ◌∷◌ (want_back id k o m false w) (wants_back k (suc o) m ws)

  step_back : (k : ℕ) (m : Bool) (ws : List Wanted) → 1 ≤ length ws
      → step_in (map (λ (w : ℕ × Wanted). option_row id k m w.0 false w.1) (counted_from 1 ws))
      ≡ Some (record { options = ws; is_marked = m })
  step_back k m [] some = absurd (omega arith)
  step_back k m (w ∷ ws) some = λ i. Some (record { options = wants_back k 1 m (w ∷ ws) i; is_marked = flag_back m i })

  -- the rows of a plan determine each of its steps
  steps_back : (plan : Planned) → IsTrue (is_plan plan) → (i : ℕ)
      → step_in (filter (is_at i) (step_rows_of id plan)) ≡ numbered plan.steps i
  steps_back plan good i =
      ap step_in (group_at (λ (r : StepRow). r.place) (option_rows none_taken id) (step-rows_at none_taken id) i plan.steps)
      ∙ go (numbered plan.steps i) refl
    where
      go : (o : Option StepPlan) → numbered plan.steps i ≡ o
          → step_in (rows_if (λ (r : StepRow). r.place) (option_rows none_taken id) (step-rows_at none_taken id) i o) ≡ o
      go None e = refl
      go (Some s) e =
          step_back i s.is_marked s.options
          (step_limited s (numbered-passes is_step plan.steps i s e (limited plan good).each_step)).some_options

  -- no two plans have the same rows
  pub steps_from_rows : (p q : Planned) → IsTrue (is_plan p) → IsTrue (is_plan q)
      → step_rows_of id p ≡ step_rows_of id q → p.steps ≡ q.steps
  steps_from_rows p q good fine e =
      same_places p.steps q.steps
      (λ i. sym (steps_back p good (suc i)) ∙ ap (λ rows. step_in (filter (is_at (suc i)) rows)) e ∙ steps_back q fine (suc i))
