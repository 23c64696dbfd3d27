-- The options of a new plan: each row is one more, of a step or an option that has none yet. For the functions of `begins`.
use Rattle.std.proofs.Common.{◌≡◌, List, ◌++◌, zero, ap, append_assoc, option_and_then, ◌≤◌, ◌<◌, ◌+◌, ◌-◌, ◌&&◌, ℕ, suc, length, take, Bool, false, refl, ◌∙◌, arith, length-append, Some, length-take, rules}
use Rattle.desk_sql.specs.Rows.{Tables, StepRow}
use Rattle.sql_model.specs.Beginning.{adds_steps, first_steps, first_rows_of_step, rows_of_step, rows_of_option}
use Rattle.sqlite_rules.specs.Lists.{Has}
use Rattle.sqlite_rules.proofs.ListLemmas.{all_has, all_from, has_either}
use Rattle.sqlite_rules.proofs.ProbeLemmas.{has_mapped}
use Rattle.allotment.specs.Want.{Wanted}
use Rattle.plan.specs.PlanModel.{Planned, StepPlan, numbered, option_count, step_count, want_at}
use Rattle.sql_model.specs.ExpectedRows.{counted_from, step_rows_of, none_taken}
use Rattle.sql_model.proofs.Numbering.{counted_stands}
use Rattle.sql_model.proofs.Taken.{row_told}
use Rattle.sql_model.proofs.PlanParts.{first_rows_of_step-more, first_rows_of_step-all, step_rows_of-more}
use Rattle.sql_model.proofs.PlanWriting.{step_rows-all}
use Rattle.sql_writes.specs.Permits.{MayAddOption, MayAddOptions, MayAddSteps}
use Rattle.std.proofs.lemmas.Bool.{and_left, and_right}
use Rattle.std.proofs.lemmas.Option.{slice_get_within}

-- The rows of a plan are written in order.

-- appending two lists of rows is appending their concatenation
pub adds_steps-append : (rows more : List StepRow) (t : Tables) → adds_steps more (adds_steps rows t) ≡ adds_steps (rows ++ more) t
adds_steps-append rows more t = ap (λ all. record t { step = all }) (append_assoc t.step rows more)

-- The options of a new plan: each row is one more, of a step or an option that has none yet.

-- Their number.

-- where each part is appended to those before it, the first parts and the next one are no more than all
part_fits : {X : Type 0} (f g : ℕ → List X) (all n more : ℕ) → n + suc more ≡ all → ((i : ℕ) → i < all → f (i + 1) ≡ f i ++ g i)
    → length (f n) + length (g n) ≤ length (f all)
part_fits f g all n zero is each =
    let last : length (f (n + 1)) ≡ length (f all) = ap (λ k. length (f k)) (omega (arith, is)) in
    omega (arith, last, ap length (each n (omega (arith, is))) ∙ length-append (f n) (g n))
part_fits f g all n (suc more) is each =
    let rest = part_fits f g all (n + 1) more (omega (arith, is)) each in
    omega (arith, rest, ap length (each n (omega (arith, is))) ∙ length-append (f n) (g n))

-- with one option more they still are
pub next_option_fits : (id : ℕ) (plan : Planned) (i n : ℕ) → n < option_count plan i
    → length (first_rows_of_step id plan i n) + length (rows_of_option id plan i (n + 1)) ≤ length (rows_of_step id plan i)
next_option_fits id plan i n within =
    let all = option_count plan i in
    let fits = part_fits (first_rows_of_step id plan i) (λ k. rows_of_option id plan i (k + 1)) all n (all - suc n)
    (omega (arith, within)) (first_rows_of_step-more id plan i) in
    omega (arith, fits, ap length (first_rows_of_step-all id plan i all refl))

pub next_step_fits : (id : ℕ) (plan : Planned) (n : ℕ) → n < step_count plan
    → length (step_rows_of id (first_steps n plan)) + length (rows_of_step id plan (n + 1)) ≤ length (step_rows_of id plan)
next_step_fits id plan n within =
    let all = step_count plan in
    let fits = part_fits (λ k. step_rows_of id (first_steps k plan)) (λ k. rows_of_step id plan (k + 1)) all n (all - suc n)
    (omega (arith, within)) (step_rows_of-more id plan) in
    omega (arith, fits, ap length (step_rows-all none_taken id plan))

-- an option of a plan has one row
pub one_row : (id : ℕ) (plan : Planned) (i c : ℕ) (w : Wanted) → want_at plan i c ≡ Some w → length (rows_of_option id plan i c) ≡ 1
one_row id plan i c w is = rw is refl

-- Their places.

counted_low : {X : Type 0} (first : ℕ) (xs : List X) (p : ℕ × X) → Has (counted_from first xs) p → p.0 < first + length xs
counted_low first xs p has = let at = counted_stands first xs p has in omega (arith, at.number, slice_get_within xs at.place p.1 at.there)

-- a step that has an option is one of the plan
step_within : (steps : List StepPlan) (i c : ℕ) (w : Wanted) → option_and_then (λ (s : StepPlan). numbered s.options c) (numbered steps i) ≡ Some w
    → i ≤ length steps
step_within steps zero c w e = omega arith
step_within steps (suc i) c w e = search (rules, arith, slice_get_within)

-- each of the first options has a number up to theirs
opt_low : (id : ℕ) (plan : Planned) (i n : ℕ) (x : StepRow) → Has (first_rows_of_step id plan i n) x → x.opt ≤ n
opt_low id plan i n x has = search (rules, arith, has_mapped, counted_low, length-take)

-- each row of the first steps has a place up to theirs
place_low : (id : ℕ) (plan : Planned) (n : ℕ) (x : StepRow) → Has (step_rows_of id (first_steps n plan)) x → x.place ≤ n
place_low id plan n x has =
    let told = row_told none_taken id (first_steps n plan) x has in
    omega (arith, step_within (take n plan.steps) x.place x.opt told.want told.wanted, length-take n plan.steps)

first_two : (a b c : Bool) → (a && b) ≡ false → (a && (b && c)) ≡ false
first_two a b c e = search (rules, arith)

-- the next option has no row yet
pub next_option : (id : ℕ) (plan : Planned) (i n : ℕ) (t : Tables) → MayAddOptions id i t
    → MayAddOption id i (n + 1) (adds_steps (first_rows_of_step id plan i n) t)
next_option id plan i n t may = search (rules, arith, all_from, has_either, first_two, all_has, opt_low, and_right)

-- nor has the next step
pub next_step : (id : ℕ) (plan : Planned) (n : ℕ) (t : Tables) → MayAddSteps id t
    → MayAddOptions id (n + 1) (adds_steps (step_rows_of id (first_steps n plan)) t)
next_step id plan n t may = search (rules, arith, all_from, has_either, and_left, all_has, place_low, and_right)
