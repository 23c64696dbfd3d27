-- What a plan that keeps the limits keeps, part by part. For all that is built on plans.
use Rattle.std.proofs.Common.{◌≡◌, ℕ, ◌≤◌, ◌<◌, ◌&&◌, true, List, [], ◌∷◌, zero, suc, length, nat_le, leb-true, IsTrue, option_map, unwrap_or, slice_get, arith}
use Rattle.std.specs.List.{list_all}
use Rattle.allotment.specs.Limits.{is_between, is_want}
use Rattle.allotment.proofs.TestLemmas.{and_both}
use Rattle.plan.specs.Limits.{most_options, most_steps, most_tries}
use Rattle.plan.specs.PlanModel.{Planned, StepPlan, is_step, is_plan, is_last_unmarked, step_count, option_count}

-- a step that keeps the limits, part by part
pub record IsLimitedStep (s : StepPlan) : Type 0 where
  pub some_options : 1 ≤ length s.options
  pub few_options : length s.options ≤ most_options
  pub each_want : list_all is_want s.options ≡ true

pub step_limited : (s : StepPlan) → is_step s ≡ true → IsLimitedStep s
step_limited s good =
    let n = length s.options in
    let both = and_both (is_between 1 most_options n) (list_all is_want s.options) good in
    let count = and_both (nat_le 1 n) (nat_le n most_options) both.0 in
    record {
      some_options = leb-true 1 n count.0;
      few_options = leb-true n most_options count.1;
      each_want = both.1;
    }

-- a plan that keeps the limits, part by part
pub record IsLimited (p : Planned) : Type 0 where
  pub some_steps : 1 ≤ step_count p
  pub few_steps : step_count p ≤ most_steps
  pub each_step : list_all is_step p.steps ≡ true
  pub last_unmarked : is_last_unmarked p.steps ≡ true
  pub few_tries : p.tries ≤ most_tries

pub limited : (p : Planned) → IsTrue (is_plan p) → IsLimited p
limited p good =
    let n = step_count p in
    let counted = is_between 1 most_steps n in
    let tries = and_both (counted && list_all is_step p.steps && is_last_unmarked p.steps) (nat_le p.tries most_tries) good in
    let last = and_both (counted && list_all is_step p.steps) (is_last_unmarked p.steps) tries.0 in
    let steps = and_both counted (list_all is_step p.steps) last.0 in
    let count = and_both (nat_le 1 n) (nat_le n most_steps) steps.0 in
    record {
      some_steps = leb-true 1 n count.0;
      few_steps = leb-true n most_steps count.1;
      each_step = steps.1;
      last_unmarked = last.1;
      few_tries = leb-true p.tries most_tries tries.1;
    }

-- it has at most so many steps
pub few_steps : (plan : Planned) → IsTrue (is_plan plan) → step_count plan ≤ most_steps
few_steps plan good = (limited plan good).few_steps

-- a step of such a list has at least 1 option, and at most so many
pub options_within : (steps : List StepPlan) (i : ℕ) → list_all is_step steps ≡ true
    → let n : ℕ = unwrap_or (option_map (λ (s : StepPlan). length s.options) (slice_get steps i)) 0 in
    (n ≤ most_options) × (i < length steps → 1 ≤ n)
options_within [] i all = grind arith
options_within (s ∷ steps) zero all =
    let here = step_limited s (and_both (is_step s) (list_all is_step steps) all).0 in (here.few_options, λ _. here.some_options)
options_within (s ∷ steps) (suc i) all =
    let later = options_within steps i (and_both (is_step s) (list_all is_step steps) all).1 in (later.0, λ below. later.1 (omega arith))

-- a step of such a plan has at most so many options
pub few_options : (plan : Planned) (i : ℕ) → IsTrue (is_plan plan) → option_count plan i ≤ most_options
few_options plan zero good = omega arith
few_options plan (suc i) good = (options_within plan.steps i (limited plan good).each_step).0
