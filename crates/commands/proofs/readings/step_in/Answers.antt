-- The text of a step and its option is cut at its first dot. So a text without a dot, or with a part that is no such
-- number, is the text of none.
use Rattle.commands.proofs.readings.step_in.Goals as goal
use Rattle.std.specs.Borrow.{Bor}
use Rattle.std.proofs.Common.{arith, ◌≡◌, ℕ, List, decimal, Option, MatchOption, IsTrue}
use Rattle.std.proofs.lemmas.Bool.{and_parts}
use Rattle.std.proofs.lemmas.Str.Pattern.{IsSplitOnceResult, split_after}
use Rattle.allotment.specs.Limits.{is_between}
use Rattle.plan.specs.Limits.{most_options, most_steps}
use Rattle.commands.specs.Readings.{is_step_pair, step_pair_text}
use Rattle.commands.proofs.NumberLemmas.{between_parts, decimal_lacks}

-- a step and an option keep their limits
step_limits : (pair : ℕ × ℕ) → IsTrue (is_step_pair pair)
    → IsTrue (is_between 1 most_steps pair.0) × IsTrue (is_between 1 most_options pair.1)
step_limits pair good = and_parts (is_between 1 most_steps pair.0) (is_between 1 most_options pair.1) good

-- the text of a step and an option is cut at its first dot into the two
step_cut : (text : List ℕ) (r : Option (Bor (List ℕ) × Bor (List ℕ))) → IsSplitOnceResult 46 text r
    → (pair : ℕ × ℕ) → IsTrue (is_step_pair pair) → text ≡ step_pair_text pair
    → MatchOption r ⊥ (λ x. (x.0.now ≡ decimal pair.0) × (x.1.now ≡ decimal pair.1))
step_cut text r cut pair good spelled =
    let limits = between_parts 1 most_steps pair.0 (step_limits pair good).0 in
    split_after 46 text (decimal pair.0) (decimal pair.1) r cut (omega arith) spelled
    (decimal_lacks 46 pair.0 (omega arith) (λ range. omega arith))

-- there is no dot
pub returns-in_err-step : goal.returns-in_err-step
returns-in_err-step c = rw c.from_residual.ensures (record {
  found = λ pair good spelled.
      rw c.in_err-step.was at (step_cut c.args.text.now _ c.split_once.ensures.cases pair good spelled);
})

-- what stands before the dot is no step
pub returns-in_err-step-2 : goal.returns-in_err-step-2
returns-in_err-step-2 c = rw c.from_residual-in_err-step-2.ensures (record {
  found = λ pair good spelled.
      let parts = rw c.in_ok-step.was at (step_cut c.args.text.now _ c.split_once.ensures.cases pair good spelled) in
      c.in_err-step-2.ensures.found pair.0 (step_limits pair good).0 parts.0;
})

-- what stands after the dot is no option
pub returns-in_err-option : goal.returns-in_err-option
returns-in_err-option c = rw c.from_residual-in_err-option.ensures (record {
  found = λ pair good spelled.
      let parts = rw c.in_ok-step.was at (step_cut c.args.text.now _ c.split_once.ensures.cases pair good spelled) in
      c.in_err-option.ensures.found pair.1 (step_limits pair good).1 parts.1;
})
