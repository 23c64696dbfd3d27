-- The values are those of the options so far, and at the end those of all options.
use Rattle.std.proofs.Common.{ap, sym, ◌∙◌, ◌+◌, map, length, add-one, arith, option_and_then, option_map, unwrap_or}
use Rattle.serde_json.specs.View.{view}
use Rattle.serde_json.proofs.Views.{view-Array}
use Rattle.http_pages.specs.Bodies.{list}
use Rattle.plan.specs.PlanData.{want_data}
use Rattle.plan.specs.PlanModel.{StepPlan, numbered}
use Rattle.http_pages.proofs.PlanLemmas.{value_more}
use Rattle.http_pages.proofs.plans.wants_value.Goals as goal
use lib.Seq.{take_all}

-- one more option has its value
pub loop-option-preserved : goal.loop-option-preserved
loop-option-preserved c =
    let n = c.loop-option.option in
    record {
      bound = c.loop-option.invariant.bound;
      values = λ s e.
          let found = sym (ap (λ o. option_and_then (λ (s : StepPlan). numbered s.options (n + 1)) o) e) ∙ c.want.ensures.want in
          value_more view want_data s.options n c.loop-option.values.items c.push.new.self.items c.in_ok-want_value.field-0
          c.want.result (sym (ap (numbered s.options) (add-one n)) ∙ found) c.in_ok-push.ensures.items
          (c.loop-option.invariant.values s e) c.in_ok-want_value.ensures.value;
    }

-- all options have their values
pub returns : goal.returns
returns c = record {
  value = λ s e.
      let all = ap (λ o. unwrap_or (option_map (λ (s : StepPlan). length s.options) o) 0) e in
      view-Array c.loop-option.values ∙ ap (λ ds. list ds) (c.loop-option.invariant.values s e ∙ ap (map want_data) (take_all c.loop-option.option s.options (omega arith)));
}
