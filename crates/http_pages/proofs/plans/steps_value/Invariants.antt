-- The values so far are those of the first steps.
use Rattle.std.proofs.Common.{◌≡◌, map, take}
use Rattle.serde_json.specs.View.{view}
use Rattle.plan.specs.PlanData.{step_data}
use Rattle.plan.specs.PlanModel.{step_count}
use Rattle.http_pages.proofs.plans.steps_value.Given as goal

abbrev pub invariant-loop-step : goal.invariant-loop-step
invariant-loop-step l = record {
  bound : l.step-end ≡ step_count l.plan;
  values : map view l.values.items ≡ map step_data (take l.step l.plan.steps);
}
