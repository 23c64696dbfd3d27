-- The values so far are those of the first options.
use Rattle.std.proofs.Common.{◌≡◌, Some, map, take}
use Rattle.serde_json.specs.View.{view}
use Rattle.plan.specs.PlanData.{want_data}
use Rattle.plan.specs.PlanModel.{StepPlan, numbered, option_count}
use Rattle.http_pages.proofs.plans.wants_value.Given as goal

abbrev pub invariant-loop-option : goal.invariant-loop-option
invariant-loop-option l = record {
  bound : l.option-end ≡ option_count l.plan l.step;
  values : (s : StepPlan) → numbered l.plan.steps l.step ≡ Some s
      → map view l.values.items ≡ map want_data (take l.option s.options);
}
