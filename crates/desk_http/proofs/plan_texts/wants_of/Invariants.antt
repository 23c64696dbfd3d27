use Rattle.std.proofs.Common.{map, take}
use Rattle.plan.specs.PlanData.{want_data}
use Rattle.desk_http.specs.PlanTexts.{AreData}
use Rattle.desk_http.proofs.plan_texts.wants_of.Given as goal

-- the values so far are read
abbrev pub invariant-loop-value : goal.invariant-loop-value
invariant-loop-value l = AreData (take l.value-index l.values) (map (want_data) l.wants.items)
