use Rattle.std.proofs.Common.{◌≡◌, ◌++◌, ◌∷◌, [], arith, rules}
use Rattle.plan.specs.PlanData.{want_data}
use Rattle.desk_http.proofs.PlanTextLemmas.{one_more}
use Rattle.desk_http.proofs.plan_texts.wants_of.Goals as goal

-- one more value is read
pub loop-value-preserved : goal.loop-value-preserved
loop-value-preserved c =
    let pushed : c.push.new.self.items ≡ c.loop-value.wants.items ++ c.in_ok-want.want ∷ [] = search rules in
    one_more want_data c.args.values.now c.loop-value.value-index c.value-item.result c.loop-value.wants.items
    c.push.new.self.items c.in_ok-want.want (omega (arith, c.loop-value-test.true)) c.value-item.is c.in_ok-want.ensures.want pushed
    c.loop-value.invariant
