use Rattle.std.proofs.Common.{sym, arith}
use Rattle.std.proofs.lemmas.Result.{err_from_is_err_and}
use Rattle.serde_json.specs.View.{view}
use Rattle.plan.specs.PlanJson.{json_option}
use Rattle.plan.proofs.EachLemmas.{options_none, options_more_at, options_fail_at}
use Rattle.plan.proofs.json.options_of.Goals as goal

-- nothing was read yet
pub loop-value-init : goal.loop-value-init
loop-value-init c = grind (arith, options_none)

-- the option has a fault, and none before it has
pub returns-in_err-want : goal.returns-in_err-want
returns-in_err-want c =
    let p = err_from_is_err_and c.from_residual-in_err-want.result c.from_residual-in_err-want.ensures.1 in
    rw (p.1, p.2) (record {
      read = options_fail_at (λ v. json_option (view v)) c.args.step c.loop-value.value-index c.args.values.now c.value-item.result _ _
          (omega (arith, c.loop-value-test.true)) c.value-item.is c.loop-value.invariant (sym c.in_err-want.ensures.want);
    })

-- one more option was read
pub loop-value-preserved : goal.loop-value-preserved
loop-value-preserved c = grind (arith, options_more_at (λ v. json_option (view v)))
