-- A body that is refused makes no demand.
use Rattle.std.proofs.Common.{subst, sym, Err}
use Rattle.std.proofs.lemmas.Result.{err_from_is_err_and}
use Rattle.desk_http.specs.Demands.{denied_by, demanded}
use Rattle.desk_http.specs.DemandValues.{Demands, sender_said}
use Rattle.desk_http.proofs.DemandLemmas.{refused_body}
use Rattle.desk_http.proofs.demands.demand_by.Goals as goal

pub returns-in_err-load-in-LoadBatch : goal.returns-in_err-load-in-LoadBatch
returns-in_err-load-in-LoadBatch c =
    let sender = sender_said c.args.sender.now in
    let unmet = c.in_err-load-in-LoadBatch.field-0.0 in
    let failed = err_from_is_err_and c.from_residual.result c.from_residual.ensures.1 in
    rw (failed.1, failed.2)
    (record {
      demand = subst (λ route. Demands (denied_by (demanded route sender)) (Err unmet)) (sym c.in-LoadBatch.is)
          (refused_body _ sender unmet c.in_err-load-in-LoadBatch.ensures.load);
    })

pub returns-in_err-begin-in-Begin : goal.returns-in_err-begin-in-Begin
returns-in_err-begin-in-Begin c =
    let sender = sender_said c.args.sender.now in
    let unmet = c.in_err-begin-in-Begin.field-0.0 in
    let failed = err_from_is_err_and c.from_residual-in_err-begin-in-Begin.result c.from_residual-in_err-begin-in-Begin.ensures.1 in
    rw (failed.1, failed.2)
    (record {
      demand = subst (λ route. Demands (denied_by (demanded route sender)) (Err unmet)) (sym c.in-Begin.is)
          (refused_body _ sender unmet c.in_err-begin-in-Begin.ensures.begin);
    })
