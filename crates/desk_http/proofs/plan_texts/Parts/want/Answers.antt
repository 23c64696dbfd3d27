-- all parts are known, and the want was made of them
use Rattle.std.proofs.Common.{◌≡◌, ◌∙◌, rules, Some}
use Rattle.desk_http.proofs.PlanTextLemmas.{parts_known, want_parts}
use Rattle.desk_http.proofs.plan_texts.Parts.want.Goals as goal

pub returns-in-Ok : goal.returns-in-Ok
returns-in-Ok c =
    let parts = c.args.self.now in
    let kind : parts.kind ≡ Some c.in_ok-self.field-0 = search rules in
    let supplier : parts.supplier ≡ Some c.in_ok-supplier.supplier = search rules in
    let product : parts.product ≡ Some c.in_ok-product.product = search rules in
    let first : parts.first ≡ Some c.in_ok-first.first = search rules in
    let nights : parts.nights ≡ Some c.in_ok-nights.nights = search rules in
    let count : parts.count ≡ Some c.in_ok-count.count = search rules in
    record {
      want = parts_known parts c.in_ok-self.field-0 c.in_ok-supplier.supplier c.in_ok-product.product c.in_ok-first.first
          c.in_ok-nights.nights c.in_ok-count.count kind supplier product first nights count
          ∙ want_parts c.in_ok-kind.kind c.in_ok-self.field-0.now c.in_ok-supplier.supplier.now c.in_ok-product.product.now
          c.in_ok-first.first.now c.in_ok-nights.nights c.in_ok-count.count c.in-Ok.want c.in_ok-kind.ensures c.in-Ok.ensures;
    }
