use Rattle.std.proofs.Common.{◌≡◌, ◌∷◌}
use Rattle.allotment.specs.Texts.{parts, slash}
use Rattle.allotment.proofs.CutLemmas.{some_part}
use Rattle.plan.proofs.CutLemmas.{seven_parts}
use Rattle.plan.proofs.parts.option_parts.Goals as goal

-- a sixth `/` begins a seventh part
pub returns-in-Some : goal.returns-in-Some
returns-in-Some c =
    let behind = c.in-Some.field-0.1.now in
    let whole : parts slash c.args.text.now
    ≡ c.in_ok-kind.kind.now ∷ c.in_ok-supplier.supplier.now ∷ c.in_ok-product.product.now
    ∷ c.in_ok-first.first.now ∷ c.in_ok-nights.nights.now ∷ c.in-Some.field-0.0.now ∷ parts slash behind =
    cc (
      c.in_ok-kind.ensures.cut,
      c.in_ok-supplier.ensures.cut,
      c.in_ok-product.ensures.cut,
      c.in_ok-first.ensures.cut,
      c.in_ok-nights.ensures.cut,
      c.in-Some.ensures.cut,
    ) in
    record { six = seven_parts _ (parts slash behind) _ _ _ _ _ _ whole (some_part slash behind) }
