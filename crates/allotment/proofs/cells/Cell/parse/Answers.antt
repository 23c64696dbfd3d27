use Rattle.std.proofs.Common.{◌∙◌, sym}
use Rattle.allotment.proofs.CellLemmas.{cell_in-five_parts}
use Rattle.allotment.proofs.cells.Cell.parse.Goals as goal

-- there is a fifth part
pub returns-then-is_some : goal.returns-then-is_some
returns-then-is_some c =
    sym (cell_in-five_parts c.args.text.now c.in_ok-kind.kind.now c.in_ok-supplier.supplier.now c.in_ok-product.product.now
    c.in_ok-kind.behind_kind.now c.in_ok-supplier.behind_supplier.now c.in_ok-product.night.now
    c.in_ok-kind.ensures c.in_ok-supplier.ensures c.in_ok-product.ensures
    c.cut-4.result c.cut-4.ensures (sym c.is_some.ensures ∙ c.if-is_some.true))
