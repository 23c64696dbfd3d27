use Rattle.std.proofs.Common.{arith}
use Rattle.allotment.specs.Nights.{night_in}
use Rattle.allotment.specs.declared.wants.Bad.TheVariants as bad
use Rattle.allotment.proofs.CellLemmas.{cell_from-no_supplier, cell_from-no_product, cell_from-no_night, night_unread, night_is_read}
use Rattle.allotment.proofs.cells.from_parts.Goals as goal

-- the supplier is no code
pub returns-in_err-supplier : goal.returns-in_err-supplier
returns-in_err-supplier c = grind (arith, cell_from-no_supplier)

-- the product is no code
pub returns-in_err-product : goal.returns-in_err-product
returns-in_err-product c = grind (arith, cell_from-no_product)

-- there is no night
pub returns-in_err-night : goal.returns-in_err-night
returns-in_err-night c = grind (arith, night_unread, cell_from-no_night)

-- each part was read
pub returns : goal.returns
returns c = grind (arith, night_is_read (night_in c.args.night.now) c.in_ok-night.night bad.Night)
