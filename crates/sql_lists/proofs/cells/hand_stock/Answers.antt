-- The rows that remain of the query are its only answer, and it changes nothing, whether it starts or not.
use Rattle.std.proofs.Common.{None, refl}
use Rattle.sql_lists.proofs.HandedCells.{stock_only}
use Rattle.sql_lists.proofs.HandedRows.{handed}
use Rattle.sql_lists.proofs.ListMeanings.{cells_meant, stock_takes}
use Rattle.sql_lists.proofs.cells.hand_stock.Goals as goal

pub returns : goal.returns
returns g c =
    let it = c.query in
    let made = it.ensures in
    let both = handed cells_meant g.S.Store None c.args.conn it.follows.lender-at-none it.result stock_takes
    (stock_only _) it.follows.holds-at-none made.same_reference made.begun made.mode made.survives
    refl in
    ((refl, it.follows.holds, both.0), record { fault = tt; started = both.1 })
