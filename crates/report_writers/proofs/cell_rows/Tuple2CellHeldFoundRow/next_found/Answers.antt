-- The row that is returned is that of the first remaining cell.
use Rattle.std.proofs.Common.{◌≡◌, true, false, map, ap, option_map}
use Rattle.sqlite.specs.Held.{state}
use Rattle.desk_sql.specs.Stock.{stock_of}
use Rattle.sql_lists.specs.CellLists.{CellsRest}
use Rattle.sql_model.specs.Reading.{stock_row_of}
use Rattle.sql_model.proofs.Staying.{of_error}
use Rattle.sql_reads.proofs.HandedGood.{cell_good, cells_text}
use Rattle.report_writers.proofs.HandedRows.{first_of_row, found_so, good_after, none_of_row}
use Rattle.report_writers.proofs.HandedStock.{cell_same}
use Rattle.report_writers.proofs.cell_rows.Tuple2CellHeldFoundRow.next_found.Goals as goal

pub returns-in-Some-clause-next : goal.returns-in-Some-clause-next
returns-in-Some-clause-next g c clean =
    first_of_row _ (CellsRest g.S.Store c.next_cell.new.rows.conn.now) (c.in-Ok-Some.ensures.next clean)
    stock_row_of cell_same (ap (option_map stock_of) c.in-Ok-Some.field-0-is) c.in-Some.cell c.in-Some.ensures.told

pub returns-in-Ok-None-clause-next : goal.returns-in-Ok-None-clause-next
returns-in-Ok-None-clause-next g c clean =
    none_of_row _ (CellsRest g.S.Store c.next_cell.new.rows.conn.now) (c.in-Ok-None.ensures.next clean)
    stock_row_of (ap (option_map stock_of) c.in-Ok-None.field-0-is)

-- each row tells a cell with its places
pub returns-in-Ok-Some-clause-store : goal.returns-in-Ok-Some-clause-store
returns-in-Ok-Some-clause-store g c clean good up store =
    let first = found_so _ (CellsRest g.S.Store c.next_cell.new.rows.conn.now) (c.in-Ok-Some.ensures.next clean)
    (ap (option_map stock_of) c.in-Ok-Some.field-0-is) in
    let there : false ≡ true =
    c.in-None.ensures.there (cell_good (CellsRest g.S.Store c.args.rows.now.conn.now) (CellsRest g.S.Store c.next_cell.new.rows.conn.now)
    (stock_of c.in-Ok-Some.found) first good.0 good.1 good.2) in
    absurd (cc)

-- an error of the store has a reason
pub returns-clause-store : goal.returns-clause-store
returns-clause-store g c clean good up store =
    of_error (state g.S.Store c.args.rows.now.conn.now) (state g.S.Store c.next_cell.new.rows.conn.now) c.in-Err.error c.fault_of.result
    c.fault_of.ensures.memory (c.in-Err.ensures.reason clean (map stock_row_of good.0) good.1 (cells_text good.0 good.2) up) (cc)

-- the later rows are good too
pub returns-in-Some-clause-good : goal.returns-in-Some-clause-good
returns-in-Some-clause-good g c clean good = good_after _ (returns-in-Some-clause-next g c clean) good.0 good.1 good.2

pub returns-in-Ok-None-clause-good : goal.returns-in-Ok-None-clause-good
returns-in-Ok-None-clause-good g c clean good = good_after _ (returns-in-Ok-None-clause-next g c clean) good.0 good.1 good.2
