-- The rows that will be returned are the cells that are asked for, and nothing changes, whether they start or not.
use Rattle.std.proofs.Common.{filter, map, refl, subst, sym}
use Rattle.allotment.specs.declared.cells.Cell.{Cell}
use Rattle.allotment.specs.declared.places.Held.{Held}
use Rattle.saga_core.specs.CellFilters.{is_cell_of}
use Rattle.desk_sql.specs.RemainingRows.{IsOnlyOrder}
use Rattle.desk_sql.specs.Stock.{IsByCell}
use Rattle.sql_lists.specs.CellLists.{is_row_asked}
use Rattle.sql_model.specs.Reading.{stock_row_of}
use Rattle.sql_reads.proofs.Starting.{not_started}
use Rattle.report_writers.proofs.HandedCells.{asked_in_order}
use Rattle.report_writers.proofs.StartLemmas.{started_good}
use Rattle.report_writers.proofs.StockOrder.{good_kept, stock_there}
use Rattle.report_writers.proofs.cell_rows.start_cells.Goals as goal

pub returns : goal.returns
returns g c =
    let it = c.hand_cells in (
      (refl, it.follows.holds, not_started g.S.Store c.args.conn.now it.follows.lender-at-none it.result it.follows.holds-at-none),
      record {
        fault = tt;
        starts = started_good c.args.conn _ it.result it.ensures.started
            (λ v s desk t h begun rows is. begun (map stock_row_of rows)
            (subst (λ cells. IsOnlyOrder IsByCell (filter (is_row_asked c.args.kind c.args.filter.now) t.tables.stock) (map stock_row_of cells)) (sym is.2)
            (asked_in_order s.ledger t.tables.stock t.stands.stock is.0 is.1 desk.legal c.args.kind c.args.filter.now)))
            (λ v s desk spelled t. (
            let cells = stock_there s.ledger desk.legal t.tables.stock t.stands.stock in
            let asked = λ (x : Cell × Held). is_cell_of c.args.kind c.args.filter.now x.0 in
            (filter asked cells.0, (cells.0, cells.1, refl), good_kept asked cells.0 cells.2)));
      },
    )
