-- The rows that will be returned are the stock, and nothing changes, whether they start or not.
use Rattle.std.proofs.Common.{map, refl}
use Rattle.sql_model.specs.Reading.{stock_row_of}
use Rattle.sql_reads.proofs.Starting.{not_started}
use Rattle.report_writers.proofs.HandedStock.{stock_in_order}
use Rattle.report_writers.proofs.StartLemmas.{started_good}
use Rattle.report_writers.proofs.StockOrder.{stock_there}
use Rattle.report_writers.proofs.cell_rows.start_stock.Goals as goal

pub returns : goal.returns
returns g c =
    let it = c.hand_stock in (
      (refl, it.follows.holds, not_started g.S.Store c.args.conn.now it.follows.lender-at-none it.result it.follows.holds-at-none),
      record {
        fault = tt;
        starts = started_good c.args.conn _ it.result it.ensures.started
            (λ v s desk t h begun rows is. begun (map stock_row_of rows) (stock_in_order s.ledger t.tables.stock t.stands.stock rows is))
            (λ v s desk spelled t. stock_there s.ledger desk.legal t.tables.stock t.stands.stock);
      },
    )
