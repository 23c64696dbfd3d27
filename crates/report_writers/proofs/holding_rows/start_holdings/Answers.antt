-- The rows that will be returned are those of the holders, and nothing changes, whether they start or not.
use Rattle.std.proofs.Common.{refl}
use Rattle.sql_reads.proofs.ReadReasons.{row_agent}
use Rattle.sql_reads.proofs.Starting.{not_started}
use Rattle.report_writers.proofs.HandedHoldings.{expected_good, holdings_told, lists_holdings}
use Rattle.report_writers.proofs.StartLemmas.{started}
use Rattle.report_writers.proofs.StockOrder.{stock_there}
use Rattle.report_writers.proofs.holding_rows.start_holdings.Goals as goal

pub returns : goal.returns
returns g c =
    let it = c.hand_holdings in (
      (refl, it.follows.holds, not_started g.S.Store c.args.conn.now it.follows.lender-at-none it.result it.follows.holds-at-none),
      record {
        fault = tt;
        starts = started c.args.conn _ it.result it.ensures.started
            (λ v s desk t h begun holdings is. (
              _,
              begun _ (lists_holdings s desk t is.0 is.1 c.args.filter.now),
              holdings_told s desk t is.0 is.1 c.args.filter.now holdings is.2,
            ))
            (λ v s desk t h begun spelled. (
            let cells = stock_there s.ledger desk.legal t.tables.stock t.stands.stock in (
              _,
              begun _ (lists_holdings s desk t cells.0 cells.1 c.args.filter.now),
              expected_good s desk t cells.0 cells.1 c.args.filter.now
                  (row_agent t.tables s t.stands spelled),
            )));
      },
    )
