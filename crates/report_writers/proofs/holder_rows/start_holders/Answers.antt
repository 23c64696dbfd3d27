-- The rows that will be returned are those of the holders, and nothing changes, whether they start or not.
use Rattle.std.proofs.Common.{map, refl}
use Rattle.reports.specs.Holders.{holders_of}
use Rattle.sql_reads.proofs.Starting.{not_started}
use Rattle.report_writers.specs.HoldersLeft.{found_of}
use Rattle.report_writers.proofs.HandedHolders.{lists_holders}
use Rattle.report_writers.proofs.StartLemmas.{started}
use Rattle.report_writers.proofs.holder_rows.start_holders.Goals as goal

pub returns : goal.returns
returns g c =
    let it = c.hand_holders in (
      (refl, it.follows.holds, not_started g.S.Store c.args.conn.now it.follows.lender-at-none it.result it.follows.holds-at-none),
      record {
        fault = tt;
        starts = started c.args.conn _ it.result it.ensures.started
            (λ v s desk t h begun holders is. begun (map found_of holders)
            (lists_holders c.args.cell.now s.ledger t.tables t.stands.step desk.legal holders is))
            (λ v s desk t h begun spelled. (
              holders_of s.ledger c.args.cell.now,
              begun _
                  (lists_holders c.args.cell.now s.ledger t.tables t.stands.step desk.legal _ refl),
            ));
      },
    )
