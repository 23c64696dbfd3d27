-- The cells that are taken are those of the state that is kept.
-- More than 60 lines: two ways out and one lemma of its own.
use Rattle.std.proofs.Common.{◌≡◌, List, map, rules, subst, sym, take, IsTrue}
use Rattle.std.specs.List.{AllByRecursion}
use Rattle.sqlite.specs.Store.{Ghosts}
use Rattle.sqlite.specs.Held.{Held, state}
use Rattle.sqlite.specs.State.{HasCleanDisk}
use Rattle.allotment.specs.Limits.{is_good_cell}
use Rattle.allotment.specs.declared.cells.Cell.{Cell}
use Rattle.allotment.specs.declared.places.Held.{Held as HeldPlaces}
use Rattle.desk_sql.specs.RemainingRows.{IsStockInOrder, Starts}
use Rattle.desk_sql.specs.declared.versions.Version.TheVariants.{Two}
use Rattle.desk_sql.proofs.Quieting.{quiet_start}
use Rattle.ledger.specs.Answer.{State}
use Rattle.saga_core.specs.Views.{IsStock}
use Rattle.sql_lists.specs.CellLists.{CellsRest}
use Rattle.sql_lists.specs.ListedRows.{StockRests}
use Rattle.sql_model.specs.Keeping.{Keeps}
use Rattle.sql_model.specs.Reading.{stock_row_of}
use Rattle.sql_model.specs.Standing.{IsDesk}
use Rattle.sql_reads.proofs.HandedTold.{there_at}
use Rattle.sql_reads.proofs.ReadLemmas.{also_ok}
use Rattle.reports.proofs.TakeLemmas.{whole_list}
use Rattle.report_writers.proofs.HandedStock.{stock_in_order}
use Rattle.report_writers.proofs.ReadyLemmas.{ready_alone, takes_fails}
use Rattle.report_writers.proofs.ShowLemmas.{reported_store}
use Rattle.report_writers.proofs.StockOrder.{stock_there}
use Rattle.tables.proofs.Taken.{list_read, not_begun_read}
use Rattle.tables.proofs.stock_lists.read_stock.Goals as goal

-- rows that could not be started
pub returns-in-Err : goal.returns-in-Err
returns-in-Err g c = not_begun_read c.in-Err.is c.hand_stock.follows.holds-at-none c.fault_of.ensures.memory

-- the stock of a desk that was kept remains, of cells that keep their limits
stock_begins : {S : Type 0} (g : Ghosts S) (old mid : Held S) → Starts g old mid IsStockInOrder (CellsRest g) → HasCleanDisk (state g mid)
    → (s : State) → IsDesk s → Keeps (state g old) s
    → (cells : List (Cell × HeldPlaces)) × StockRests g mid cells × IsStock s.ledger cells
    × AllByRecursion (λ (c : Cell × HeldPlaces). IsTrue (is_good_cell c.0)) cells
stock_begins g old mid started clean s desk keeps =
    let t = there_at g old mid s keeps started.same started.survives clean in
    let cells = stock_there s.ledger desk.legal t.tables.stock t.stands.stock in (
      cells.0,
      started.begun clean Two t.tables t.may (map stock_row_of cells.0) (stock_in_order s.ledger t.tables.stock t.stands.stock cells.0 cells.1),
      cells.1,
      cells.2,
    )

pub returns : goal.returns
returns g c =
    let old = c.args.conn.now in
    let mid = c.in-Ok.rows.conn.now in
    let started = c.in-Ok.ensures.started.starts in
    let taken = c.take_rows.ensures in
    list_read (search rules) (quiet_start g.S.Store old mid _ _ started) taken.takes.kept.under.quiet
    (λ clean began s desk keeps.
    let left = stock_begins g.S.Store old mid started began s desk keeps in
    also_ok c.take_rows.result (λ cells. cells.items ≡ take 18446744073709551615 left.0) (λ cells. IsStock s.ledger cells.items)
    (λ cells is. subst (IsStock s.ledger) (sym (whole_list cells left.0 is)) left.2) (taken.taken clean left.0 (c.new.ensures.going, left.1)))
    (λ clean began s desk spelled keeps up store.
    let left = stock_begins g.S.Store old mid started began s desk keeps in
    takes_fails taken.takes clean (ready_alone g.S.Store _ (c.new.ensures.going, (left.0, left.1, left.3)) up) (reported_store _ store))
