-- The cells that are read are those that the filter lets through.
use Rattle.std.proofs.Common.{◌≡◌, ap, filter, rules, sym, subst, IfOk}
use Rattle.allotment.specs.declared.cells.Cell.{Cell}
use Rattle.allotment.specs.declared.places.Held.{Held as Places}
use Rattle.saga_core.specs.CellFilters.{is_cell_of}
use Rattle.report_writers.proofs.ReadyLemmas.{ready_alone, takes_fails}
use Rattle.report_writers.proofs.ShowLemmas.{shows_none, shows_rows}
use Rattle.report_writers.proofs.WhyLemmas.{nights-asked}
use Rattle.report_writers.proofs.whys.nights_of.Goals as goal

pub returns : goal.returns
returns g c =
    let w = c.args.want.now in
    let f = c.filter_of-filter.result in
    record {
      shows = shows_rows g.S.Store c.in-Ok.ensures.starts c.read_nights.ensures.takes.kept.under.quiet (search rules)
          (λ sound s begun rows stock. (
          let asked = filter (λ (r : Cell × Places). is_cell_of w.kind f r.0) rows in
          let rests = begun asked (rows, stock, ap (λ k. filter (λ (r : Cell × Places). is_cell_of k f r.0) rows) (sym c.kind.ensures.kind)) in
          subst (λ ns. IfOk c.read_nights.result (λ nights. nights.items ≡ ns))
          (nights-asked s.ledger w f rows stock c.filter_of-filter.ensures.lets)
          (c.read_nights.ensures.nights sound asked (c.new.ensures.going, rests))))
          (λ sound good up. takes_fails c.read_nights.ensures.takes sound (ready_alone g.S.Store _ (c.new.ensures.going, good) up));
    }

-- they could not be started
pub returns-in-Err : goal.returns-in-Err
returns-in-Err g c = record {
  shows = shows_none c.in-Err.is c.start_cells.follows.holds-at-none c.fault_of.ensures.memory c.into.ensures (λ s rows stock. tt);
}
