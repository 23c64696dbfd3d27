-- The lines of each kind, one after another, or up to the first fault.
use Rattle.std.proofs.Common.{◌∙◌, Err, ap, sym}
use Rattle.std.proofs.lemmas.Result.{err_from_is_err_and}
use Rattle.report_writers.proofs.StockLemmas.{shows_asked, shows_both, shows_less}
use Rattle.report_writers.proofs.asked_reports.write_lines.Goals as goal

pub returns-in_err-flights : goal.returns-in_err-flights
returns-in_err-flights g c =
    let failed = err_from_is_err_and c.from_residual.result c.from_residual.ensures.1 in
    record {
      cells = shows_asked g.S.Store c.args.format c.args.filter.now
          (shows_less g.S.Store c.args.format _ _ c.from_residual.ensures.0 (λ e. sym (failed.1 ∙ ap Err failed.2) ∙ e) c.in_err-flights.ensures.cells);
    }

pub returns-in_err-rooms : goal.returns-in_err-rooms
returns-in_err-rooms g c =
    let failed = err_from_is_err_and c.from_residual-in_err-rooms.result c.from_residual-in_err-rooms.ensures.1 in
    record {
      cells = shows_asked g.S.Store c.args.format c.args.filter.now (shows_both g.S.Store c.args.format c.in_ok-flights.ensures.cells
          (shows_less g.S.Store c.args.format _ _ c.from_residual-in_err-rooms.ensures.0 (λ e. sym (failed.1 ∙ ap Err failed.2) ∙ e) c.in_err-rooms.ensures.cells));
    }

pub returns-in_err-transfers : goal.returns-in_err-transfers
returns-in_err-transfers g c =
    let failed = err_from_is_err_and c.from_residual-in_err-transfers.result c.from_residual-in_err-transfers.ensures.1 in
    record {
      cells = shows_asked g.S.Store c.args.format c.args.filter.now (shows_both g.S.Store c.args.format c.in_ok-flights.ensures.cells
          (shows_both g.S.Store c.args.format c.in_ok-rooms.ensures.cells
          (shows_less g.S.Store c.args.format _ _ c.from_residual-in_err-transfers.ensures.0 (λ e. sym (failed.1 ∙ ap Err failed.2) ∙ e) c.in_err-transfers.ensures.cells)));
    }

pub returns : goal.returns
returns g c = record {
  cells = shows_asked g.S.Store c.args.format c.args.filter.now (shows_both g.S.Store c.args.format c.in_ok-flights.ensures.cells
      (shows_both g.S.Store c.args.format c.in_ok-rooms.ensures.cells
      (shows_both g.S.Store c.args.format c.in_ok-transfers.ensures.cells c.write_kind-4.ensures.cells)));
}
