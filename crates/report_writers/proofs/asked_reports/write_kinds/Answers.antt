-- The report is written in its parts: its head, the lines of its cells, and its ending.
use Rattle.std.proofs.Common.{◌≡◌, ◌∙◌, Err, ap, arith, length, subst, sym, codes}
use Rattle.std.proofs.lemmas.Result.{err_from_is_err_and}
use Rattle.std.specs.Io.KnownBytes.{Appends}
use Rattle.reports.proofs.FrontLemmas.{front_whole}
use Rattle.reports.specs.Formats.{last_line}
use Rattle.saga_core.specs.Written.{WroteFront}
use Rattle.report_kinds.specs.Texts.{asked_cells}
use Rattle.report_writers.proofs.WriteLemmas.{wrote_front}
use Rattle.report_writers.proofs.ShowLemmas.{in_as, in_none}
use Rattle.report_writers.proofs.StockLemmas.{all_written, ending_front, head_front, lines_front}
use Rattle.report_writers.proofs.asked_reports.write_kinds.Goals as goal

-- a prefix of the head was written
pub returns-in_err-begin_stock : goal.returns-in_err-begin_stock
returns-in_err-begin_stock g c =
    let failed = err_from_is_err_and c.from_residual.result c.from_residual.ensures.1 in
    record {
      shows = λ v. in_none g.S.Store (λ e. cc (failed.1, failed.2, e, c.in_err-begin_stock.ensures.write)) (λ s rows stock.
          wrote_front _ _ _ c.from_residual.result c.from_residual.ensures.0 (head_front c.args.format _ _ _ c.begin_stock.ensures.front));
    }

-- the head was written, and a prefix of the lines
pub returns-in_err-count : goal.returns-in_err-count
returns-in_err-count g c =
    let failed = err_from_is_err_and c.from_residual-in_err-count.result c.from_residual-in_err-count.ensures.1 in
    record {
      shows = λ v. in_as g.S.Store (c.in_err-count.ensures.cells v) (λ s fits. fits) (λ e. sym (failed.1 ∙ ap Err failed.2) ∙ e) (λ s desk fits wrote rows stock.
          wrote_front _ _ _ c.from_residual-in_err-count.result c.from_residual-in_err-count.ensures.0
          (lines_front c.args.format (asked_cells c.args.filter.now rows) _ _ c.in_ok-begin_stock.ensures.sent _ (wrote rows stock).front));
    }

-- all lines, and a prefix of the ending
pub returns-in_err-end_stock : goal.returns-in_err-end_stock
returns-in_err-end_stock g c =
    let failed = err_from_is_err_and c.from_residual-in_err-end_stock.result c.from_residual-in_err-end_stock.ensures.1 in
    record {
      shows = λ v. in_as g.S.Store (c.in_ok-count.ensures.cells v) (λ s fits. fits)
          (λ e. absurd (c.in_err-end_stock.ensures.no_store (let same : failed.0 ≡ _ = cc (failed.1, e) in sym failed.2 ∙ same))) (λ s desk fits wrote rows stock. (
          let cells = asked_cells c.args.filter.now rows in
          let lines = wrote rows stock in
          let count : c.in_ok-count.count ≡ length cells = omega (arith, lines.counted) in
          wrote_front _ _ _ c.from_residual-in_err-end_stock.result c.from_residual-in_err-end_stock.ensures.0
          (ending_front c.args.format cells _ _ c.in_ok-begin_stock.ensures.sent _ _ lines.whole
          (subst (λ n. WroteFront (g.O.Write.contents c.write_lines.new.out) (g.O.Write.contents c.end_stock.new.out) (last_line c.args.format (codes "cells") n)) count c.end_stock.ensures.front))));
    }

-- all was written
pub returns : goal.returns
returns g c = record {
  shows = λ v. in_as g.S.Store (c.in_ok-count.ensures.cells v) (λ s fits. fits) (λ e. cc) (λ s desk fits wrote rows stock. (
      let cells = asked_cells c.args.filter.now rows in
      let lines = wrote rows stock in
      let count : c.in_ok-count.count ≡ length cells = omega (arith, lines.counted) in
      let all = all_written c.args.format cells _ _ c.in_ok-begin_stock.ensures.sent _ _ lines.whole
      (subst (λ n. Appends (g.O.Write.contents c.write_lines.new.out) (g.O.Write.contents c.end_stock.new.out) (last_line c.args.format (codes "cells") n)) count c.in_ok-end_stock.ensures.sent) in
      record { whole = all; front = front_whole _ _ _ all }));
}
