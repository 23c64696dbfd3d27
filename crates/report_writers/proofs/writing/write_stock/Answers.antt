-- The whole stock where each cell is asked for.
use Rattle.std.proofs.Common.{rules, sym, subst}
use Rattle.reports.specs.Formats.{stock_in}
use Rattle.report_writers.specs.Writing.{WritesText}
use Rattle.report_writers.proofs.ShowLemmas.{in_as}
use Rattle.report_writers.proofs.StockLemmas.{asked_all}
use Rattle.report_writers.proofs.writing.write_stock.Goals as goal

pub returns-then-names_nothing : goal.returns-then-names_nothing
returns-then-names_nothing g c =
    let f = c.args.filter.now in
    record {
      shows = λ v. in_as g.S.Store (c.write_whole_stock.ensures.shows v) (λ s fits. fits) (λ fails. fails) (λ s desk fits told rows stock.
          subst (λ cells. WritesText (g.O.Write.contents c.args.out.now) (g.O.Write.contents c.write_whole_stock.new.out) (stock_in c.args.format cells) c.write_whole_stock.result)
          (sym (asked_all f rows (c.names_nothing.ensures.each (search rules)))) (told rows stock));
    }
