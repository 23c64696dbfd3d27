-- The text of the report is what was written to an empty writer.
use Rattle.std.proofs.Common.{◌∙◌, ◌++◌, ap, sym}
use Rattle.http_pages.specs.Pages.{report_page}
use Rattle.reports.specs.Layouts.{stock_report}
use Rattle.desk_http.proofs.ReasonLemmas.{read_views}
use Rattle.desk_http.proofs.showing.see_stock.Goals as goal

pub returns-in-Ok : goal.returns-in-Ok
returns-in-Ok g c =
    let rows = c.in_ok-rows.rows.items in
    let written = (c.in-Ok.ensures.writes.wrote tt rows (sym c.deref.ensures.value ∙ c.new.ensures.rows)).written in
    record {
      sees = read_views c.in_ok-rows.ensures.reads
          (λ sound s stood. record {
            rows = rows;
            are = c.in_ok-rows.ensures.stock sound s stood;
            shown = c.shown_page.ensures.page
                ∙ ap report_page (written ∙ ap (λ held. held ++ stock_report rows) c.new-text.ensures.items);
          });
    }
