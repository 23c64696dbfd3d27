-- The numbers of the ledger are those that were read, and the others those that were given.
use Rattle.std.proofs.Common.{◌∙◌, ap}
use Rattle.http_pages.specs.Pages.{monitored_page}
use Rattle.http_log.specs.MetricsText.{metrics_text}
use Rattle.desk_http.proofs.ReasonLemmas.{read_views}
use Rattle.desk_http.proofs.showing.see_metrics.Goals as goal

pub returns-clause-sees : goal.returns-clause-sees
returns-clause-sees g c =
    read_views c.in_ok-counts.ensures.reads
    (λ sound s stood. record {
      counted = c.args.metrics.now;
      shown = c.shown_page.ensures.page
          ∙ ap monitored_page
          (c.in_ok-body.ensures.text ∙ ap (λ counts. metrics_text counts c.args.metrics.now) (c.in_ok-counts.ensures.counts sound s stood));
    })

pub returns-clause-counted : goal.returns-clause-counted
returns-clause-counted g c = record {
  counts = c.in_ok-counts.counts;
  shown = c.shown_page.ensures.page ∙ ap monitored_page c.in_ok-body.ensures.text;
}
