-- The page is that of the text that the book returned, or of no journey where it returned none.
use Rattle.std.proofs.Common.{◌∙◌, ap}
use Rattle.desk_http.specs.Pages.{told_page}
use Rattle.desk_http.proofs.ReasonLemmas.{read_views}
use Rattle.desk_http.proofs.showing.see_report.Goals as goal

pub returns-in-Some : goal.returns-in-Some
returns-in-Some g c = record {
  sees = read_views c.in_ok-found.ensures.reads
      (λ sound s stood stock is.
      let told = rw c.in-Some.is at (c.in_ok-found.ensures.text sound s stood stock is) in
      c.shown_page.ensures.page ∙ ap told_page told);
}

pub returns-in_ok-refused_page-in-None : goal.returns-in_ok-refused_page-in-None
returns-in_ok-refused_page-in-None g c = record {
  sees = read_views c.in_ok-found.ensures.reads
      (λ sound s stood stock is.
      let told = rw c.in-None.is at (c.in_ok-found.ensures.text sound s stood stock is) in
      c.in_ok-refused_page-in-None.ensures.page ∙ ap told_page told);
}
