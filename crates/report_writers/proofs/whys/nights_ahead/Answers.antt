-- The nights of the want, if there is a next step.
use Rattle.std.proofs.Common.{◌≡◌, sym, subst, IfOk}
use Rattle.previews.specs.Previews.{nights_ahead}
use Rattle.report_writers.proofs.ShowLemmas.{in_as}
use Rattle.report_writers.proofs.whys.nights_ahead.Goals as goal

pub returns-in-Some : goal.returns-in-Some
returns-in-Some g c = record {
  shows = λ v. in_as g.S.Store (c.nights_of.ensures.shows v) (λ s fits. fits) (λ e. e) (λ s desk fits told rows stock.
      subst (λ o. IfOk c.nights_of.result (λ nights. nights.items ≡ nights_ahead s.ledger o)) (sym c.in-Some.is) (told rows stock));
}
