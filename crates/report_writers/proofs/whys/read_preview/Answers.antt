-- What is read is the preview of the journey in each state that was kept.
use Rattle.std.proofs.Common.{◌≡◌, ◌∙◌, Err, IfOk, ap, subst, sym}
use Rattle.std.proofs.lemmas.Result.{err_from_is_err_and}
use Rattle.previews.specs.Previews.{nights_ahead, IsJourneyOf}
use Rattle.report_writers.proofs.ShowLemmas.{in_as, in_never, in_then, store_reported}
use Rattle.report_writers.specs.Whys.{IsSeenOf}
use Rattle.report_writers.proofs.whys.read_preview.Goals as goal

-- the option could not be read
pub returns-in_err-taken : goal.returns-in_err-taken
returns-in_err-taken g c =
    let failed = err_from_is_err_and c.from_residual.result c.from_residual.ensures.1 in
    record {
      shows = in_as g.S.Store c.in_err-taken.ensures.shows (λ s fits. tt)
          (λ e. ap Err (store_reported failed.0 _ failed.2 (sym failed.1 ∙ e))) (λ s desk fits told rows stock. subst (λ r. IfOk r (IsSeenOf s.ledger c.args.id c.args.journey.now)) (sym failed.1) tt);
    }

-- the plan has each step that the history names
pub returns-in_err-next : goal.returns-in_err-next
returns-in_err-next g c = record {
  shows = in_never g.S.Store c.in_ok-taken.ensures.shows (λ s fits. tt) (λ s desk found taken. (
      let here : IsJourneyOf s.ledger c.args.id c.args.journey.now = record { legal = desk.legal; found = sym found } in
      let there = c.in_err-next.ensures.there s.ledger c.args.id here taken in cc));
}

-- the nights could not be read
pub returns-in_err-nights : goal.returns-in_err-nights
returns-in_err-nights g c =
    let failed = err_from_is_err_and c.from_residual-in_err-nights.result c.from_residual-in_err-nights.ensures.1 in
    record {
      shows = in_then g.S.Store (in_as g.S.Store c.in_ok-taken.ensures.shows (λ s fits. tt) (λ e. e) (λ s desk fits told. told))
          (c.in_err-nights.ensures.shows c.args.version) (λ s desk fits told. tt) (λ e. ap Err (let same : failed.0 ≡ _ = cc (failed.1, e) in sym failed.2 ∙ same)) (λ s desk fits taken told rows stock.
          subst (λ r. IfOk r (IsSeenOf s.ledger c.args.id c.args.journey.now)) (sym failed.1) tt);
    }

pub returns : goal.returns
returns g c = record {
  shows = in_then g.S.Store (in_as g.S.Store c.in_ok-taken.ensures.shows (λ s fits. tt) (λ e. e) (λ s desk fits told. told))
      (c.in_ok-nights.ensures.shows c.args.version) (λ s desk fits told. tt) (λ e. cc)
      (λ s desk found taken told rows stock. (
      let here : IsJourneyOf s.ledger c.args.id c.args.journey.now = record { legal = desk.legal; found = sym found } in
      let next = c.in_ok-next.ensures.next s.ledger c.args.id here taken in
      let nights = told rows stock in
      record {
        preview_is = c.look_ahead-preview.ensures.preview s.ledger here next (c.as_slice.ensures.value ∙ nights);
        nights_are = nights ∙ ap (nights_ahead s.ledger) next;
      }));
}
