-- What was read is the preview of the journey in each state that was kept.
use Rattle.std.proofs.Common.{◌≡◌, ◌∙◌, Err, ap, ap₂, subst, sym}
use Rattle.std.proofs.lemmas.Result.{err_from_is_err_and}
use Rattle.previews.specs.Layouts.{why_in, why_of}
use Rattle.previews.specs.Previews.{begun_as}
use Rattle.reports.proofs.FrontLemmas.{front_none}
use Rattle.report_writers.specs.Writing.{WritesText}
use Rattle.report_writers.proofs.WriteLemmas.{wrote_front}
use Rattle.report_writers.proofs.ShowLemmas.{in_as, never_store}
use Rattle.report_writers.proofs.whys.write_preview.Goals as goal

pub returns : goal.returns
returns g c = record {
  shows = in_as g.S.Store c.in_ok-seen.ensures.shows (λ s fits. fits)
      (λ e. absurd (never_store c.why_text.result c.why_text.ensures.no_store e)) (λ s desk found told rows stock. (
      let seen = told rows stock in
      let same : why_in c.args.format c.in_ok-seen.seen.preview c.as_slice.result.now ≡ why_of c.args.format s.ledger c.args.id (begun_as c.args.journey.now) =
      ap₂ (why_in c.args.format) seen.preview_is (c.as_slice.ensures.value ∙ seen.nights_are) in
      subst (λ text. WritesText (g.O.Write.contents c.args.out.now) (g.O.Write.contents c.why_text.new.out) text c.why_text.result) same
      (record { whole = c.why_text.ensures.written; front = c.why_text.ensures.front })));
}

-- nothing was written
pub returns-in_err-seen : goal.returns-in_err-seen
returns-in_err-seen g c =
    let failed = err_from_is_err_and c.from_residual.result c.from_residual.ensures.1 in
    record {
      shows = in_as g.S.Store c.in_err-seen.ensures.shows (λ s fits. fits) (λ e. ap Err (let same : failed.0 ≡ _ = cc (failed.1, e) in sym failed.2 ∙ same))
          (λ s desk fits told rows stock. wrote_front _ _ _ c.from_residual.result c.from_residual.ensures.0 (front_none _ _));
    }
