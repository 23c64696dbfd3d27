-- A journey that is there is reported, and one that is absent is not.
use Rattle.std.proofs.Common.{◌≡◌, ◌∙◌, ap, Err, sym, Some}
use Rattle.previews.specs.Layouts.{why_of}
use Rattle.previews.specs.Previews.{begun_as}
use Rattle.saga_core.specs.Views.{record_of}
use Rattle.report_writers.proofs.ShowLemmas.{in_done, in_read, in_then, store_reported}
use Rattle.report_writers.proofs.WriteLemmas.{written_absent, written_fault, written_there}
use Rattle.report_writers.proofs.whys.write_why.Goals as goal

pub returns-in-Ok-Some : goal.returns-in-Ok-Some
returns-in-Ok-Some g c = record {
  shows = in_then g.S.Store (in_done g.S.Store c.read_journey.ensures.quiet c.in-Ok-Some.ensures.shows) c.write_preview.ensures.shows
      (λ s desk fits told. sym c.in-Ok-Some.field-0-is ∙ told) c.written.ensures.fails
      (λ s desk fits told wrote stock is. (
      let found : record_of s.ledger c.args.id ≡ Some c.in-Ok-Some.journey = sym told ∙ c.in-Ok-Some.field-0-is in
      written_there _ _ (λ journey. why_of c.args.format s.ledger c.args.id (begun_as journey)) _ c.in-Ok-Some.journey _ found
      (c.written.ensures.told _ _ _ (wrote stock is))));
}

pub returns-in-Ok-None : goal.returns-in-Ok-None
returns-in-Ok-None g c = record {
  shows = in_read g.S.Store c.read_journey.ensures.quiet
      (λ clean s desk keeps stock is. written_absent _ (λ journey. why_of c.args.format s.ledger c.args.id (begun_as journey)) _
      (sym (c.in-Ok-None.ensures.shows clean s desk keeps) ∙ c.in-Ok-None.field-0-is))
      (λ clean s desk spelled keeps up e. cc);
}

pub returns-in-Err : goal.returns-in-Err
returns-in-Err g c = record {
  shows = in_read g.S.Store c.read_journey.ensures.quiet (λ clean s desk keeps stock is. written_fault _ _ c.into.result)
      (λ clean s desk spelled keeps up e.
      c.in-Err.ensures.store clean s desk spelled keeps tt up (ap Err (store_reported c.into.result _ c.into.ensures e)));
}
