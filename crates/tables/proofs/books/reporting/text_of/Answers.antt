-- The bytes that were written to an empty vector are the text of the report.
use Rattle.std.proofs.Common.{◌∙◌, ap, Err, Ok, Some}
use Rattle.report_writers.proofs.WriteLemmas.{text_absent, text_there}
use Rattle.tables.proofs.books.reporting.text_of.Goals as goal

pub returns-in-Ok-true : goal.returns-in-Ok-true
returns-in-Ok-true g c =
    let it = c.write_report.ensures.shows in
    record {
      shows = λ clean s desk keeps stock is.
          text_there _ _ _ c.new-text.ensures.items (c.in-Ok-true.is ∙ ap Ok c.in-Ok-true.field-0-test) (it.told clean s desk keeps tt stock is);
      store = λ clean s desk spelled keeps fits up store. absurd (cc);
      quiet = it.quiet;
    }

pub returns-in-Ok-false : goal.returns-in-Ok-false
returns-in-Ok-false g c =
    let it = c.write_report.ensures.shows in
    record {
      shows = λ clean s desk keeps stock is.
          text_absent (Some _) (Some _) _ (c.in-Ok-false.is ∙ ap Ok c.in-Ok-false.field-0-test) (it.told clean s desk keeps tt stock is);
      store = λ clean s desk spelled keeps fits up store. absurd (cc);
      quiet = it.quiet;
    }

-- the report failed for a reason
pub returns-in-Err-Store : goal.returns-in-Err-Store
returns-in-Err-Store g c =
    let it = c.write_report.ensures.shows in
    record {
      shows = λ clean s desk keeps. tt;
      store = λ clean s desk spelled keeps fits up store. it.reason clean s desk spelled keeps tt up (c.in-Err-Store.is ∙ ap Err c.in-Err-Store.field-0-is);
      quiet = it.quiet;
    }

pub returns : goal.returns
returns g c = record {
  shows = λ clean s desk keeps. tt;
  store = λ clean s desk spelled keeps fits up store. absurd (cc);
  quiet = c.write_report.ensures.shows.quiet;
}
