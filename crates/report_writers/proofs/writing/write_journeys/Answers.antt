-- All unfinished journeys where no others are asked for, and else those that are.
use Rattle.std.proofs.Common.{◌≡◌, ap₂, rules, sym, subst}
use Rattle.saga_core.specs.JourneyFilters.{asked_of}
use Rattle.reports.specs.Formats.{journeys_in, unfinished_in}
use Rattle.saga_core.specs.Views.{unfinished_of}
use Rattle.report_writers.specs.Writing.{WritesText}
use Rattle.report_writers.proofs.ShowLemmas.{in_as}
use Rattle.report_writers.proofs.writing.write_journeys.Goals as goal

pub returns-then-is_plain : goal.returns-then-is_plain
returns-then-is_plain g c =
    let f = c.args.filter.now in
    record {
      shows = λ v. in_as g.S.Store (c.write_unfinished.ensures.shows v) (λ s fits. fits) (λ fails. fails) (λ s desk fits told. (
          let rows : asked_of f s.ledger ≡ unfinished_of s.ledger = c.is_plain.ensures.all (search rules) s.ledger in
          let same : journeys_in c.args.name c.args.format (asked_of f s.ledger) ≡ unfinished_in c.args.format (unfinished_of s.ledger) =
          ap₂ (λ n briefs. journeys_in n c.args.format briefs) (c.is_plain.ensures.name (search rules)) rows in
          subst (λ text. WritesText (g.O.Write.contents c.args.out.now) (g.O.Write.contents c.write_unfinished.new.out) text c.write_unfinished.result) (sym same) told));
    }

pub returns : goal.returns
returns g c = record { shows = c.write_asked.ensures.shows }
