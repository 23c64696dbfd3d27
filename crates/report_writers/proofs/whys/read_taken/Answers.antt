-- The option of the step at the position, for a journey that goes back.
use Rattle.std.proofs.Common.{arith, rules}
use Rattle.report_writers.proofs.ShowLemmas.{in_as}
use Rattle.report_writers.proofs.whys.read_taken.Goals as goal

pub returns-in-Back : goal.returns-in-Back
returns-in-Back g c = record {
  shows = in_as g.S.Store c.read_latest.ensures.shows (λ s fits. fits) (λ e. e) (λ s desk fits told. search (rules, arith));
}
