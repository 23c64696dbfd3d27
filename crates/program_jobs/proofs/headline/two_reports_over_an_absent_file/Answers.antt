-- The law is used as it stands.
use Rattle.std.proofs.Common.{refl, [], ◌∷◌}
use Rattle.program_jobs.specs.Examples.{absent, report, report_ran}
use Rattle.program_jobs.proofs.headline.two_reports_over_an_absent_file.Goals as goal

pub returns : goal.returns
returns c = record {
  found = c.any_invocations.ensures.headline (report ∷ report ∷ []) absent absent refl
      (absent, report_ran absent, (absent, report_ran absent, refl));
}
