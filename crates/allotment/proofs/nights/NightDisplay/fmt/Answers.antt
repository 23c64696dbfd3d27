use Rattle.std.proofs.Common.{arith}
use Rattle.allotment.proofs.JiffLemmas.{night_text-date_text}
use Rattle.allotment.proofs.nights.NightDisplay.fmt.Goals as goal

-- `jiff`'s date of the day has the night's text
pub returns-clause-writes : goal.returns-clause-writes
returns-clause-writes g c = grind (arith, night_text-date_text)
