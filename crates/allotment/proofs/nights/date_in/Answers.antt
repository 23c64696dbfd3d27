use Rattle.std.proofs.Common.{arith}
use Rattle.allotment.proofs.JiffLemmas.{date_shown}
use Rattle.allotment.proofs.nights.date_in.Goals as goal

-- ten bytes with two dashes, and with digits elsewhere
pub returns : goal.returns
returns c = grind (arith, date_shown)
