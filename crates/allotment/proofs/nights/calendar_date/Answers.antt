-- `jiff` has a date for the day of each night.
use Rattle.std.proofs.Common.{arith}
use Rattle.std.proofs.lemmas.Int.{ints}
use Rattle.jiff_core.proofs.SignedLemmas.{signed_arith}
use Rattle.allotment.proofs.NightLemmas.{night_range}
use Rattle.allotment.proofs.nights.calendar_date.Goals as goal

pub returns-clause-day : goal.returns-clause-day
returns-clause-day c = grind (arith, night_range, ints, signed_arith)
