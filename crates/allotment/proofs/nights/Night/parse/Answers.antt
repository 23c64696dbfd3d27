use Rattle.std.proofs.Common.{sym}
use Rattle.allotment.proofs.NightLemmas.{night_text-night_in}
use Rattle.allotment.proofs.nights.Night.parse.Goals as goal

-- the day that is read is a night
pub invariant_of-result : goal.invariant_of-result
invariant_of-result c = (night_text-night_in c.args.text.now c.in-Some.day (sym c.in-Some.ensures)).0
