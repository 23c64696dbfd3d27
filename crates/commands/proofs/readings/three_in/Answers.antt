-- A reply of three words is recognized by the first, or by the first and the last.
use Rattle.std.proofs.Common.{arith}
use Rattle.commands.proofs.WordLemmas.{are_loaded, are_begun}
use Rattle.commands.proofs.readings.three_in.Goals as goal

-- the first is `loaded`
pub returns-then-eq : goal.returns-then-eq
returns-then-eq c = grind (arith, are_loaded)

-- the first is `journey`, and the last `begun`
pub returns-then-eq-3 : goal.returns-then-eq-3
returns-then-eq-3 c = grind (arith, are_begun)
