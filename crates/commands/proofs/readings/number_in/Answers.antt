-- The text of a number within the limits begins as numbers do, and is read as it. So the result is right on each path.
use Rattle.std.proofs.Common.{arith}
use Rattle.commands.proofs.NumberLemmas.{between_parts, between_from, plain_parsed, spelled_plain, spelled_parsed}
use Rattle.commands.proofs.readings.number_in.Goals as goal

-- a text that begins otherwise is the text of no number
pub returns-then-not-begins_plain : goal.returns-then-not-begins_plain
returns-then-not-begins_plain c = grind (arith, spelled_plain)

-- the text of a number would be read
pub returns-in_default : goal.returns-in_default
returns-in_default c = grind (arith, spelled_parsed)

-- a number out of the limits is none within them
pub returns-then-number-low : goal.returns-then-number-low
returns-then-number-low c = grind (arith, spelled_parsed, between_parts)

-- the number that is read is the one that is spelled
pub returns : goal.returns
returns c = grind (arith, between_from, plain_parsed)
