-- A reply of seven words is recognized by the first, the fourth and the sixth.
use Rattle.std.proofs.Common.{arith}
use Rattle.commands.proofs.WordLemmas.{are_back, no_seven, unlike}
use Rattle.commands.proofs.readings.seven_in.Goals as goal
use Rattle.commands.proofs.readings.seven_in.Goals.{then-ne-via-then-ne, then-ne-via-else-ne+then-ne-2, then-ne-via-else-ne+else-ne-2+then-ne-3}

-- one of the three is another word
pub returns-then-ne : goal.returns-then-ne
returns-then-ne c = record {
  found = no_seven c.args.words.now c.requires.seven (λ first back to.
      elim c.then-ne.branch [
        | then-ne-via-then-ne w ↦ unlike _ _ w.if-ne.ensures first
        | then-ne-via-else-ne+then-ne-2 w ↦ unlike _ _ w.if-ne-2.ensures back
        | then-ne-via-else-ne+else-ne-2+then-ne-3 w ↦ unlike _ _ w.if-ne-3.ensures to
      ]);
}

-- all three are as they should be
pub returns : goal.returns
returns c = grind (arith, are_back)
