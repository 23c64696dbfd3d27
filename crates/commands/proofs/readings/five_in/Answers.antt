-- A reply of five words is recognized by the first.
use Rattle.commands.proofs.WordLemmas.{are_standing}
use Rattle.commands.proofs.readings.five_in.Goals as goal

-- the first is `journey`
pub returns : goal.returns
returns c = rw (are_standing c.args.words.now c.requires.five c.if-ne.ensures) c.stood_in.ensures
