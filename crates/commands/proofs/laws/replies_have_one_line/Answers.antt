-- The law is a lemma.
use Rattle.commands.proofs.OneLineLemmas.{line_once}
use Rattle.commands.proofs.laws.replies_have_one_line.Goals as goal

-- accepted replies with the same line are equal
pub returns : goal.returns
returns c = record { once = line_once }
