-- The law is two lemmas.
use Rattle.recovery.proofs.OneLineLemmas.{meant_is_line, line_is_meant}
use Rattle.recovery.proofs.line_laws.commands_have_one_line.Goals as goal

-- each direction of the law is one lemma
pub returns : goal.returns
returns c = record { lines = λ text request. (meant_is_line text request, line_is_meant text request) }
