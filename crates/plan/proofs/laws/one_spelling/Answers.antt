use Rattle.plan.proofs.ReadLemmas.{read_is_spelled}
use Rattle.plan.proofs.SpellLemmas.{spelled_is_read}
use Rattle.plan.proofs.laws.one_spelling.Goals as goal

-- a text that is read as a plan is its line, and the line of a plan is read as it
pub returns : goal.returns
returns c = record { one_spelling = λ text p. (read_is_spelled text p, spelled_is_read text p) }
