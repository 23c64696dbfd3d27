-- The law is the lemma.
use Rattle.http_live.proofs.TurnLemmas.{in_order}
use Rattle.http_live.proofs.laws.turns_are_in_order.Goals as goal

pub returns : goal.returns
returns g c = record {
  law = λ failed stopped first now last instants merged by_turns among. in_order failed stopped first instants merged last by_turns now among;
}
