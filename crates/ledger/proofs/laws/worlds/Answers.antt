-- A world begins with an empty ledger, which is legal, and with no key.
use Rattle.ledger.specs.Answer.{start}
use Rattle.ledger.proofs.Outcomes.{after-legal, after-ledger, acts_once}
use Rattle.ledger.proofs.laws.worlds.Goals as goal

pub returns : goal.returns
returns c = record {
  sound = λ w goes. record {
    legal = after-legal start w tt goes;
    events = after-ledger start w;
    once = λ agent key. acts_once agent key start w;
  };
}
