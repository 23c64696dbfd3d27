-- The ends of a connection, over one read or write after another.
use Rattle.std.proofs.Common.{ℕ, List, Option, Result, arith}
use Rattle.http_conversations.specs.Calls.{Receives, Sends}
use Rattle.http_conversations.specs.History.{History, Passes}
use Rattle.http_conversations.proofs.CallLemmas.{receives_on, receives_sent, sends_on, sends_received}
use Rattle.http_live.specs.Faithful.{Faithful}

module _ {R W : Type 0} (remaining : R → Option (List ℕ)) (contents : W → Option (List ℕ)) (came : List (R × W)) where
  abbrev Of : R → W → History → Type 0
  Of reader writer h = Faithful remaining contents came reader writer h.received h.sent

  pub passes : (reader : R) (writer : W) (h k : History) → Passes h k → Of reader writer h → Of reader writer k
  passes reader writer h k x y = grind arith

  pub reads : {E : Type 0} {room : ℕ} (r s : R) (writer : W) (h k : History) (result : Result ℕ E)
      → Receives (remaining r) (remaining s) room result h k → Of r writer h → Of s writer k
  reads r s writer h k result did y = grind (arith, receives_on, receives_sent)

  pub writes : {E : Type 0} (reader : R) (v w : W) (h k : History) (result : Result ℕ E)
      → Sends (contents v) (contents w) result h k → Of reader v h → Of reader w k
  writes reader v w h k result did y = grind (arith, sends_on, sends_received)
