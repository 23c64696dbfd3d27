-- How a world goes on with the messages of all connections.
use Rattle.std.specs.Prelude.{Bool, List, map}
use Rattle.ledger.specs.Answer.{State}
use Rattle.ledger.specs.World.{Moment}
use Rattle.saga_core.specs.Runs.{Asks}
use Rattle.saga_core.specs.Worlds.{StandsAtEnd}
use Rattle.http_conversations.specs.Worlds.{Exchange, GoesOnBy}
use Rattle.http_conversations.specs.Exchanges.{StopAtLast}
use Rattle.http_conversations.specs.Reasons.{HasReasons}
use Rattle.http_live.specs.Merging.{IsMerged, Slotted, exchange_of}

-- Each world at whose end the book stood goes on by the exchanges of all slots, merged, of which the last stops the desk,
-- or none does. Where the store failed at the last, there was a reason.
pub record WorldsGoOn {B : Type 0} (is_sound : B → Type 0) (stands : B → State → Type 0) (leaves : B → State → State → Type 0)
    (may : B → B → State → Asks → Type 0) (reason : B → B → State → State → Type 0) (old new : B)
    (store_failed stopped : Bool) (before after : List (List Exchange)) : Type 0 where
  pub merged : List Slotted
  pub is_merged : IsMerged before after merged
  pub stopping : StopAtLast stopped (map exchange_of merged)
  pub worlds : is_sound new → (w : List Moment) → StandsAtEnd (stands old) w
      → GoesOnBy store_failed (stands new) (leaves new) w (map exchange_of merged)
  pub reasons : HasReasons is_sound may reason old new store_failed (map exchange_of merged)
