-- The exchanges of many slots, as one list in the order in which they were carried out.
use Rattle.std.specs.Prelude.{◌≡◌, ℕ, ◌<◌, Bool, List, [], ◌∷◌, ◌++◌, length, map, slice_index_or, All, if◌then◌else◌, ◌==◌}
use Rattle.ledger.specs.Answer.{State}
use Rattle.saga_core.specs.Runs.{Asks}
use Rattle.http_conversations.specs.Worlds.{Exchange}
use Rattle.http_conversations.specs.Exchanges.{StopAtLast}
use Rattle.http_conversations.specs.Leading.{Ends}
use Rattle.http_conversations.specs.Reasons.{HasReasons}

-- an exchange, and the slot that it came from
abbrev pub Slotted : Type 0
Slotted = ℕ × Exchange

abbrev pub exchange_of : Slotted → Exchange
exchange_of x = x.1

-- the exchanges of one slot
abbrev pub of_slot : ℕ → List Slotted → List Exchange
of_slot at [] = []
of_slot at (x ∷ later) = if x.0 == at then x.1 ∷ of_slot at later else of_slot at later

-- all of one slot
abbrev pub slotted_at : ℕ → List Exchange → List Slotted
slotted_at at xs = map (λ x. (at, x)) xs

-- each slot has those of its own more, in their order
pub record IsMerged (before after : List (List Exchange)) (merged : List Slotted) : Type 0 where
  pub slotted : All (λ (x : Slotted). x.0 < length before) merged
  pub same : length after ≡ length before
  pub each : (at : ℕ) → at < length before
      → slice_index_or after at [] ≡ slice_index_or before at [] ++ of_slot at merged

-- A book went on by these exchanges, those of all slots, merged, in each state that it stood for, while it is sound. The last
-- of them stops the desk, or none does. Where the store failed at the last, there was a reason.
pub record Merges {B : Type 0} (is_sound : B → Type 0) (stands : B → State → Type 0) (leaves : B → State → State → Type 0)
    (may : B → B → State → Asks → Type 0) (reason : B → B → State → State → Type 0) (old new : B)
    (store_failed stopped : Bool) (before after : List (List Exchange)) (merged : List Slotted) : Type 0 where
  pub is_merged : IsMerged before after merged
  pub stopping : StopAtLast stopped (map exchange_of merged)
  pub ends : is_sound new → (s : State) → stands old s → Ends store_failed (stands new) (leaves new) s (map exchange_of merged)
  pub reasons : HasReasons is_sound may reason old new store_failed (map exchange_of merged)
