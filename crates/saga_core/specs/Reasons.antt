-- Why a book fails with Store. `could` and `can` say of a state and of asks that a book may act for them there, before a call
-- and after it: it represents the state, and executes the asks in order, unless it has a reason to fail. `reason` says of two
-- states that there was a reason why the step from the one to the other failed.
use Rattle.std.specs.Prelude.{ℕ, ◌+◌, ◌<◌, ◌∷◌, ◌++◌, length, take, Option, Result, Ok, Err}
use Rattle.commands.specs.Asks.{Asked}
use Rattle.commands.specs.Request.{Request}
use Rattle.commands.specs.declared.replies.Fault.{Fault}
use Rattle.commands.specs.declared.replies.Fault.TheVariants.{Memory, Store}
use Rattle.ledger.specs.Answer.{State, outcome}
use Rattle.saga_core.specs.Runs.{Asks, state_after}

-- after a success the book may act for these asks on the next state, and out of memory on the same one; Store has a reason
abbrev pub MayGoOn : {T : Type 0} → (State → Asks → Type 0) → (State → State → Type 0) → (s next : State) → Asks → Result T Fault → Type 0
MayGoOn can reason s next later (Ok value) = can next later
MayGoOn can reason s next later (Err Memory) = can s later
MayGoOn can reason s next later (Err Store) = reason s next

-- what a request leaves of a book that could act for it and for later asks
abbrev pub ActsOn : {T : Type 0} → (State → Asks → Type 0) → (State → Asks → Type 0) → (State → State → Type 0)
    → Option Asked → Request → Result T Fault → Type 0
ActsOn could can reason ask asked result =
    (s : State) (later : Asks) → could s ((asked, ask) ∷ later) → MayGoOn can reason s (outcome s ask asked).state later result

-- what a call that only reads leaves of a book that could act
abbrev pub ReadsOn : {T : Type 0} → (State → Asks → Type 0) → (State → Asks → Type 0) → (State → State → Type 0)
    → Result T Fault → Type 0
ReadsOn could can reason result = (s : State) (asks : Asks) → could s asks → MayGoOn can reason s s asks result

-- Runs of asks.

-- those before one of these asks were executed, and there was a reason why that one failed
pub record HasReasonAmong (reason : State → State → Type 0) (s : State) (asks : Asks) : Type 0 where
  pub count : ℕ
  pub within : count < length asks
  pub reason_is : reason (state_after s (take count asks)) (state_after s (take (count + 1) asks))

-- a book that could act for these asks and for later ones may act for the later ones, on the state after these
abbrev pub ActsOnAfter : (State → Asks → Type 0) → (State → Asks → Type 0) → Asks → Type 0
ActsOnAfter could can asks = (s : State) (later : Asks) → could s (asks ++ later) → can (state_after s asks) later

-- where the book could act for these asks and for later ones, there was a reason why one of these failed
abbrev pub FailsAmong : (State → Asks → Type 0) → (State → State → Type 0) → Asks → Type 0
FailsAmong could reason asks = (s : State) (later : Asks) → could s (asks ++ later) → HasReasonAmong reason s asks
