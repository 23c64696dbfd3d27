-- What a book takes to recover, and when it may act after recovery. Recovery asks for moves of the house: steps, and stops.
use Rattle.std.specs.Prelude.{◌≡◌, ◌≤◌, ⊤, ℕ, suc, [], ◌∷◌, ◌++◌, length, None}
use Rattle.commands.specs.Request.{Request, Step, Stop}
use Rattle.ledger.specs.Answer.{State}
use Rattle.recovery.specs.Growing.{room_of}
use Rattle.saga_core.specs.Runs.{Asks}

-- a step or a stop
abbrev pub IsStepOrStop : Request → Type 0
IsStepOrStop (Step id) = ⊤
IsStepOrStop (Stop id) = ⊤
IsStepOrStop _ = ⊥

-- each of the asks is a step or a stop of the house
abbrev pub AreMoves : Asks → Type 0
AreMoves [] = ⊤
AreMoves (c ∷ later) = (IsStepOrStop c.0 × (c.1 ≡ None)) × AreMoves later

-- the book may act for any so many moves, and then for the later asks
abbrev pub MayMove : (State → Asks → Type 0) → ℕ → Asks → State → Type 0
MayMove can most later s = (moves : Asks) → AreMoves moves → length moves ≤ most → can s (moves ++ later)

-- the book represents the state and may act for one more move than its ledger has room for events, and then for the later
-- asks: the move that finds the ledger full is the last one
pub record MayRecover (stands : State → Type 0) (can : State → Asks → Type 0) (later : Asks) (s : State) : Type 0 where
  pub stands_there : stands s
  pub moves : MayMove can (suc (room_of s)) later s

-- the book represents the state and may act for the later asks
pub record MayActThen (stands : State → Type 0) (can : State → Asks → Type 0) (later : Asks) (s : State) : Type 0 where
  pub stands_there : stands s
  pub may : can s later

-- no state: of a fault, only the reason is said
abbrev pub NoState : State → Type 0
NoState s = ⊥
