-- What a call of a book returns, and what a crash may leave of a book. `stood` and `stands` say which states a book
-- represented before a call, and which it represents after the call; `left` and `leaves` say of two states whether
-- whatever a crash leaves represents one of them.
use Rattle.std.specs.Prelude.{◌≡◌, ⊤, Option, Result, Err, IfOk, OnOk}
use Rattle.commands.specs.Asks.{Asked}
use Rattle.commands.specs.Request.{Request}
use Rattle.commands.specs.declared.replies.Fault.{Fault}
use Rattle.commands.specs.declared.replies.Fault.TheVariants.{Memory, Store}
use Rattle.commands.specs.declared.replies.Reply.{Reply}
use Rattle.ledger.specs.Answer.{State, outcome}

-- the reply is that of the request's outcome
abbrev pub Replies : (State → Type 0) → Option Asked → Request → Result Reply Fault → Type 0
Replies stood ask asked result = (s : State) → stood s → IfOk result (λ r. r ≡ (outcome s ask asked).reply)

-- if the call succeeds, the book represents the state of the request's outcome
abbrev pub MovesOn : (State → Type 0) → (State → Type 0) → Option Asked → Request → Result Reply Fault → Type 0
MovesOn stood stands ask asked result = (s : State) → stood s → OnOk result (stands (outcome s ask asked).state)

-- out of memory, the book represents what it represented before
abbrev pub KeepsAtMemory : {T : Type 0} → (State → Type 0) → (State → Type 0) → Result T Fault → Type 0
KeepsAtMemory stood stands (Err Memory) = (s : State) → stood s → stands s
KeepsAtMemory stood stands _ = ⊤

-- unless the store failed, the book represents what it represented before
abbrev pub Keeps : {T : Type 0} → (State → Type 0) → (State → Type 0) → Result T Fault → Type 0
Keeps stood stands (Err Store) = ⊤
Keeps stood stands _ = (s : State) → stood s → stands s

-- whatever a crash leaves represents this state
abbrev pub LeavesJust : (State → State → Type 0) → State → Type 0
LeavesJust leaves s = leaves s s

-- a crash leaves nothing that it could not have left before
abbrev pub LeavesNoMore : (State → State → Type 0) → (State → State → Type 0) → Type 0
LeavesNoMore left leaves = (s t : State) → left s t → leaves s t

-- if the store failed, a crash leaves the old state, or the state of the request's outcome
abbrev pub LeavesAtStore : (State → Type 0) → (State → State → Type 0) → Option Asked → Request → Result Reply Fault → Type 0
LeavesAtStore stood leaves ask asked (Err Store) = (s : State) → stood s → leaves s (outcome s ask asked).state
LeavesAtStore stood leaves ask asked _ = ⊤

-- what the call returns is true of each state that the book represented
abbrev pub Shows : {T : Type 0} → (State → Type 0) → (State → T → Type 0) → Result T Fault → Type 0
Shows stood IsShown result = (s : State) → stood s → IfOk result (IsShown s)
