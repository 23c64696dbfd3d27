-- The effect of one more command on a run. For run.
use Rattle.std.proofs.Common.{◌≡◌, ℕ, ◌+◌, ◌<◌, List, [], ◌∷◌, ◌++◌, length, take, get_or, refl, ap, sym, ◌∙◌, arith, Option, Err}
use Rattle.std.proofs.lemmas.List.{take_more, get_or-map, length-map}
use Rattle.commands.specs.Asks.{Asked}
use Rattle.commands.specs.Orders.{request_of}
use Rattle.commands.specs.Request.{Request}
use Rattle.commands.specs.declared.replies.Fault.{Fault}
use Rattle.commands.specs.declared.asks.Command.{Command}
use Rattle.commands.specs.declared.replies.Reply.{Reply}
use Rattle.ledger.specs.Answer.{State, Outcome}
use Rattle.saga_core.specs.Books.{LeavesAtStore, KeepsAtMemory}
use Rattle.saga_core.specs.Runs.{Asks, asks_of, replies_to, state_after, outcome_of, StopsAmong}

-- the state after some asks and then others is the state after the others, from there
pub state_after-append : (s : State) (cs ds : Asks) → state_after s (cs ++ ds) ≡ state_after (state_after s cs) ds
state_after-append s [] ds = refl
state_after-append s (c ∷ cs) ds = state_after-append (outcome_of s c).state cs ds

-- the replies of two lists of asks are appended
pub replies_to-append : (s : State) (cs ds : Asks)
    → replies_to s (cs ++ ds) ≡ replies_to s cs ++ replies_to (state_after s cs) ds
replies_to-append s [] ds = refl
replies_to-append s (c ∷ cs) ds = grind (arith, replies_to-append (outcome_of s c).state cs)

-- this is the ask at place i
pub record IsAt (cs : Asks) (i : ℕ) (c : Request × Option Asked) : Type 0 where
  pub within : i < length cs
  pub item : c ≡ get_or cs i c

-- the command at place i, whose ask was read as `ask`
pub is_at : (commands : List (Command × Option Asked)) (i : ℕ) (command : Command × Option Asked) (ask : Option Asked)
    → i < length commands → command ≡ get_or commands i command → ask ≡ command.1
    → IsAt (asks_of commands) i (request_of command.0, ask)
is_at commands i command ask within item asked = grind (arith, length-map, get_or-map)

-- the outcome of the ask at that place, after the asks before it
abbrev pub outcome_at : State → Asks → ℕ → Request × Option Asked → Outcome
outcome_at s cs i c = outcome_of (state_after s (take i cs)) c

-- the first i + 1 asks are the first i and that one
pub took : {cs : Asks} {i : ℕ} {c : Request × Option Asked} → IsAt cs i c → take (i + 1) cs ≡ take i cs ++ c ∷ []
took {cs} {i} {c} at = take_more cs i c at.within ∙ ap (λ x. take i cs ++ x ∷ []) (sym at.item)

-- one more reply
pub replies_to-more : {cs : Asks} {i : ℕ} {c : Request × Option Asked} (s : State) → IsAt cs i c
    → replies_to s (take (i + 1) cs) ≡ replies_to s (take i cs) ++ (outcome_at s cs i c).reply ∷ []
replies_to-more {cs} {i} {c} s at = ap (replies_to s) (took at) ∙ replies_to-append s (take i cs) (c ∷ [])

-- one step further
pub state_after-more : {cs : Asks} {i : ℕ} {c : Request × Option Asked} (s : State) → IsAt cs i c
    → state_after s (take (i + 1) cs) ≡ (outcome_at s cs i c).state
state_after-more {cs} {i} {c} s at = ap (state_after s) (took at) ∙ state_after-append s (take i cs) (c ∷ [])

-- the next command failed: at Memory the book keeps the state before it; at Store a crash leaves that state or the next
pub stops : {cs : Asks} {i : ℕ} {c : Request × Option Asked}
    (stood stands : State → Type 0) (leaves : State → State → Type 0)
    (s : State) (replies : List Reply) (fault : Fault) → IsAt cs i c → replies ≡ replies_to s (take i cs)
    → stood (state_after s (take i cs))
    → KeepsAtMemory {T = Reply} stood stands (Err fault)
    → LeavesAtStore stood leaves c.1 c.0 (Err fault)
    → StopsAmong stands leaves s cs replies fault
stops {cs} {i} {c} stood stands leaves s replies fault at replied now memory store = grind (arith, state_after-more)
