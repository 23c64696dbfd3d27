-- What a run of asks adds to an execution. An execution may end at a crash; a reopening then precedes all that follows.
use Rattle.std.specs.Prelude.{◌≡◌, ⊤, ℕ, ◌≤◌, Bool, true, false, List, [], ◌∷◌, ◌++◌, length, IsTrue}
use Rattle.commands.specs.declared.replies.Fault.{Fault}
use Rattle.commands.specs.declared.replies.Fault.TheVariants.{Memory, Store}
use Rattle.commands.specs.declared.replies.Reply.{Reply}
use Rattle.ledger.specs.Answer.{State, start, is_request}
use Rattle.ledger.specs.World.{Moment, Done, Cut, Reopened, after, IsWorld}
use Rattle.saga_core.specs.Runs.{Asks, outcome_of, replies_to}

-- Moments.

-- the last of these moments, if any, is not cut off
abbrev pub is_whole : List Moment → Bool
is_whole [] = true
is_whole (Done asked ask reply ∷ later) = is_whole later
is_whole (Reopened ∷ later) = is_whole later
is_whole (Cut asked ask was_kept ∷ []) = false
is_whole (Cut asked ask was_kept ∷ m ∷ later) = is_whole (m ∷ later)

-- these asks, each with the right answer
abbrev pub dones : State → Asks → List Moment
dones s [] = []
dones s (c ∷ cs) = Done c.0 c.1 (outcome_of s c).reply ∷ dones (outcome_of s c).state cs

-- the execution goes on with these asks, each answered, and then with these moments
abbrev pub continued : List Moment → Asks → List Moment → List Moment
continued w asks last = w ++ (dones (after start w) asks ++ last)

-- the first of these asks, if there is one, is cut off by a crash: nothing of it was kept, or all of it
abbrev pub cut_off : Asks → Bool → List Moment
cut_off [] was_kept = []
cut_off (c ∷ later) was_kept = Cut c.0 c.1 was_kept ∷ []

-- each of the asks keeps the limits
abbrev pub KeepLimits : Asks → Type 0
KeepLimits [] = Unit {0}
KeepLimits (c ∷ cs) = IsTrue (is_request c.0) × KeepLimits cs

-- The progress of a run.

-- the asks, in order: those that were answered, at most one in progress, and the later ones
pub record Progress (asks : Asks) : Type 0 where
  pub answered : Asks
  pub under_way : Asks
  pub later : Asks
  pub in_order : asks ≡ answered ++ under_way ++ later
  pub at_most_one : length under_way ≤ 1
  -- those that were answered or are in progress keep the limits
  pub limits : KeepLimits (answered ++ under_way)

-- the execution goes on with what was answered, and then a crash cuts off what is in progress
abbrev pub crashed : {asks : Asks} → List Moment → Progress asks → Bool → List Moment
crashed w progress was_kept = continued w progress.answered (cut_off progress.under_way was_kept)

-- The state of the book after a run.

-- this is an execution whose last moment is not cut off, and the book represents its final state
pub record StandsAtEnd (stands : State → Type 0) (w : List Moment) : Type 0 where
  pub world : IsWorld w
  pub whole : IsTrue (is_whole w)
  pub stands_there : stands (after start w)

-- both of these are executions, and whatever a crash leaves represents the final state of one of them
pub record LeavesEnd (leaves : State → State → Type 0) (v w : List Moment) : Type 0 where
  pub first : IsWorld v
  pub second : IsWorld w
  pub left : leaves (after start v) (after start w)

-- all of the asks were answered: the book represents the final state of the execution that went on with them, and a
-- crash leaves just that state
pub record EndsWith (stands : State → Type 0) (leaves : State → State → Type 0) (w : List Moment) (asks : Asks)
    : Type 0 where
  pub limits : KeepLimits asks
  pub ends : StandsAtEnd stands (continued w asks [])
  pub left : LeavesEnd leaves (continued w asks []) (continued w asks [])

-- unless the store failed, the book represents the final state of the execution
abbrev pub StandsUnless : Bool → (State → Type 0) → List Moment → Type 0
StandsUnless true stands w = ⊤
StandsUnless false stands w = StandsAtEnd stands w

-- how many asks may be in progress when a run ends
abbrev pub most_under_way : Bool → ℕ
most_under_way true = 1
most_under_way false = 0

-- A prefix of the asks was answered, and if the store failed, the next one may be in progress. Whatever a crash leaves
-- represents the final state of the execution that went on with that prefix, and with the next one cut off.
pub record EndsAmong (stands : State → Type 0) (leaves : State → State → Type 0) (w : List Moment) (asks : Asks)
    (store_failed : Bool) : Type 0 where
  pub progress : Progress asks
  pub few : length progress.under_way ≤ most_under_way store_failed
  pub ends : StandsUnless store_failed stands (continued w progress.answered [])
  pub left : LeavesEnd leaves (crashed w progress false) (crashed w progress true)

-- Runs.

-- each execution whose final state the book represented goes on with all of the asks
abbrev pub GoesOnWith : (State → Type 0) → (State → Type 0) → (State → State → Type 0) → Asks → Type 0
GoesOnWith stood stands leaves asks =
    (w : List Moment) → StandsAtEnd stood w → EndsWith stands leaves w asks

-- the fault is one of the store
abbrev pub is_store : Fault → Bool
is_store Store = true
is_store Memory = false

-- a run ended among its asks: the replies are those to the asks that were answered, and if the store failed, the next
-- one was in progress
pub record RunEndsAmong (stands : State → Type 0) (leaves : State → State → Type 0) (w : List Moment) (asks : Asks)
    (replies : List Reply) (fault : Fault) : Type 0 where
  pub among : EndsAmong stands leaves w asks (is_store fault)
  pub replied : replies ≡ replies_to (after start w) among.progress.answered
  pub failed_at : length among.progress.under_way ≡ most_under_way (is_store fault)

-- each execution whose final state the book represented goes on with a prefix of the asks
abbrev pub GoesOnAmong : (State → Type 0) → (State → Type 0) → (State → State → Type 0) → Asks
    → List Reply → Fault → Type 0
GoesOnAmong stood stands leaves asks replies fault =
    (w : List Moment) → StandsAtEnd stood w → RunEndsAmong stands leaves w asks replies fault
