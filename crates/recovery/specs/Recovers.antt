-- What recovery does to a book.
use Rattle.std.specs.Prelude.{◌≡◌, ℕ, ◌≤◌, List, ◌++◌, length, take, IsTrue}
use Rattle.commands.specs.declared.replies.Fault.{Fault}
use Rattle.ledger.specs.Answer.{State, most_events}
use Rattle.ledger.specs.History.{is_open}
use Rattle.ledger.specs.Ledger.{Event}
use Rattle.ledger.specs.Recovery.{has_none, IsRecovered, BeginsRecovered, bound}
use Rattle.recovery.specs.Growing.{room_of, Grew, LeavesAt, MayHaveGrown}

-- with these events appended the ledger is the recovered one, cut off at the most events that a ledger may have
pub record AreRecovery (l events : List Event) : Type 0 where
  pub recovered : List Event
  pub is_recovered : IsRecovered l recovered
  pub rest : List Event
  pub beginning : recovered ≡ (l ++ events) ++ rest
  -- where the recovered ledger has no more events than a ledger may have, it is whole
  pub whole : length recovered ≤ most_events → l ++ events ≡ recovered
  -- otherwise it is cut off at that many events
  pub cut_off : length l ≤ most_events → l ++ events ≡ take most_events recovered

-- these events are the recovery of the state, as far as its ledger has room for them
pub record IsRecovery (s : State) (events : List Event) : Type 0 where
  pub are : AreRecovery s.ledger events
  pub within : length events ≤ room_of s

-- recovery is deterministic: the state has just this recovery, which has no more events than the bound
pub record HasOneRecovery (s : State) : Type 0 where
  pub events : List Event
  pub is : IsRecovery s events
  pub alone : (other : List Event) → IsRecovery s other → other ≡ events
  pub bounded : length events ≤ bound s.ledger

-- a book that represented a state now represents the recovered one, which has so many more events and the same kept
-- replies
abbrev pub Recovers : (State → Type 0) → (State → Type 0) → ℕ → Type 0
Recovers stood stands made = (s : State) → stood s → Grew stands (AreRecovery s.ledger) s made

-- no journey is unfinished in the state that the book represents
pub record IsFinished (stands : State → Type 0) : Type 0 where
  pub state : State
  pub stands_there : stands state
  pub finished : IsTrue (has_none is_open state.ledger)

-- where the recovered ledger has no more events than a ledger may have, no journey is unfinished
abbrev pub Finishes : (State → Type 0) → (State → Type 0) → Type 0
Finishes stood stands = (s : State) (r : List Event) → stood s → IsRecovered s.ledger r
    → length r ≤ most_events → IsFinished stands

-- recovery makes no more events than the bound of the ledger
abbrev pub IsWithinBound : (State → Type 0) → ℕ → Type 0
IsWithinBound stood made = (s : State) → stood s → made ≤ bound s.ledger

-- with these events appended the ledger is a prefix of the recovered one
abbrev pub AreBeginning : List Event → List Event → Type 0
AreBeginning l events = BeginsRecovered l (l ++ events)

-- what is left at a fault is a prefix of the recovered ledger, with the same kept replies
abbrev pub RecoversPart : (State → Type 0) → (State → State → Type 0) → Fault → Type 0
RecoversPart stood left fault = (s : State) → stood s → MayHaveGrown left (AreBeginning s.ledger) s fault

-- whatever a crash leaves is such a prefix; out of memory the book represents one
abbrev pub RecoversSome : (State → Type 0) → (State → Type 0) → (State → State → Type 0) → Fault → Type 0
RecoversSome stood stands leaves fault = RecoversPart stood (LeavesAt fault stands leaves) fault
