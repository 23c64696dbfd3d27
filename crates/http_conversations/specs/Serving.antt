-- What a conversation at the port does for its next message, in strict mode. For serve.
use Rattle.std.specs.Prelude.{◌≡◌, ◌⊎◌, ℕ, Bool, true, false, List, [], ◌++◌, take, drop, Option, Some, Result, Ok, Err, option_map, if◌then◌else◌}
use Rattle.std.specs.Io.KnownBytes.{Appends}
use Rattle.ledger.specs.Answer.{State}
use Rattle.http_messages.specs.Messages.{BeginsWith, HasNoMessage, Message}
use Rattle.saga_core.specs.declared.serve_faults.ServeFault.{ServeFault}
use Rattle.saga_core.specs.declared.serve_faults.ServeFault.TheVariants.{Memory, Store, Read, Write}
use Rattle.desk_http.specs.Pages.{IsPage, closes, state_after}
use Rattle.desk_http.specs.Serving.{ForNext}
use Rattle.desk_http.specs.declared.doors.Door.TheVariants.{Port}
use Rattle.http_conversations.specs.declared.modes.Mode.TheVariants.{Strict}
use Rattle.http_conversations.specs.History.{History}
use Rattle.http_conversations.specs.declared.conversation.Stage.TheVariants.{Open, Closing}

-- the bytes that are still to come: those that wait, and those that the reader has left
abbrev pub to_come : History → Option (List ℕ) → Option (List ℕ)
to_come h remaining = option_map (λ bytes. h.waiting ++ bytes) remaining

-- its messages come in at the port, and are read in strict mode
pub record IsAtPort (h : History) : Type 0 where
  pub door : h.door ≡ Port
  pub mode : h.mode ≡ Strict

-- the next of them may be answered
pub record AwaitsNext (h : History) : Type 0 where
  pub is_open : h.stage ≡ Open
  pub free : h.pending ≡ []
  pub at_port : IsAtPort h

module _ (sound : Type 0) (stood stands : State → Type 0) (leaves : State → State → Type 0) where
  -- The next message of the stream was carried out, and its page waits. If it closes, the conversation does; if not, the
  -- rest of the stream is still to come.
  pub record GetsNext (stream : List ℕ) (remaining : Option (List ℕ)) (h : History) : Type 0 where
    pub message : Message
    pub rest : List ℕ
    pub begins : BeginsWith stream message rest
    pub stage : h.stage ≡ (if closes Port message then Closing else Open)
    pub left : h.stage ≡ Open → to_come h remaining ≡ Some rest
    pub page : sound → (s : State) → stood s → IsPage Port s message h.pending × stands (state_after Port s message)

  -- the stream has no further message, and nothing changed
  pub record FindsNone (stream : List ℕ) : Type 0 where
    pub none : HasNoMessage stream
    pub kept : sound → (s : State) → stood s → stands s

  -- the state at each fault
  abbrev pub FailsAt : List ℕ → State → ServeFault → Type 0
  FailsAt stream s Read = stands s
  FailsAt stream s Memory = stands s ⊎ ForNext stream (λ m. stands (state_after Port s m))
  FailsAt stream s Store = ForNext stream (λ m. leaves s (state_after Port s m))
  FailsAt stream s Write = ⊥

  -- the next message of the stream was answered, or there is none, or a fault came
  abbrev pub FindsNext : List ℕ → Option (List ℕ) → History → Result Bool ServeFault → Type 0
  FindsNext stream remaining h (Ok true) = GetsNext stream remaining h
  FindsNext stream remaining h (Ok false) = FindsNone stream
  FindsNext stream remaining h (Err fault) = sound → (s : State) → stood s → FailsAt stream s fault

-- the door, the mode, the stage, what was received, what of it waits and the exchanges are the same
pub record IsAsBefore (old new : History) : Type 0 where
  pub door : new.door ≡ old.door
  pub mode : new.mode ≡ old.mode
  pub stage : new.stage ≡ old.stage
  pub received : new.received ≡ old.received
  pub waiting : new.waiting ≡ old.waiting
  pub exchanges : new.exchanges ≡ old.exchanges

-- a prefix of the page that waited was written, and the others of its bytes wait
pub record HandsOut (held holds : Option (List ℕ)) (old new : History) : Type 0 where
  pub part : ℕ
  pub wrote : Appends held holds (take part old.pending)
  pub pending : new.pending ≡ drop part old.pending
  pub same : IsAsBefore old new
