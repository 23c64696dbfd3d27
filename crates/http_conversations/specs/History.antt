-- What a conversation has done, and what is true of it.
use Rattle.std.specs.Prelude.{◌≡◌, ◌≢◌, ◌≤◌, ◌<◌, ◌⊎◌, ℕ, Bool, true, false, List, [], ◌∷◌, ◌++◌, All, length, take, drop, Option, Some, None, Result, Ok, Err, if◌then◌else◌}
use Rattle.commands.specs.declared.replies.Fault.{Fault}
use Rattle.desk_http.specs.Pages.{closes, stops}
use Rattle.desk_http.specs.declared.doors.Door.{Door}
use Rattle.http_conversations.specs.PageTexts.{go_on}
use Rattle.http_conversations.specs.Reading.{IsDueBy}
use Rattle.http_conversations.specs.Modes.{Said, Says, SaysNothing}
use Rattle.http_conversations.specs.declared.modes.Mode.{Mode}
use Rattle.http_conversations.specs.Worlds.{Exchange}
use Rattle.http_conversations.specs.Exchanges.{AreAnswered, EndWithStop, IsAt, IsBy, bytes_of, go_on_if, pages_of}
use Rattle.http_conversations.specs.declared.conversation.Stage.{Stage}
use Rattle.http_conversations.specs.declared.conversation.Stage.TheVariants.{Open, Closing, Failed}
use Rattle.http_conversations.specs.declared.conversation.TheConstants.{MOST_PENDING, MOST_WAITING}

pub record History : Type 0 where
  -- the door at which the messages come in
  pub door : Door
  -- the mode in which they are read
  pub mode : Mode
  pub stage : Stage
  -- the message that was answered last asked the desk to stop
  pub stops : Bool
  -- 100 Continue was given for the message that comes next
  pub went_on : Bool
  -- all that was received, and what of it waits
  pub received : List ℕ
  pub waiting : List ℕ
  -- the messages that were taken, each with its page
  pub exchanges : List Exchange
  -- all that was yielded, and what of the pages is not yet
  pub sent : List ℕ
  pub pending : List ℕ

-- what of a suffix waits: all of it, while messages are answered
abbrev pub kept : Stage → List ℕ → List ℕ
kept Open bytes = bytes
kept _ bytes = []

-- True of every conversation: what was received begins with the messages of the exchanges, and what was yielded and
-- then waits is their pages, and 100 Continue, if it was given for the next message.
pub record IsServed (h : History) : Type 0 where
  pub rest : List ℕ
  pub received : h.received ≡ bytes_of h.exchanges ++ rest
  pub waits : h.waiting ≡ kept h.stage rest
  pub answered : AreAnswered h.stage h.exchanges
  pub at_door : All (IsAt h.door) h.exchanges
  pub in_mode : All (IsBy h.mode) h.exchanges
  pub stopping : h.stops ≡ true → EndWithStop h.exchanges
  pub sent : h.sent ++ h.pending ≡ pages_of h.exchanges ++ go_on_if h.went_on

-- Steps.

abbrev pub new_history : Door → Mode → History
new_history door mode = record {
  door = door;
  mode = mode;
  stage = Open;
  stops = false;
  went_on = false;
  received = [];
  waiting = [];
  exchanges = [];
  sent = [];
  pending = [];
}

-- these bytes were read
abbrev pub after_received : History → List ℕ → History
after_received h more =
    record h { received = h.received ++ more; waiting = kept h.stage (h.waiting ++ more) }

-- so many of the pending bytes were yielded
abbrev pub after_sent : History → ℕ → History
after_sent h count = record h { sent = h.sent ++ take count h.pending; pending = drop count h.pending }

-- the exchange with a message of so many bytes
abbrev pub exchange : History → ℕ → Option (List ℕ) → Exchange
exchange h count page =
    record { door = h.door; mode = h.mode; bytes = take count h.waiting; went_on = h.went_on; page = page }

-- That message got this page, which may close, and asks the desk to stop, or does not. Its bytes were used; after a closing page, all are.
abbrev pub after_answer : History → ℕ → List ℕ → Bool → Bool → History
after_answer h count page closing stopping = record h {
  stage = if closing then Closing else Open;
  waiting = if closing then [] else drop count h.waiting;
  stops = stopping;
  went_on = false;
  exchanges = h.exchanges ++ exchange h count (Some page) ∷ [];
  pending = page;
}

-- nothing more is answered
abbrev pub after_failure : History → History
after_failure h = record h { stage = Failed; stops = false; waiting = [] }

-- that message lost its page
abbrev pub after_loss : History → ℕ → History
after_loss h count =
    record (after_failure h) { went_on = false; exchanges = h.exchanges ++ exchange h count None ∷ [] }

-- no page waits, and messages are answered: the first bytes are this message, and this page says whether it closes
pub record GetsPage (old new : History) : Type 0 where
  pub is_open : old.stage ≡ Open
  pub free : old.pending ≡ []
  pub count : ℕ
  pub message : Said
  pub is_message : Says old.mode (take count old.waiting) message
  pub page : List ℕ
  pub is : new ≡ after_answer old count page (closes old.door message.meant) (stops old.door message.meant)

-- the first bytes are this message, and its page was lost
pub record LosesPage (old new : History) : Type 0 where
  pub is_open : old.stage ≡ Open
  pub count : ℕ
  pub message : Said
  pub is_message : Says old.mode (take count old.waiting) message
  pub is : new ≡ after_loss old count

-- the first message got its page, or nothing changed; at a fault it lost its page, or was not looked at
abbrev pub TakesFirst : Result Bool Fault → History → History → Type 0
TakesFirst (Ok true) old new = GetsPage old new
TakesFirst (Ok false) old new = new ≡ old
TakesFirst (Err fault) old new = LosesPage old new ⊎ ((old.stage ≡ Open) × (new ≡ after_failure old))

-- 100 Continue is given
abbrev pub after_go_on : History → History
after_go_on h = record h { went_on = true; pending = go_on }

-- no page waits, and messages are answered: 100 Continue is due for the next message, and is given
pub record GivesGoOn (old new : History) : Type 0 where
  pub is_open : old.stage ≡ Open
  pub free : old.pending ≡ []
  pub due : IsDueBy old.mode old.waiting old.went_on
  pub is : new ≡ after_go_on old

-- it is not to be given now: a page waits, or the conversation is over, or it is not due
abbrev pub HasNoGoOn : History → Type 0
HasNoGoOn h = (h.pending ≢ []) ⊎ (h.stage ≢ Open) ⊎ (¬ (IsDueBy h.mode h.waiting h.went_on))

-- What may come next.

-- nothing was read, nothing was yielded, and its messages come in at the same door and are read in the same mode
pub record Passes (old new : History) : Type 0 where
  pub received : new.received ≡ old.received
  pub sent : new.sent ≡ old.sent
  pub door : new.door ≡ old.door
  pub mode : new.mode ≡ old.mode

-- and no message was answered
pub record IsQuiet (old new : History) : Type 0 where
  pub passes : Passes old new
  pub exchanges : new.exchanges ≡ old.exchanges

-- messages are answered, and no page waits
pub record IsReady (h : History) : Type 0 where
  pub is_open : h.stage ≡ Open
  pub free : h.pending ≡ []

-- one more message got its page, which waits; whether it asked the desk to stop is known
pub record AnswersOne (old new : History) : Type 0 where
  pub bytes : List ℕ
  pub one : new.exchanges
      ≡ old.exchanges ++ record { door = old.door; mode = old.mode; bytes = bytes; went_on = old.went_on; page = Some new.pending } ∷ []
  pub message : Said
  pub is_message : Says old.mode bytes message
  pub stopping : new.stops ≡ stops old.door message.meant

-- a message was answered, and asked the desk to stop
abbrev pub stops_by : Result Bool Fault → History → Bool
stops_by (Ok true) h = h.stops
stops_by _ h = false

-- no message is to be answered now: a page waits, or the conversation is over, or no message is whole
abbrev pub HasNoTurn : History → Type 0
HasNoTurn h = (h.pending ≢ []) ⊎ (h.stage ≢ Open) ⊎ SaysNothing h.mode h.waiting

-- it may read: no more pages wait than may, and no more bytes than a message may have
pub record WantsRead (h : History) : Type 0 where
  pub goes_on : h.stage ≢ Failed
  pub taken : length h.pending ≤ MOST_PENDING
  pub room : length h.waiting < MOST_WAITING
