-- What a call over a connection returns.
use Rattle.std.specs.Prelude.{◌≡◌, ◌≤◌, ◌+◌, not, true, is_some, length, Option, Some, None, Result, IsTrue, string_bytes}
use Rattle.sqlite.specs.Store.{Ghosts}
use Rattle.sqlite.specs.Held.{Held}
use Rattle.commands.specs.Asks.{Asked}
use Rattle.commands.specs.Request.{Request}
use Rattle.commands.specs.declared.replies.Fault.{Fault}
use Rattle.commands.specs.declared.replies.Reply.{Reply}
use Rattle.commands.specs.Texts.{reply_line, is_accepted}
use Rattle.desk_sql.specs.declared.meta.Meta.{Meta}
use Rattle.desk_sql.specs.declared.answers.KeptAnswer.{KeptAnswer}
use Rattle.ledger.specs.Ledger.{journeys}
use Rattle.ledger.specs.Answer.{State, KeptReply, most_events, kept_for, answered_again, outcome}
use Rattle.sql_reads.specs.Reading.{ShowsKept}
use Rattle.sql_writes.specs.declared.events.Numbers.{Numbers}
use Rattle.sql_commands.specs.declared.answering.Answered.{Answered}

-- the row of meta has the newest version, and counts the events and the journeys
pub record Counts (s : State) (m : Meta) : Type 0 where
  pub version : m.version ≡ 2
  pub events : m.events ≡ length s.ledger
  pub journeys_are : m.journeys ≡ length (journeys s.ledger)

-- the numbers of events and of journeys keep the limit
pub record IsCounted (m : Meta) : Type 0 where
  pub events : m.events ≤ most_events
  pub journeys_are : m.journeys ≤ most_events

-- the numbers of the next event of a ledger, if it begins no journey
pub record AreNext (s : State) (n : Numbers) : Type 0 where
  pub num : n.num ≡ length s.ledger + 1
  pub journeys_are : n.journeys ≡ length (journeys s.ledger)

-- the reply found for an ask: none if its key is new, else the reply that each request gets; it changes
-- nothing
abbrev pub Finds : State → Option Asked → Option Reply → Type 0
Finds s ask None = kept_for s ask ≡ None
Finds s ask (Some r) =
    (is_some (kept_for s ask) ≡ true)
    × ((asked : Request)
    → (r ≡ (outcome s ask asked).reply) × ((outcome s ask asked).state ≡ s))

-- the reply under a known key: the kept one, or the refusal of another text
abbrev pub AnswersAgain : KeptAnswer → Asked → Reply → Type 0
AnswersAgain found ask r =
    (s : State) (k : KeptReply) → found.ask.items ≡ k.text
    → string_bytes found.reply ≡ reply_line k.reply → IsTrue (is_accepted k.reply) → r ≡ (answered_again s ask.text k).reply

-- the reply is the one whose line was kept
abbrev pub ReadsReply : KeptAnswer → Reply → Type 0
ReadsReply found r = (kept : Reply) → string_bytes found.reply ≡ reply_line kept → IsTrue (is_accepted kept) → r ≡ kept

-- what was kept is the line of an accepted reply
pub record IsKeptLine (found : KeptAnswer) : Type 0 where
  pub reply : Reply
  pub accepted : IsTrue (is_accepted reply)
  pub line : string_bytes found.reply ≡ reply_line reply

-- the reply is new if none was kept for the ask
abbrev pub TellsNew : {S : Type 0} → Ghosts S → (old new : Held S) → Option Asked → Result Answered Fault → Type 0
TellsNew g old new ask result =
    ShowsKept g old new result (λ s (r : Answered). r.is_new ≡ not (is_some (kept_for s ask)))
