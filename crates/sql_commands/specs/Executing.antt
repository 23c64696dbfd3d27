-- A call that executes a request, whatever its answer.
use Rattle.std.specs.Prelude.{◌≡◌, ◌+◌, ◌<◌, ◌≤◌, false, length, Option, None, Some, IsTrue, Result, OnOk, IfOk}
use Rattle.sqlite.specs.Store.{Ghosts}
use Rattle.sqlite.specs.Held.{Held, state}
use Rattle.sqlite.specs.State.{HasCleanDisk}
use Rattle.commands.specs.Asks.{Asked}
use Rattle.commands.specs.Request.{Request}
use Rattle.commands.specs.Texts.{is_accepted, reply_line}
use Rattle.commands.specs.declared.replies.Fault.{Fault}
use Rattle.commands.specs.declared.replies.Reply.{Reply}
use Rattle.desk_sql.specs.Rows.{Tables}
use Rattle.ledger.specs.Answer.{State, answer_within, asker, is_request, kept_for, most_events, outcome, state_with}
use Rattle.ledger.specs.Ledger.{Event, is_allowed}
use Rattle.sql_model.specs.Keeping.{Keeps, MayLeave, WasClean}
use Rattle.sql_model.specs.Spelling.{IsSpelled}
use Rattle.sql_model.specs.Standing.{IsDesk, StandsFor}
use Rattle.sql_model.specs.Staying.{StaysUp}
use Rattle.sql_writes.specs.Commits.{KeepsAtMemory}
use Rattle.sql_writes.specs.Kinds.{LeadsTo}
use Rattle.sql_writes.specs.Permits.{Permits, rowids_of}
use Rattle.sql_writes.specs.declared.events.Event.{Event as Written}
use Rattle.sql_writes.specs.declared.events.Numbers.{Numbers}
use Rattle.sql_commands.specs.Failing.{FailsFor, LeavesRowidsFor, request_rowids}

-- On each state that is kept, and in which the request is due: the reply is that of its outcome, after a success the connection
-- keeps the state of the outcome, and in every case a crash leaves the old state or that one. Out of memory the connection keeps
-- what it kept; a fault of the store has a reason; and the request takes at most its rowids.
pub record Executes {S : Type 0} (g : Ghosts S) (old new : Held S) (ask : Option Asked) (asked : Request) (IsDueIn : State → Type 0)
    {V : Type 0} (reply_of : V → Reply) (result : Result V Fault) : Type 0 where
  pub outside : new.in_transaction ≡ false
  pub reply : HasCleanDisk (state g new) → (s : State) → Keeps (state g old) s → IsDueIn s
      → IfOk result (λ v. reply_of v ≡ (outcome s ask asked).reply)
  pub after : (s : State) → Keeps (state g old) s → IsDueIn s
      → OnOk result (Keeps (state g new) (outcome s ask asked).state)
  pub left : (s : State) → Keeps (state g old) s → IsDueIn s → MayLeave (state g new) s (outcome s ask asked).state
  pub memory : KeepsAtMemory g old new result
  pub sound : WasClean g old new
  pub store : FailsFor g old new ask asked IsDueIn result
  pub rowids : LeavesRowidsFor g old new ask asked IsDueIn
  pub up : StaysUp g old new

-- the same, of a call that returns the reply
abbrev pub Replies : {S : Type 0} (g : Ghosts S) (old new : Held S) → Option Asked → Request → (State → Type 0) → Result Reply Fault
    → Type 0
Replies g old new ask asked IsDueIn result = Executes g old new ask asked IsDueIn (λ r. r) result

-- the rows of an event, with this reply, lead from one state to the next, and are permitted
pub record HasRows (n : Numbers) (e : Written) (ask : Option Asked) (reply : Reply) (old next : State) : Type 0 where
  pub leads : LeadsTo n e ask (reply_line reply) old next
  pub permits : IsSpelled old.ledger → (t : Tables) → StandsFor t old → Permits n e t
  pub accepted : IsTrue (is_accepted reply)

-- The rules answer a request, for which no reply is kept, by an event and this reply. The event has the next number, and if it may
-- be added, its rows, for which the request has rowids enough, lead to the state with it.
pub record IsAnswered (n : Numbers) (e : Written) (ask : Option Asked) (asked : Request) (reply : Reply) (s : State) : Type 0 where
  pub desk : IsDesk s
  pub new : kept_for s ask ≡ None
  pub good : IsTrue (is_request asked)
  pub event : Event
  pub answered : answer_within s.ledger (asker ask) asked ≡ record { event = Some event; reply = reply }
  pub num : n.num ≡ length s.ledger + 1
  pub few : rowids_of n e ≤ request_rowids asked
  pub rows : length s.ledger < most_events → IsTrue (is_allowed s.ledger event)
      → HasRows n e ask reply s (state_with s ask reply (Some event))
