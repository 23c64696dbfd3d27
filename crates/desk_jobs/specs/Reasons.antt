-- Why a job failed with Store: how its connection was before it, and what came meanwhile.
use Rattle.std.specs.Prelude.{◌≡◌, ◌≢◌, ◌⊎◌, ◌+◌, ◌<◌, ◌^◌, ℕ, suc, [], List, Option, Result, Ok, Err}
use Rattle.sqlite.specs.Store.{Ghosts}
use Rattle.sqlite.specs.Held.{Held, state}
use Rattle.sqlite.specs.State.{HasCleanDisk}
use Rattle.desk_sql.specs.Causes.{IsUp, HasFaulted}
use Rattle.desk_sql.specs.Schema.{no_schema}
use Rattle.desk_sql.specs.Writable.{HasRowids}
use Rattle.commands.specs.BatchData.{Batched}
use Rattle.commands.specs.declared.replies.Fault.TheVariants.{Store}
use Rattle.allotment_csv.specs.declared.faults.CsvFault.{CsvFault}
use Rattle.ledger.specs.Answer.{State}
use Rattle.ledger.specs.Ledger.{Event}
use Rattle.recovery.specs.Growing.{MayHaveGrown, room_of, with_events}
use Rattle.recovery.specs.Reasons.{MayActThen}
use Rattle.recovery.specs.Recovers.{AreBeginning, IsRecovery, Recovers}
use Rattle.saga_core.specs.Reasons.{FailsAmong, HasReasonAmong}
use Rattle.saga_core.specs.Runs.{Asks}
use Rattle.sql_commands.specs.Failing.{RanOutOf}
use Rattle.sql_model.specs.Spelling.{IsSpelled}
use Rattle.tables.specs.Acting.{AreShort, MayAct, MayActSince, rowids_for}
use Rattle.tables.specs.BookTerms.{StandsBook}
use Rattle.tables.specs.declared.books.TableBook.{TableBook}
use Rattle.desk_jobs.specs.Openings.{ask_of_batch}
use Rattle.desk_jobs.specs.Connections.{Represents}

-- how many rowids recovery and these asks after it take at most: recovery one for each event for which the ledger has room, and
-- one for the move that finds it full
abbrev pub rowids_of_job : State → Asks → ℕ
rowids_of_job s later = suc (room_of s) + rowids_for later

module _ {S : Type 0} (g : Ghosts S) where
  -- A job may start from the connection, to recover the desk and then execute these asks: it represents this state, whose agents
  -- have their form; its store is up; the texts of the asks are short; and the tables, if there are any, have as many rowids left
  -- as all of this takes.
  pub record MayStart (h : Held S) (later : Asks) (s : State) : Type 0 where
    pub represents : Represents g h s
    pub spelled : IsSpelled s.ledger
    pub up : IsUp (state g h)
    pub short : AreShort later
    pub few : rowids_of_job s later < 2 ^ 63
    pub rowids : (state g h).now.schema ≢ no_schema → HasRowids (rowids_of_job s later) (state g h).now.trees

  -- where a job might start from the connection, the book over it may act with as many rowids, or the disk failed or refused
  abbrev pub MayActOnceOpened : Held S → TableBook S g → Type 0
  MayActOnceOpened old b =
      HasCleanDisk (state g b.conn) → (later : Asks) (s : State) → MayStart old later s
      → MayAct g b s (rowids_of_job s later) ⊎ HasFaulted (state g old) (state g b.conn)

  -- the book may act for these asks, since a book over the connection as it was before
  pub record MayActFrom (old : Held S) (b : TableBook S g) (s : State) (asks : Asks) : Type 0 where
    pub first : TableBook S g
    pub same : first.conn ≡ old
    pub may : MayActSince g first b s asks

  -- where a job might start from the connection, recovery made so many events, and the book may act for the later asks
  abbrev pub RecoversToAct : Held S → TableBook S g → Asks → ℕ → Type 0
  RecoversToAct old b later made = Recovers (MayStart old later) (MayActThen (StandsBook g b) (MayActFrom old b) later) made

  module _ (old new : Held S) where
    -- the commit that leads from the one state to the other ran out of memory, and the limit of steps was lifted after it
    pub record CommitRanOut (s next : State) : Type 0 where
      pub limit : Option ℕ
      pub ran_out : RanOutOf g (record new { step_limit = limit }) s next

    -- since the connection was so, its disk failed or refused, or such a commit ran out of memory
    abbrev pub HasReasonFrom : State → State → Type 0
    HasReasonFrom s next = HasFaulted (state g old) (state g new) ⊎ CommitRanOut s next

    -- recovery made some of its events, and there was a reason why its next move failed
    abbrev pub FailsRecovering : State → Type 0
    FailsRecovering s = MayHaveGrown HasReasonFrom (AreBeginning s.ledger) s Store

    -- the same, where a job might start from the connection
    abbrev pub FailsToRecover : Type 0
    FailsToRecover = (s : State) → MayStart old [] s → FailsRecovering s

    -- recovery made all of its events, and there was a reason why one of the asks after it failed
    pub record FailsRecovered (s : State) (asks : Asks) : Type 0 where
      pub events : List Event
      pub is : IsRecovery s events
      pub reason : HasReasonAmong HasReasonFrom (with_events s events) asks

    -- where a job might start from the connection, for these asks: recovery failed for a reason, or one of the asks after it
    abbrev pub FailsToRun : Asks → Type 0
    FailsToRun asks = (s : State) → MayStart old asks s → FailsRecovering s ⊎ FailsRecovered s asks

  -- where the book might act for these asks, one of them failed for a reason
  abbrev pub FailsAmongFrom : TableBook S g → Held S → Asks → Type 0
  FailsAmongFrom b new asks = (old : Held S) (s : State) → MayActFrom old b s asks → HasReasonAmong (HasReasonFrom old new) s asks

-- Loads.

-- where a book might act for the batch of a file, its load failed for a reason; a name or a file that is refused asks for nothing
abbrev pub FailsToLoad : (State → Asks → Type 0) → (State → State → Type 0) → Result Batched CsvFault → Type 0
FailsToLoad could reason (Ok batch) = FailsAmong could reason (ask_of_batch batch)
FailsToLoad could reason (Err wrong) = ⊥

-- the same of the book of a recovered desk, and of its connection
abbrev pub FailsToLoadFor : {S : Type 0} (g : Ghosts S) → TableBook S g → Held S → Result Batched CsvFault → Type 0
FailsToLoadFor g b new (Ok batch) = FailsAmongFrom g b new (ask_of_batch batch)
FailsToLoadFor g b new (Err wrong) = ⊥
