-- Rows that a connection is still to return can be read, or something failed since a first look; and how they are started.
use Rattle.std.specs.Prelude.{◌⊎◌, List}
use Rattle.std.specs.Borrow.{MutBor}
use Rattle.sqlite.specs.Store.{Ghosts}
use Rattle.sqlite.specs.Held.{Held, state}
use Rattle.sqlite.specs.State.{HasCleanDisk}
use Rattle.sqlite.specs.declared.rows.stream.Rows.{Rows}
use Rattle.desk_sql.specs.Causes.{HasFaulted, IsUp}
use Rattle.desk_sql.specs.declared.versions.Version.{Version}
use Rattle.ledger.specs.Answer.{State}
use Rattle.sql_model.specs.Keeping.{KeepsIn}
use Rattle.sql_model.specs.Spelling.{IsSpelled}
use Rattle.sql_model.specs.Standing.{IsDesk}
use Rattle.sql_model.specs.Staying.{StaysUp}
use Rattle.sql_reads.specs.RemainingRows.{BeginsKept, StaysUnder}

module _ {S : Type 0} (g : Ghosts S) where
  -- since the first the disk failed or refused, or the store is up and such rows remain
  pub record IsReady (first now : Held S) (AreGood : Type 0) : Type 0 where
    pub stays : StaysUp g first now
    pub reads : HasFaulted (state g first) (state g now) ⊎ (AreGood × IsUp (state g now))

  -- while the store returns what was written, good rows remain of each desk that the connection kept and whose agents have the
  -- form of one
  abbrev pub BeginsGood : (old new : Held S) → Type 0 → Type 0
  BeginsGood old new AreGood =
      HasCleanDisk (state g new) → (v : Version) (s : State) → IsDesk s → IsSpelled s.ledger → KeepsIn v (state g old) s → AreGood

  -- Rows were started, which borrow this connection. It is only read. While the store returns what was written, such a list of each
  -- desk that it kept remains, and good rows of each whose agents have the form of one.
  pub record StartsList (conn : MutBor (Held S)) (it : Rows S g) {X : Type 0} (IsList : State → List X → Type 0)
      (RestsOn : Held S → List X → Type 0) (AreGood : Held S → Type 0) : Type 0 where
    pub under : StaysUnder g conn it.conn
    pub rows : (v : Version) → BeginsKept g conn.now it.conn.now v IsList (RestsOn it.conn.now)
    pub good : BeginsGood conn.now it.conn.now (AreGood it.conn.now)
