-- The items of a journey that remain, and how their source leaves its connection.
use Rattle.std.specs.Prelude.{◌≡◌, true, false, Result, Err, OnErr}
use Rattle.std.specs.Borrow.{Fml, GName, MutBor, RattleType, RestsIfErr}
use Rattle.sqlite.specs.Store.{Ghosts}
use Rattle.sqlite.specs.Held.{Held, state}
use Rattle.sqlite.specs.contracts.connection.Connection as connection
use Rattle.commands.specs.declared.replies.Fault.{Fault}
use Rattle.commands.specs.declared.replies.Fault.TheVariants.{Store}
use Rattle.desk_sql.specs.Calls.{Quiet}
use Rattle.desk_sql.specs.declared.versions.Version.{Version}
use Rattle.ledger.specs.Answer.{State}
use Rattle.sql_model.specs.Keeping.{KeepsIn}
use Rattle.sql_model.specs.Spelling.{IsSpelled}
use Rattle.sql_model.specs.Standing.{IsDesk}
use Rattle.sql_reads.specs.Causes.{FailsForReasonIn}
use Rattle.sql_reads.specs.ItemSearch.{IsLow}
use Rattle.sql_reads.specs.declared.history_rows.ItemCursor.{ItemCursor}

-- the items could not be started: nothing changes, and Store has a reason in tables of this version
pub record IsNotStarted {S : Type 0} (g : Ghosts S) (v : Version) {V : Type 0} (result : Result V Fault) (old new : Held S) : Type 0 where
  pub quiet : Quiet g old new
  pub store : FailsForReasonIn g old new v result

module _ (S : RattleType) (g : Ghosts S.Denot) where
  -- if the items could not be started, the connection is left so; else their source borrows it
  abbrev pub LeavesIfErr : Version → {X : Type 0} → (X → GName) → MutBor (Held S.Denot) → Result X Fault → Fml
  LeavesIfErr v name c r = RestsIfErr (connection.the_row S g) c name r (λ last. IsNotStarted g v r c.now last)

module _ {S : Type 0} (g : Ghosts S) where
  -- the connection keeps a desk whose agents have the form of one, in tables of the cursor's version; the cursor searches for
  -- numbers that a store may have, and has not failed
  pub record AreSought (h : Held S) (c : ItemCursor) : Type 0 where
    pub desk : State
    pub is_desk : IsDesk desk
    pub spelled : IsSpelled desk.ledger
    pub keeps : KeepsIn c.version (state g h) desk
    pub low : IsLow c.sought
    pub going : c.failed ≡ false

-- the cursor has returned no item yet, of tables of this version, and searches for numbers that a store may have
pub record IsAtStart (v : Version) (c : ItemCursor) : Type 0 where
  pub none : c.given ≡ 0
  pub going : c.failed ≡ false
  pub low : IsLow c.sought
  pub version : c.version ≡ v

-- What a call leaves of a cursor: it searches the same tables, for such numbers; a fault counts no item, and every call after
-- it returns Store.
pub record GoesOnFrom (old new : ItemCursor) {V : Type 0} (result : Result V Fault) : Type 0 where
  pub low : IsLow old.sought → IsLow new.sought
  pub version : new.version ≡ old.version
  pub uncounted : OnErr result (new.given ≡ old.given)
  pub failed : OnErr result (new.failed ≡ true)
  pub stays_failed : old.failed ≡ true → result ≡ Err Store
