-- Why a read of the desk fails.
use Rattle.std.specs.Prelude.{Result, IsErrOf}
use Rattle.sqlite.specs.Store.{Ghosts}
use Rattle.sqlite.specs.Held.{Held, state}
use Rattle.sqlite.specs.State.{HasCleanDisk}
use Rattle.commands.specs.declared.replies.Fault.{Fault}
use Rattle.commands.specs.declared.replies.Fault.TheVariants.{Store}
use Rattle.desk_sql.specs.declared.versions.Version.{Version}
use Rattle.desk_sql.specs.declared.versions.Version.TheVariants.{Two}
use Rattle.desk_sql.specs.Causes.{IsUp, HasFaulted}
use Rattle.ledger.specs.Answer.{State}
use Rattle.sql_model.specs.Keeping.{KeepsIn}
use Rattle.sql_model.specs.Spelling.{IsSpelled}
use Rattle.sql_model.specs.Standing.{IsDesk}

module _ {S : Type 0} (g : Ghosts S) (old new : Held S) where
  -- While the store returns what was written, and what the connection kept in tables of this version is a desk that fits: a
  -- fault of a store that was up says that its disk failed or refused meanwhile. A look at the rows never is one.
  abbrev pub FailsWhere : Version → {V : Type 0} → Result V Fault → (State → Type 0) → Type 0
  FailsWhere v result Fits =
      HasCleanDisk (state g new) → (s : State) → IsDesk s → IsSpelled s.ledger → KeepsIn v (state g old) s
      → Fits s → IsUp (state g old) → IsErrOf result Store → HasFaulted (state g old) (state g new)

  -- the same, of each desk
  abbrev pub FailsForReasonIn : Version → {V : Type 0} → Result V Fault → Type 0
  FailsForReasonIn v result =
      HasCleanDisk (state g new) → (s : State) → IsDesk s → IsSpelled s.ledger → KeepsIn v (state g old) s
      → IsUp (state g old) → IsErrOf result Store → HasFaulted (state g old) (state g new)

  -- in tables of the newest version
  abbrev pub FailsForReason : {V : Type 0} → Result V Fault → Type 0
  FailsForReason result = FailsForReasonIn Two result

  -- in tables of each version
  abbrev pub FailsForReasonEach : {V : Type 0} → Result V Fault → Type 0
  FailsForReasonEach result = (v : Version) → FailsForReasonIn v result
