-- The change of the rows by one write, and its precondition.
use Rattle.std.specs.Prelude.{Result, OnOk, IsTrue}
use Rattle.sqlite.specs.Store.{Ghosts}
use Rattle.sqlite.specs.Held.{Held, state}
use Rattle.sqlite.specs.State.{HasCleanDisk}
use Rattle.sqlite.specs.declared.error.Error.{Error}
use Rattle.allotment.specs.Want.{Wanted}
use Rattle.desk_sql.specs.Calls.{MayRun, Makes}
use Rattle.desk_sql.specs.Rows.{Tables}
use Rattle.desk_sql.specs.Stock.{HaveFree, HaveRoom}
use Rattle.desk_sql.specs.declared.stock.NightRange.{NightRange}
use Rattle.sql_model.specs.Reading.{IsRangeOf}

module _ {S : Type 0} (g : Ghosts S) (old new : Held S) where
  -- in an open transaction, if the rows fit, a success changes them by `after`
  abbrev pub WritesOpen : {V : Type 0} → (Tables → Type 0) → Result V Error → (Tables → Tables) → Type 0
  WritesOpen Fits result after =
      HasCleanDisk (state g new) → (t : Tables) → MayRun (state g old) t → IsTrue (state g old).is_open → Fits t
      → OnOk result (Makes (state g old) (state g new) (after t))

-- each night of the want has its count of free places
abbrev pub HaveFreeFor : Wanted → Tables → Type 0
HaveFreeFor w t = (r : NightRange) → IsRangeOf r w → HaveFree r w.count t

-- each night of the want has room for its count of further places
abbrev pub HaveRoomFor : Wanted → Tables → Type 0
HaveRoomFor w t = (r : NightRange) → IsRangeOf r w → HaveRoom r w.count t
