-- The holders of a cell that remain in a source.
use Rattle.std.specs.Prelude.{List, map}
use Rattle.sqlite.specs.Store.{Ghosts}
use Rattle.sqlite.specs.Held.{Held}
use Rattle.reports.specs.declared.holders.Holder.{Holder}
use Rattle.sql_lists.specs.HolderLists.{HoldersRest}
use Rattle.sql_lists.specs.declared.holders.HolderFound.{HolderFound}

-- the option that is found of a holder
abbrev pub found_of : Holder → HolderFound
found_of h = record { journey = h.journey; place = h.step; opt = h.option; places = h.places }

module _ {S : Type 0} (g : Ghosts S) where
  -- these holders remain
  abbrev pub HoldersLeft : Held S → List Holder → Type 0
  HoldersLeft h holders = HoldersRest g h (map found_of holders)

  -- some holders remain
  abbrev pub AreHoldersRest : Held S → Type 0
  AreHoldersRest h = (holders : List Holder) × HoldersLeft h holders
