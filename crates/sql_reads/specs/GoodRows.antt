-- Which rows of stock a legal ledger calls for: each tells a night or a cell, with its places.
use Rattle.std.specs.Prelude.{◌≡◌, ◌≤◌, ℕ, IsTrue}
use Rattle.allotment.specs.Cells.{kind_number}
use Rattle.allotment.specs.Limits.{is_code, is_night, most_places}
use Rattle.allotment.specs.declared.codes.Kind.{Kind}
use Rattle.commands.specs.declared.replies.Fault.{Fault}
use Rattle.commands.specs.declared.replies.Fault.TheVariants.{Memory}
use Rattle.desk_sql.specs.Rows.{StockRow}
use Rattle.saga_core.specs.Views.{Places}

-- out of memory
abbrev pub IsMemory : Fault → Type 0
IsMemory f = f ≡ Memory

-- at most as many places are allotted as may be, and no more of them are free
pub record ArePlaces (places : Places) : Type 0 where
  pub few : places.allot ≤ most_places
  pub free : places.free ≤ places.allot

-- the day is a night, and has such places
pub record IsGoodNight (n : ℕ × Places) : Type 0 where
  pub night : IsTrue (is_night n.0)
  pub places : ArePlaces n.1

-- the row is one of a cell, with such places
pub record IsGoodStock (r : StockRow) : Type 0 where
  pub kind : Kind
  pub kind_is : kind_number kind ≡ r.kind
  pub supplier : IsTrue (is_code r.supplier)
  pub product : IsTrue (is_code r.product)
  pub night : IsTrue (is_night r.night)
  pub places : ArePlaces (record { allot = r.allot; free = r.free })
