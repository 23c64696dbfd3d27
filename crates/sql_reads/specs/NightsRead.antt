-- Nights of a product that were read together, and the cells among them.
use Rattle.std.specs.Prelude.{◌≡◌, ◌<◌, ◌≤◌, ◌+◌, ◌==◌, ℕ, List, find, option_map, unwrap_or}
use Rattle.allotment.specs.Cells.{kind_number}
use Rattle.allotment.specs.Places.{held_of}
use Rattle.allotment.specs.Want.{Wanted, wanted}
use Rattle.allotment.specs.declared.cells.Cell.{Cell}
use Rattle.allotment.specs.declared.places.Held.{Held}
use Rattle.ledger.specs.Answer.{State}
use Rattle.saga_core.specs.Views.{ShowsCells}
use Rattle.sql_reads.specs.declared.nights_read.NightsRead.{NightsRead}

-- so many nights of a cell's product, from the cell's on, as a want of one place
abbrev pub nights_from : Cell → ℕ → Wanted
nights_from x count = wanted x.kind x.supplier x.product x.night count 1

-- the cell is of the same product, so many nights later
pub record IsLater (first : Cell) (nights : ℕ) (x : Cell) : Type 0 where
  pub kind : kind_number x.kind ≡ kind_number first.kind
  pub supplier : x.supplier ≡ first.supplier
  pub product : x.product ≡ first.product
  pub night : x.night ≡ first.night + nights

-- the cell is one of these nights
abbrev pub IsAmong : NightsRead → Cell → Type 0
IsAmong read x = (nights : ℕ) × IsLater read.first nights x × (nights < read.count)

-- 1 to 64 nights were asked for
abbrev pub AreFew : NightsRead → Type 0
AreFew read = (1 ≤ read.count) × (read.count ≤ 64)

-- the places are those that the ledger shows of these nights
abbrev pub AreRead : State → NightsRead → Type 0
AreRead s read = ShowsCells (nights_from read.first read.count) s read.places.items

-- how many places of a night are held, by nights with their places; none of a night that is not listed
abbrev pub held_at : ℕ → List (ℕ × Held) → ℕ
held_at night nights =
    unwrap_or (option_map (λ (n : ℕ × Held). held_of n.1) (find (λ (n : ℕ × Held). n.0 == night) nights)) 0
