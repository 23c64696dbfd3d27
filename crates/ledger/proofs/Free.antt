-- How many places of a cell are allotted and not held: whether a want fits, and what a batch leaves. For each desk that
-- stores how many are free.
use Rattle.std.proofs.Common.{◌≡◌, ℕ, ◌+◌, ◌-◌, ◌≤◌, List, arith, Bool, false, nat_le, Some, option_map, unwrap_or}
use Rattle.std.proofs.lemmas.Bool.{le-leb, lt-leb, leb-true, leb-false}
use Rattle.std.specs.List.{list_all}
use Rattle.allotment.specs.Cells.{cells_of}
use Rattle.allotment.specs.Want.{Wanted}
use Rattle.allotment.specs.declared.cells.Cell.{Cell}
use Rattle.ledger.specs.Ledger.{Event, allotment, held, has_free, fits, IsLegal}
use Rattle.ledger.proofs.PlacesMoved.{held_within}

-- so many of the places that are not held: with what is held they are not above what is allotted
room : (held_now count places : ℕ) → held_now ≤ places
    → nat_le (held_now + count) places ≡ nat_le count (places - held_now)
room held_now count places within = grind (arith, leb-true, le-leb, leb-false, lt-leb)

-- so many places of a cell are free if as many of its allotment are not held
pub has_free-by_held : (l : List Event) (count : ℕ) (x : Cell) → IsLegal l
    → has_free l count x
    ≡ unwrap_or (option_map (λ n. nat_le count (n - held l x)) (allotment l x)) false
has_free-by_held l count x legal = grind (arith, room, held_within)

-- a want fits if each of its cells passes a test for so many free places
pub fits-by_test : (l : List Event) (w : Wanted) (test : Cell → Bool)
    → ((x : Cell) → test x ≡ has_free l w.count x)
    → list_all test (cells_of w) ≡ fits l (Some w)
fits-by_test l w test same = grind arith
