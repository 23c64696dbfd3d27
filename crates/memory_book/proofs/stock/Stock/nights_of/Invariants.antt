use Rattle.std.proofs.Common.{◌≡◌, ◌++◌, map, filter_map}
use Rattle.allotment.specs.Cells.{cells_of}
use Rattle.saga_core.specs.Views.{night_said}
use Rattle.memory_book.specs.MemoryStock.{stock_at}
use Rattle.memory_book.proofs.RowLemmas.{shown_at}
use Rattle.memory_book.proofs.stock.Stock.nights_of.Given as goal

-- the nights so far, and those that are left, are all that are shown
abbrev pub invariant-loop-cell : goal.invariant-loop-cell
invariant-loop-cell l =
    map night_said l.nights.items ++ filter_map (shown_at (stock_at l.self)) l.cell-iterator
    ≡ filter_map (shown_at (stock_at l.self)) (cells_of l.want)
