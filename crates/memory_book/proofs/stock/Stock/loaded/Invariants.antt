use Rattle.std.proofs.Common.{take}
use Rattle.memory_book.specs.MemoryStock.{LoadsRows}
use Rattle.memory_book.proofs.stock.Stock.loaded.Given as goal

-- the rows so far are loaded
abbrev pub invariant-loop-row : goal.invariant-loop-row
invariant-loop-row l =
    LoadsRows l.fn.self (record { places = l.places }) (take l.row-index l.rows)
