use Rattle.std.proofs.Common.{◌≡◌, true}
use Rattle.allotment.specs.Cells.{cells_of}
use Rattle.allotment.specs.declared.cells.Cell.{Cell}
use Rattle.memory_book.specs.MemoryStock.{stock_at, changed_by}
use Rattle.memory_book.proofs.CellLemmas.{are_apart, changed}
use Rattle.memory_book.proofs.stock.Stock.change.Given as goal

-- the cells that are left are distinct, and their changes complete those of the want
abbrev pub invariant-loop-cell : goal.invariant-loop-cell
invariant-loop-cell l = record {
  apart : are_apart l.cell-iterator ≡ true;
  changes : (x : Cell) → changed (changed_by l.change) l.count l.cell-iterator (stock_at l.self) x
      ≡ changed (changed_by l.change) l.count (cells_of l.want) (stock_at l.fn.self) x;
}
