use Rattle.memory_book.proofs.CellLemmas.{stock_at-put}
use Rattle.memory_book.proofs.stock.Stock.put.Goals as goal

-- what is inserted is found
pub returns : goal.returns
returns c = record {
  put =
      stock_at-put c.args.self.now (record { places = c.insert.new.self }) c.args.cell.now c.args.held
      c.in-Ok.ensures.updates;
}
