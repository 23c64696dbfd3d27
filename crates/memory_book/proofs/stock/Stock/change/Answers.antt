use Rattle.std.proofs.Common.{◌≡◌, ◌∷◌, ap, sym, ◌∙◌}
use Rattle.allotment.specs.Cells.{cells_of}
use Rattle.memory_book.specs.MemoryStock.{stock_at, changed_by}
use Rattle.memory_book.proofs.CellLemmas.{are_apart, apart-parts, changed, changed-step, cells_of-apart, none_changed}
use Rattle.memory_book.proofs.stock.Stock.change.Goals as goal

-- all cells of the want are left, and they are distinct
pub loop-cell-init : goal.loop-cell-init
loop-cell-init c =
    let want = c.args.want.now in
    let is : c.into_iter-cell-iterator.result ≡ cells_of want = cc in
    record {
      apart = ap are_apart is ∙ cells_of-apart want;
      changes = λ x.
          ap (λ cells. changed (changed_by c.args.change) c.from-count.result cells (stock_at c.args.self.now) x) is;
    }

-- the first of the cells that were left has changed
pub loop-cell-preserved : goal.loop-cell-preserved
loop-cell-preserved c =
    let n = c.from-count.result in
    let change = changed_by c.args.change in
    let cell = c.in-Some.cell in
    let rest = c.next.new.self in
    let old = c.loop-cell.self in
    let is : c.loop-cell.cell-iterator ≡ cell ∷ rest = c.in-Some.ensures.steps in
    let apart = apart-parts cell rest (ap are_apart (sym is) ∙ c.loop-cell.invariant.apart) in
    record {
      apart = apart.1;
      changes = λ x.
          changed-step change (none_changed c.args.change) n cell rest (stock_at old) (stock_at c.change_one.new.self) apart.0
          c.change_one.ensures.changed x
          ∙ ap (λ cells. changed change n cells (stock_at old) x) (sym is)
          ∙ c.loop-cell.invariant.changes x;
    }
