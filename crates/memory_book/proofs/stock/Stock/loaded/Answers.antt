use Rattle.std.proofs.Common.{◌++◌, ◌∷◌, [], take, ap, sym, ◌∙◌, if◌then◌else◌, Some}
use Rattle.std.proofs.lemmas.List.{take_more}
use Rattle.allotment.specs.Cells.{is_cell}
use Rattle.saga_core.specs.Views.{places_said}
use Rattle.memory_book.specs.MemoryStock.{stock_at}
use Rattle.memory_book.proofs.CellLemmas.{stock_at-put}
use Rattle.memory_book.proofs.RowLemmas.{loaded_at, loaded_at-push}
use Rattle.memory_book.proofs.stock.Stock.loaded.Goals as goal

-- one more row is loaded
pub loop-row-preserved : goal.loop-row-preserved
loop-row-preserved c x =
    let stock = c.args.self.now in
    let rows = c.args.rows.now in
    let i = c.loop-row.row-index in
    let row = c.row-item.result in
    let said = places_said c.set_to.result in
    stock_at-put (record { places = c.loop-row.places }) (record { places = c.insert.new.self })
    c.cell.result c.set_to.result c.in_ok-insert.ensures.updates x
    ∙ ap (λ y. if is_cell x y then Some said else stock_at (record { places = c.loop-row.places }) x)
    c.cell.ensures
    ∙ ap (λ o. if is_cell x row.cell then Some said else o) (c.loop-row.invariant x)
    ∙ loaded_at-push stock (take i rows) row x said c.set_to.ensures.set
    ∙ ap (λ rs. loaded_at stock rs x)
    (sym (take_more rows i row c.loop-row-test.true
    ∙ ap (λ r. take i rows ++ r ∷ []) (sym c.row-item.is)))
