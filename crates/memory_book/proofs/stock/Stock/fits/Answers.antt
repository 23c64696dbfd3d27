use Rattle.std.proofs.Common.{◌≡◌, ap, ◌∙◌, rules, tests}
use Rattle.std.specs.List.{list_all}
use Rattle.std.proofs.lemmas.Iterator.Consumers.{YieldsList-from_first}
use Rattle.std.proofs.lemmas.Iterator.Search.{all_from_yields_List}
use Rattle.allotment.specs.Cells.{cells_of}
use Rattle.memory_book.specs.MemoryStock.{has_free_in}
use Rattle.memory_book.proofs.stock.Stock.fits.Goals as goal

-- all cells of the want are checked
pub returns : goal.returns
returns c =
    let stock = c.args.self.now in
    let want = c.args.want.now in
    let count : c.from-count.result ≡ want.count = cc in
    record {
      fits =
          all_from_yields_List (has_free_in stock c.from-count.result) _ _ c.all.result c.all.ensures.ran
          (YieldsList-from_first (λ x. x) (λ cells. cells) (cells_of want) cc)
          (λ x b q k. search (rules, tests))
          ∙ ap (λ n. list_all (has_free_in stock n) (cells_of want)) count;
    }
