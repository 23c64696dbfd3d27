use Rattle.std.proofs.Common.{Some, None, ap, ◌∙◌, find}
use Rattle.std.specs.Option.{option_copied}
use Rattle.ledger.specs.Ledger.{batches_named}
use Rattle.memory_book.proofs.LoadLemmas.{has_name, named-kept, none_first, carried_out-known}
use Rattle.memory_book.proofs.mem_book.MemBook.load.Goals as goal

-- the name is known
pub returns-in-Some : goal.returns-in-Some
returns-in-Some c s here =
    let m = c.args.self.now in
    let batch = c.args.batch.now in
    carried_out-known m s (option_copied c.args.ask) batch.name batch.rows c.in-Some.known.now.rows
    c.loaded_again.result here
    (named-kept m s here batch.name (Some c.in-Some.known.now)
    (c.in-Some.ensures.first ∙ ap (λ n. find (has_name n) m.batches.items) c.name.ensures.name))
    c.loaded_again.ensures.again

-- the name is new
pub returns-in-None : goal.returns-in-None
returns-in-None c s here =
    let m = c.args.self.now in
    let name = c.args.batch.now.name in
    c.load_new.ensures s here
    (none_first (batches_named s.ledger name) (named-kept m s here name None
    (c.in-None.ensures.first ∙ ap (λ n. find (has_name n) m.batches.items) c.name.ensures.name)))
