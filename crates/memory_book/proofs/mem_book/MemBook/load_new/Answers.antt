use Rattle.std.proofs.Common.{◌+◌, Some, None, refl, ap, ◌∙◌, position}
use Rattle.std.specs.Option.{option_copied}
use Rattle.commands.specs.declared.replies.Refusal.TheVariants.{BelowHeld}
use Rattle.ledger.specs.Answer.{asker}
use Rattle.memory_book.specs.MemoryStock.{is_below_in}
use Rattle.memory_book.proofs.GrowthLemmas.{carried_out-refused}
use Rattle.memory_book.proofs.LoadLemmas.{answer-new}
use Rattle.memory_book.proofs.mem_book.MemBook.load_new.Goals as goal

-- a row is below what is held
pub returns-in-Some : goal.returns-in-Some
returns-in-Some c s here none =
    let m = c.args.self.now in
    let batch = c.args.batch.now in
    carried_out-refused m s (option_copied c.args.ask) _ (BelowHeld (c.in-Some.place + 1)) here
    (answer-new m s (asker (option_copied c.args.ask)) batch.name batch.rows (Some c.in-Some.place) here none
    (c.in-Some.ensures.first ∙ ap (position (is_below_in m.stock)) c.rows.ensures.rows)) _ refl

-- no row is below what is held, so the rules allow the load
pub returns-in-None : goal.returns-in-None
returns-in-None c s here none =
    let m = c.args.self.now in
    let batch = c.args.batch.now in
    c.load_fitting.ensures s here
    (answer-new m s (asker (option_copied c.args.ask)) batch.name batch.rows None here none
    (c.in-None.ensures.first ∙ ap (position (is_below_in m.stock)) c.rows.ensures.rows))
