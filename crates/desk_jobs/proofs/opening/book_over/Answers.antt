-- What the opening leaves of the store, and why it failed.
use Rattle.std.proofs.Common.{◌≡◌, true, false}
use Rattle.desk_jobs.proofs.EndLemmas.{unmade, unopened}
use Rattle.desk_jobs.proofs.ReasonLemmas.{opens_book}
use Rattle.desk_jobs.proofs.opening.book_over.Goals as goal

-- the book has the connection of what was opened
pub returns-in-Ok-into_book-clause-opened : goal.returns-in-Ok-into_book-clause-opened
returns-in-Ok-into_book-clause-opened g c =
    opens_book g.S.Store c.args.conn c.in-Ok.opened c.in-Ok-into_book.book c.in-Ok.ensures.opens c.in-Ok-into_book.ensures.made
    c.new_desk_may_act.ensures.law

pub returns-in-Err-clause-failed : goal.returns-in-Err-clause-failed
returns-in-Err-clause-failed g c =
    unopened c.reopenings.ensures.reopens g.S.Store c.args.conn c.in-Err.conn c.in-Err.fault c.end_of_opening.result c.end_of_opening.ensures.end c.end_of_opening.ensures.bad
    c.in-Err.ensures.fails

-- no book is made of tables of the version before the newest
pub returns-in-Err-into_book-clause-failed : goal.returns-in-Err-into_book-clause-failed
returns-in-Err-into_book-clause-failed g c =
    let failed = c.in-Err-into_book in
    let end = c.end_of_opening-in-Err-into_book in
    unmade c.reopenings.ensures.reopens g.S.Store c.args.conn c.in-Ok.opened failed.opened c.into_store.result failed.fault end.result end.ensures.end end.ensures.bad
    c.in-Ok.ensures.opens (λ outside newest. (let never : false ≡ true = failed.ensures.ready outside newest in cc)) failed.ensures.unmade
    c.into_store.ensures
