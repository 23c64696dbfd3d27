-- The unfinished journeys are counted, and the other numbers are read.
use Rattle.std.proofs.Common.{refl, rules}
use Rattle.sql_reads.proofs.ReadLemmas.{read_both}
use Rattle.tables.proofs.ReadingLemmas.{looks_failed, looks_failed_then, looks_ok}
use Rattle.tables.proofs.books.TableBook.tally.Goals as goal

pub returns : goal.returns
returns g c = looks_ok refl (read_both c.in_ok-unfinished.ensures c.in_ok-meta.ensures.read) (λ s here both. (
    let number = both.0 here.counted here.known in
    let counts = both.1 in
    record { is_so = search rules; known = here.known; counted = number }))

pub returns-in_err-meta : goal.returns-in_err-meta
returns-in_err-meta g c = looks_failed_then (search rules) c.in_ok-unfinished.ensures c.in_err-meta.ensures.read

pub returns-in_err-unfinished : goal.returns-in_err-unfinished
returns-in_err-unfinished g c = looks_failed (search rules) c.in_err-unfinished.ensures
