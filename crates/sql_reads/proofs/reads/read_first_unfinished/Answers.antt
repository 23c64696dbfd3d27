-- The row with the least number is that of the first journey.
use Rattle.std.proofs.Common.{◌≡◌, None, Some, sym, ap, ◌∙◌, rules, arith}
use Rattle.saga_core.specs.Views.{first_unfinished as first_shown}
use Rattle.sql_model.proofs.Readings.{unfinished_read}
use Rattle.sql_reads.proofs.ReadLemmas.{found_rows, query_fails, read_never, read_ok}
use Rattle.sql_reads.proofs.ReadJourneys.{brief_told, none_told, none_above}
use Rattle.sql_reads.proofs.ReadReasons.{unfinished_there, unfinished_above, have_texts, row_low, row_told}
use Rattle.sql_reads.proofs.reads.read_first_unfinished.Goals as goal

pub returns-in-Ok-None : goal.returns-in-Ok-None
returns-in-Ok-None g c =
    let after = c.min.result in
    read_ok (found_rows (rw c.in-Ok-None.field-0-is at c.in-Ok-None.ensures.queries)) (λ s desk at.
    sym (none_above s.ledger after c.args.after (search rules)
    (sym (none_told (first_shown s.ledger after) (unfinished_read at.tables s at.stands desk after None at.found)))))

pub returns-in-Some : goal.returns-in-Some
returns-in-Some g c =
    let after = c.min.result in
    let row = c.in-Ok-Some.found in
    read_ok (found_rows (rw c.in-Ok-Some.field-0-is at c.in-Ok-Some.ensures.queries)) (λ s desk at.
    brief_told (first_shown s.ledger after) row c.in-Some.brief (unfinished_read at.tables s at.stands desk after (Some row) at.found)
    c.in-Some.ensures.told ∙ ap (first_shown s.ledger) (search rules))

-- the row tells the journey
pub returns-in-Ok-Some : goal.returns-in-Ok-Some
returns-in-Ok-Some g c =
    let row = c.in-Ok-Some.found in
    read_never (found_rows (rw c.in-Ok-Some.field-0-is at c.in-Ok-Some.ensures.queries)) (λ s desk spelled _ at.
    row_told at.tables s at.stands spelled row (unfinished_there at.tables s at.stands spelled c.min.result row at.found) c.in-None.ensures.there)

-- no journey has so large a number
pub returns-then-after-gt-LARGEST : goal.returns-then-after-gt-LARGEST
returns-then-after-gt-LARGEST g c =
    let after = c.min.result in
    let row = c.in-Ok-Some.found in
    let top : after ≡ 9223372036854775807 = search rules in
    read_never (found_rows (rw c.in-Ok-Some.field-0-is at c.in-Ok-Some.ensures.queries)) (λ s desk spelled _ at.
    let low = row_low at.tables s at.stands spelled row (unfinished_there at.tables s at.stands spelled after row at.found) in
    let above = unfinished_above at.tables s at.stands spelled after row at.found in
    omega (arith, low, above, top))

pub returns : goal.returns
returns g c =
    query_fails c.in-Err.ensures.queries c.fault_of.ensures.memory
    (λ t s st desk spelled _. have_texts t s st spelled c.min.result)
