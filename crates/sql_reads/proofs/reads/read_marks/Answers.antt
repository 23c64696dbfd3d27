-- The save-points at the positions that are found are those that stand.
use Rattle.std.proofs.Common.{◌≡◌, ◌∙◌, ◌==◌, ap, rules}
use Rattle.std.specs.List.{list_any}
use Rattle.ledger.specs.Ledger.{history}
use Rattle.sql_model.proofs.Readings.{marks_read}
use Rattle.sql_model.proofs.RecordRows.{marks_told}
use Rattle.sql_reads.proofs.ReadLemmas.{found_rows, query_fails, read_never, read_ok}
use Rattle.sql_reads.proofs.ReadReasons.{false_is_not_true}
use Rattle.sql_reads.proofs.GoodMarks.{good_marks}
use Rattle.sql_reads.proofs.reads.read_marks.Goals as goal

pub returns-in-Some : goal.returns-in-Some
returns-in-Some g c =
    let rows = c.in-Ok.found.items in
    let same : c.as_slice.result.now ≡ rows = search rules in
    read_ok (found_rows c.in-Ok.ensures.queries) (λ s desk at. marks_told (history s.ledger c.args.id) c.in-Some.marks
    (λ p. c.in-Some.ensures.says p ∙ ap (list_any (λ q. q == p)) same ∙ marks_read at.tables s at.stands desk c.args.id rows at.found p)
    c.in-Some.ensures.low)

-- a save-point was taken at each of these positions, so it is in range
pub returns-in-Ok : goal.returns-in-Ok
returns-in-Ok g c =
    let rows = c.in-Ok.found.items in
    read_never (found_rows c.in-Ok.ensures.queries) (λ s desk spelled _ at.
    false_is_not_true ((simp c.as_slice.ensures.value at c.in-None.ensures.there)
    (good_marks s.ledger desk.legal c.args.id rows (marks_read at.tables s at.stands desk c.args.id rows at.found))))

pub returns : goal.returns
returns g c = query_fails c.in-Err.ensures.queries c.fault_of.ensures.memory (λ t s st desk spelled _. tt)
