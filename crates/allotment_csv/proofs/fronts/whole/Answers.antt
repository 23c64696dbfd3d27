-- More than 60 lines: four ways out and two clauses.
use Rattle.std.proofs.Common.{◌≡◌, sym, ap, subst, ◌∙◌, Some, None, length, ◌+◌, Err}
use Rattle.allotment.specs.Making.{first_fault}
use Rattle.commands.specs.Batches.{repeat_among}
use Rattle.allotment_csv.specs.Files.{in_csv, rows_of, rows_faults}
use Rattle.allotment_csv.specs.Fronts.{IsFront}
use Rattle.allotment_csv.specs.Results.{IsTold}
use Rattle.allotment_csv.proofs.FrontLemmas.{whole_again, whole_stopped, whole_empty, whole_good, whole_of_batch, none_if_empty, some_if_not, none_if_not}
use Rattle.allotment_csv.proofs.fronts.whole.Goals as goal

-- a cell is repeated
pub returns-in-Some-clause-whole : goal.returns-in-Some-clause-whole
returns-in-Some-clause-whole c all is =
    let rows = c.args.front.rows.items in
    let again : repeat_among rows ≡ Some c.in-Some.place
    = ap repeat_among (sym c.deref.ensures.value) ∙ sym c.in_ok-place.ensures.repeat ∙ c.in-Some.is in
    subst (λ f. IsTold (first_fault (rows_of all) (rows_faults all)) f) (sym c.in_row.ensures)
    (whole_again all rows c.args.front.wrong c.in-Some.place is again)

-- a record is no row
pub returns-in-Some-wrong-clause-whole : goal.returns-in-Some-wrong-clause-whole
returns-in-Some-wrong-clause-whole c all is =
    let rows = c.args.front.rows.items in
    let once : repeat_among rows ≡ None
    = ap repeat_among (sym c.deref.ensures.value) ∙ sym c.in_ok-place.ensures.repeat
    ∙ none_if_not c.in_ok-place.field-0 c.in_default.not-Some in
    let count : length rows ≡ c.len.result
    = ap length (sym c.deref.ensures.value) ∙ c.deref.ensures.len ∙ sym c.len.ensures in
    subst (λ f. IsTold (first_fault (rows_of all) (rows_faults all)) f) (sym c.in_row-in-Some-wrong.ensures)
    (whole_stopped all rows c.in-Some-wrong.cause (subst (IsFront all rows) c.in-Some-wrong.is is) once
    ∙ ap (λ n. Err (in_csv (n + 1) c.in-Some-wrong.cause)) count)

-- there is no row
pub returns-in-None-clause-whole : goal.returns-in-None-clause-whole
returns-in-None-clause-whole c all is =
    let rows = c.args.front.rows.items in
    let count : c.args.front.rows.len ≡ length rows
    = sym c.deref.ensures.len ∙ ap length c.deref.ensures.value in
    subst (λ f. IsTold (first_fault (rows_of all) (rows_faults all)) f) (sym c.in_row-in-None.ensures)
    (whole_empty all rows (subst (IsFront all rows) c.in-None.is is)
    (none_if_empty rows c.args.front.rows.len count (sym c.is_empty.ensures ∙ c.if-is_empty.true)))

-- nothing is wrong
pub returns-in-None-2-clause-whole : goal.returns-in-None-2-clause-whole
returns-in-None-2-clause-whole c all is =
    let rows = c.args.front.rows.items in
    let once : repeat_among rows ≡ None
    = ap repeat_among (sym c.deref.ensures.value) ∙ sym c.in_ok-place.ensures.repeat
    ∙ none_if_not c.in_ok-place.field-0 c.in_default.not-Some in
    let count : c.args.front.rows.len ≡ length rows
    = sym c.deref.ensures.len ∙ ap length c.deref.ensures.value in
    whole_good all rows (subst (IsFront all rows) c.in-None-2.is is) once
    (some_if_not c.args.front.rows.len (length rows) count (sym c.is_empty.ensures ∙ c.if-is_empty.false))

-- the rows make a batch
pub returns-in-None-2-clause-good : goal.returns-in-None-2-clause-good
returns-in-None-2-clause-good c all is =
    let rows = c.args.front.rows.items in
    let once : repeat_among rows ≡ None
    = ap repeat_among (sym c.deref.ensures.value) ∙ sym c.in_ok-place.ensures.repeat
    ∙ none_if_not c.in_ok-place.field-0 c.in_default.not-Some in
    let count : c.args.front.rows.len ≡ length rows
    = sym c.deref.ensures.len ∙ ap length c.deref.ensures.value in
    whole_of_batch all rows (subst (IsFront all rows) c.in-None-2.is is) once
    (some_if_not c.args.front.rows.len (length rows) count (sym c.is_empty.ensures ∙ c.if-is_empty.false))
