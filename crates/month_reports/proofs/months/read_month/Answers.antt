-- Cells are read while each goes on with the month of the one before it.
-- More than 60 lines: a loop, three ways out and two clauses.
use Rattle.std.proofs.Common.{◌≡◌, ◌∙◌, ◌+◌, ◌≤◌, ◌++◌, ◌∷◌, [], ap, arith, false, length, length-append, rules, subst, sym, true}
use Rattle.allotment.specs.Nights.{date_of}
use Rattle.reports.proofs.TakeLemmas.{ends, goes, takes_memory, takes_none, takes_twice}
use Rattle.saga_core.specs.RowSources.{Hands}
use Rattle.month_reports.specs.Months.{AskedRest, goes_on}
use Rattle.month_reports.proofs.DayLemmas.{day_from_one}
use Rattle.month_reports.proofs.MonthLemmas.{at_most, Begins, begins_more, begins_one, hands_last, hands_month, later_day, Reading, reads_more, reads_one}
use Rattle.month_reports.proofs.months.read_month.Goals as goal

-- the first cell was read
pub loop-cells-init : goal.loop-cells-init
loop-cells-init g c = grind (arith, begins_one, reads_one, day_from_one, takes_none)

-- one more cell goes on with the month
pub loop-cells-preserved : goal.loop-cells-preserved
loop-cells-preserved g c =
    let source = g.R.RowSource in
    let at = c.loop-cells in
    let cells = at.cells.items in
    let row = c.in-Some.row in
    let all = AskedRest c.args.filter.now (source.rests c.args.rows.now) in
    let left = AskedRest c.args.filter.now (source.rests at.rows) in
    let after = AskedRest c.args.filter.now (source.rests c.next_asked.new.rows) in
    let is : c.add-in-Some.new.cells.items ≡ cells ++ row ∷ [] = c.in_ok-add-2.ensures.added in
    let follows : goes_on at.last.0 row.0 ≡ true = search rules in
    let long : length c.add-in-Some.new.cells.items ≡ length cells + 1 = ap length is ∙ length-append cells (row ∷ []) in
    let later = later_day at.last.0 row.0 (length cells) follows at.invariant.days in
    record {
      begun = subst (λ cs. Begins cs row.0) (sym is) (begins_more cells at.last.0 row at.invariant.begun follows);
      reading = λ sound. subst (Reading all after c.args.first.now) (sym is)
          (reads_more all left after c.args.first.now cells row (at.invariant.reading (c.next_asked.ensures.takes.sound sound))
          (subst (Hands left after) c.in-Some.is (c.in_ok-row.ensures.next sound)));
      few = grind (arith, at_most);
      days = subst (λ n. n ≤ (date_of row.0.night).1.1) (sym long) later;
      given = omega (arith, at.invariant.given, c.in_ok-row.ensures.counted);
      takes = takes_twice source g.met.R.RowSource.joins at.invariant.takes (goes source c.in_ok-row.ensures.takes);
    }

-- the next cell begins another month
pub returns-then-not-goes_on-clause-month : goal.returns-then-not-goes_on-clause-month
returns-then-not-goes_on-clause-month g c sound =
    let source = g.R.RowSource in
    let at = c.loop-cells in
    let row = c.in-Some.row in
    let all = AskedRest c.args.filter.now (source.rests c.args.rows.now) in
    let left = AskedRest c.args.filter.now (source.rests at.rows) in
    let after = AskedRest c.args.filter.now (source.rests c.next_asked.new.rows) in
    let apart : goes_on at.last.0 row.0 ≡ false = search rules in
    hands_month all left after c.args.first.now at.cells.items at.last.0 row
    (at.invariant.reading (c.next_asked.ensures.takes.sound sound)) at.invariant.begun
    (subst (Hands left after) c.in-Some.is (c.in_ok-row.ensures.next sound)) apart

pub returns-then-not-goes_on-clause-takes : goal.returns-then-not-goes_on-clause-takes
returns-then-not-goes_on-clause-takes g c =
    let source = g.R.RowSource in
    ends source (takes_twice source g.met.R.RowSource.joins c.loop-cells.invariant.takes (goes source c.in_ok-row.ensures.takes))

-- out of memory for one more cell
pub returns-in_err-add-2-clause-takes : goal.returns-in_err-add-2-clause-takes
returns-in_err-add-2-clause-takes g c =
    let source = g.R.RowSource in
    takes_memory source (takes_twice source g.met.R.RowSource.joins c.loop-cells.invariant.takes (goes source c.in_ok-row.ensures.takes))
    _ c.from_residual-in_err-add-2.ensures.1

-- no cell is left
pub returns-clause-month : goal.returns-clause-month
returns-clause-month g c sound =
    let source = g.R.RowSource in
    let at = c.loop-cells in
    let all = AskedRest c.args.filter.now (source.rests c.args.rows.now) in
    let left = AskedRest c.args.filter.now (source.rests at.rows) in
    let after = AskedRest c.args.filter.now (source.rests c.next_asked.new.rows) in
    hands_last all left after c.args.first.now at.cells.items at.last.0
    (at.invariant.reading (c.next_asked.ensures.takes.sound sound)) at.invariant.begun
    (subst (Hands left after) c.in_default.is (c.in_ok-row.ensures.next sound))
