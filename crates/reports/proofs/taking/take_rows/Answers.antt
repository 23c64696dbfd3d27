-- The rows are taken one after another, until none is left or a fault comes.
use Rattle.std.proofs.Common.{arith, rules}
use Rattle.std.proofs.lemmas.List.{length_push}
use Rattle.reports.proofs.TakeLemmas.{taken_more, taken_none, takes_none, takes_twice}
use Rattle.reports.proofs.taking.take_rows.Goals as goal

-- none was taken
pub loop-round-init : goal.loop-round-init
loop-round-init g c = grind (arith, taken_none, takes_none)

-- one more was
pub loop-round-preserved : goal.loop-round-preserved
loop-round-preserved g c =
    let source = g.R.RowSource in
    let at = c.loop-round in
    record {
      many = search (rules, arith, length_push);
      read = λ sound all remain. grind (arith, taken_more, c.next_row.ensures.sound, c.in_ok-row.ensures.next);
      takes = takes_twice source g.met.R.RowSource.joins at.invariant.takes
          (record { kept = c.next_row.ensures.kept; sound = c.next_row.ensures.sound; reason = c.in_ok-row.ensures.reason });
    }
