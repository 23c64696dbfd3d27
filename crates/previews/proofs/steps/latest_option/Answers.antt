-- The items are read to the last one.
use Rattle.std.proofs.Common.{arith}
use Rattle.reports.proofs.TakeLemmas.{given_one, takes_none, takes_twice}
use Rattle.previews.proofs.LatestLemmas.{reads_all, reads_more, reads_none}
use Rattle.previews.proofs.steps.latest_option.Goals as goal

-- none was read
pub loop-item-init : goal.loop-item-init
loop-item-init g c = grind (arith, reads_none, takes_none)

-- one more was
pub loop-item-preserved : goal.loop-item-preserved
loop-item-preserved g c =
    let source = g.R.RowSource in
    let at = c.loop-item in
    let after = c.next_row.new.self in
    record {
      read = λ sound all remain. grind (arith, reads_more, c.next_row.ensures.sound, c.in_ok-item.ensures.next);
      given = omega (arith, given_one _ _ c.in_ok-item.ensures.counted c.in-Some.is, at.invariant.given);
      takes = takes_twice source g.met.R.RowSource.joins at.invariant.takes
          (record { kept = c.next_row.ensures.kept; sound = c.next_row.ensures.sound; reason = c.in_ok-item.ensures.reason });
    }

-- there is no other
pub returns-clause-latest : goal.returns-clause-latest
returns-clause-latest g c sound all remain = grind (arith, reads_all, c.next_row.ensures.sound, c.in_ok-item.ensures.next)

pub returns-clause-rest : goal.returns-clause-rest
returns-clause-rest g c sound all remain = grind (arith, reads_all, c.next_row.ensures.sound, c.in_ok-item.ensures.next)
