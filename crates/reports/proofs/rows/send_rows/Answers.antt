-- The rows are written one after another, until the source has none left or a fault comes.
use Rattle.std.proofs.Common.{arith, subst}
use Rattle.std.proofs.lemmas.Result.{err_from_is_err_and}
use Rattle.saga_core.specs.RowSources.{Hands}
use Rattle.reports.proofs.RowLemmas.{written_all, written_less, written_more, written_part}
use Rattle.reports.proofs.TakeLemmas.{given_none, given_one, none_left, takes_fault}
use Rattle.reports.proofs.rows.send_rows.Goals as goal

-- one more row was returned and written
pub loop-row-preserved : goal.loop-row-preserved
loop-row-preserved g c = record {
  written = written_more c.loop-row.invariant.written g.met.R.RowSource.joins
      (record { kept = c.next_row.ensures.kept; sound = c.next_row.ensures.sound; reason = c.in_ok-row.ensures.reason })
      (g.R.RowSource.rests c.next_row.new.self) c.in_ok-row.ensures.next c.in-Some.is c.in_ok-send_row.ensures.sends;
  given = omega (arith, given_one _ _ c.in_ok-row.ensures.counted c.in-Some.is, c.loop-row.invariant.given);
}

-- the source failed
pub returns-in_err-row : goal.returns-in_err-row
returns-in_err-row g c =
    let failed = err_from_is_err_and c.from_residual.result c.from_residual.ensures.1 in
    record {
      writes = written_less c.loop-row.invariant.written g.met.R.RowSource.joins
          (takes_fault g.R.RowSource c.from_residual.result failed.0 _ failed.1 failed.2 c.next_row.ensures.kept c.next_row.ensures.sound c.in_err-row.ensures.reason)
          c.from_residual.ensures.0;
    }

-- a prefix of the bytes of a row was written
pub returns-in_err-send_row : goal.returns-in_err-send_row
returns-in_err-send_row g c = record {
  writes = written_part c.loop-row.invariant.written g.met.R.RowSource.joins
      (record { kept = c.next_row.ensures.kept; sound = c.next_row.ensures.sound; reason = c.in_ok-row.ensures.reason })
      (g.R.RowSource.rests c.next_row.new.self) c.in_ok-row.ensures.next c.in-Some.is c.in_err-send_row.ensures.sends _ c.from_residual-in_err-send_row.ensures.1;
}

-- all rows were written
pub returns : goal.returns
returns g c = record {
  writes = written_all c.loop-row.invariant.written g.met.R.RowSource.joins
      (record { kept = c.next_row.ensures.kept; sound = c.next_row.ensures.sound; reason = c.in_ok-row.ensures.reason })
      (λ sound rows rest. none_left (g.R.RowSource.rests c.next_row.new.self) rows (subst (Hands (g.R.RowSource.rests c.loop-row.rows) (g.R.RowSource.rests c.next_row.new.self)) c.in_default.is (c.in_ok-row.ensures.next sound) rows rest))
      (omega (arith, given_none _ _ c.in_ok-row.ensures.counted c.in_default.is, c.loop-row.invariant.given));
}
