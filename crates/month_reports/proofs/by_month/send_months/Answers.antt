-- The months are written one after another, until no cell that is asked for is left or a fault comes.
-- More than 60 lines: a loop and three ways out.
use Rattle.std.proofs.Common.{arith, refl, subst, Option}
use Rattle.reports.proofs.RowLemmas.{starts, written_all, written_less, written_more, written_part}
use Rattle.reports.proofs.TakeLemmas.{goes, takes_err, takes_none}
use Rattle.month_reports.specs.Months.{asked_of, AskedRest, MonthsRest, Places}
use Rattle.month_reports.proofs.MonthLemmas.{first_read}
use Rattle.month_reports.proofs.by_month.send_months.Goals as goal

-- the first cell was read
pub loop-next-init : goal.loop-next-init
loop-next-init g c =
    let source = g.R.RowSource in
    let f = c.args.filter.now in
    record {
      counted = omega (arith, c.in_ok-next.ensures.counted);
      small = c.next_asked.ensures.few;
      written = record {
        so_far = λ sound all rest.
            starts
            (first_read (AskedRest f (source.rests c.args.rows.now)) (AskedRest f (source.rests c.next_asked.new.rows)) c.in_ok-next.next
            (asked_of f all) (all, rest, refl) (c.in_ok-next.ensures.next sound));
        takes = goes source c.in_ok-next.ensures.takes;
      };
    }

-- one more month was written
pub loop-next-preserved : goal.loop-next-preserved
loop-next-preserved g c =
    let source = g.R.RowSource in
    let at = c.loop-next in
    record {
      counted = grind arith;
      small = c.in_ok-month.ensures.given;
      written = written_more (rw c.in-Some.is at at.invariant.written) g.met.R.RowSource.joins (goes source c.in_ok-month.ensures.takes)
          (MonthsRest (AskedRest c.args.filter.now (source.rests c.read_month.new.rows)) c.in_ok-month.month.after) c.in_ok-month.ensures.month refl
          c.in_ok-send_month.ensures.sends;
    }

-- the source failed, or out of memory for a month
pub returns-in_err-month : goal.returns-in_err-month
returns-in_err-month g c = record {
  writes = written_less c.loop-next.invariant.written g.met.R.RowSource.joins
      (takes_err g.R.RowSource c.in_err-month.ensures.takes c.from_residual-in_err-month.result c.from_residual-in_err-month.ensures.1)
      c.from_residual-in_err-month.ensures.0;
}

-- a prefix of the text of a month was written
pub returns-in_err-send_month : goal.returns-in_err-send_month
returns-in_err-send_month g c =
    let source = g.R.RowSource in
    let at = c.loop-next in
    record {
      writes = written_part (rw c.in-Some.is at at.invariant.written) g.met.R.RowSource.joins (goes source c.in_ok-month.ensures.takes)
          (MonthsRest (AskedRest c.args.filter.now (source.rests c.read_month.new.rows)) c.in_ok-month.month.after) c.in_ok-month.ensures.month refl
          c.in_err-send_month.ensures.sends _ c.from_residual-in_err-send_month.ensures.1;
    }

-- all months were written
pub returns : goal.returns
returns g c =
    let at = c.loop-next in
    let left = AskedRest c.args.filter.now (g.R.RowSource.rests at.rows) in
    record {
      writes = written_all at.invariant.written g.met.R.RowSource.joins (takes_none g.R.RowSource g.met.R.RowSource.stays at.rows)
          (λ sound months rest. subst (λ (found : Option Places). MonthsRest left found months) c.in_default.is rest) (omega (arith, at.invariant.counted));
    }
