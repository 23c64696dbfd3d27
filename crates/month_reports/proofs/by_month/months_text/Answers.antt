-- The report is written in its parts: its head, its months and its ending.
use Rattle.std.proofs.Common.{◌∙◌}
use Rattle.reports.proofs.PartLemmas.{ending_cut, head_cut, none_cut, rows_cut}
use Rattle.reports.proofs.TakeLemmas.{takes_none}
use Rattle.month_reports.specs.MonthReports.{months_end}
use Rattle.month_reports.proofs.by_month.months_text.Goals as goal

-- a prefix of the head was written
pub returns-in_err-send : goal.returns-in_err-send
returns-in_err-send g c = record {
  writes = head_cut _ _ (months_end c.args.report) _ (c.as_bytes.ensures.value ∙ c.head_of.ensures.head) c.in_err-send.ensures.sends
      (takes_none g.R.RowSource g.met.R.RowSource.stays c.args.rows.now) _ c.from_residual.ensures.1;
}

-- a prefix of the months was written
pub returns-in_err-count : goal.returns-in_err-count
returns-in_err-count g c = record {
  writes = rows_cut _ _ (months_end c.args.report) _ (c.as_bytes.ensures.value ∙ c.head_of.ensures.head) c.in_ok-send.ensures.sends.sent
      c.in_err-count.ensures.writes _ c.from_residual-in_err-count.ensures.1;
}

-- a prefix of the ending was written
pub returns-in_err-send-2 : goal.returns-in_err-send-2
returns-in_err-send-2 g c = record {
  writes = ending_cut _ _ (months_end c.args.report) _ (c.as_bytes.ensures.value ∙ c.head_of.ensures.head) c.in_ok-count.ensures.writes
      (c.ending_of.ensures.ending c.in_ok-count.count) c.in_ok-send.ensures.sends.sent c.in_err-send-2.ensures.sends _ c.from_residual-in_err-send-2.ensures.1;
}

-- all parts were written
pub returns : goal.returns
returns g c = record {
  writes = none_cut _ _ (months_end c.args.report) _ (c.as_bytes.ensures.value ∙ c.head_of.ensures.head) c.in_ok-count.ensures.writes
      (c.ending_of.ensures.ending c.in_ok-count.count) c.in_ok-send.ensures.sends.sent c.in_ok-send-2.ensures.sends;
}
