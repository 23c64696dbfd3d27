-- A report is written in its parts: its head, its rows and its ending.
use Rattle.std.proofs.Common.{length, refl}
use Rattle.std.specs.List.{flat_map}
use Rattle.reports.specs.Parts.{ending_text}
use Rattle.reports.proofs.PartLemmas.{ending_cut, head_cut, none_cut, rows_cut}
use Rattle.reports.proofs.TakeLemmas.{takes_none}
use Rattle.reports.proofs.reports.send_report.Goals as goal

-- a prefix of the head was written
pub returns-in_err-send : goal.returns-in_err-send
returns-in_err-send g c = record {
  writes = head_cut c.args.head.now (flat_map (g.L.Layout.shown c.args.layout.now)) (ending_text c.args.ending.now) length c.as_bytes.ensures.value
      c.in_err-send.ensures.sends (takes_none g.R.RowSource g.met.R.RowSource.stays c.args.rows.now) _ c.from_residual.ensures.1;
}

-- a prefix of the rows was written
pub returns-in_err-count : goal.returns-in_err-count
returns-in_err-count g c = record {
  writes = rows_cut c.args.head.now (flat_map (g.L.Layout.shown c.args.layout.now)) (ending_text c.args.ending.now) length c.as_bytes.ensures.value
      c.in_ok-send.ensures.sends.sent c.in_err-count.ensures.writes _ c.from_residual-in_err-count.ensures.1;
}

-- a prefix of the ending was written
pub returns-in_err-send-2 : goal.returns-in_err-send-2
returns-in_err-send-2 g c = record {
  writes = ending_cut c.args.head.now (flat_map (g.L.Layout.shown c.args.layout.now)) (ending_text c.args.ending.now) length c.as_bytes.ensures.value
      c.in_ok-count.ensures.writes refl c.in_ok-send.ensures.sends.sent c.in_err-send-2.ensures.sends _ c.from_residual-in_err-send-2.ensures.1;
}

-- all parts were written
pub returns : goal.returns
returns g c = record {
  writes = none_cut c.args.head.now (flat_map (g.L.Layout.shown c.args.layout.now)) (ending_text c.args.ending.now) length c.as_bytes.ensures.value
      c.in_ok-count.ensures.writes refl c.in_ok-send.ensures.sends.sent c.in_ok-send-2.ensures.sends;
}
