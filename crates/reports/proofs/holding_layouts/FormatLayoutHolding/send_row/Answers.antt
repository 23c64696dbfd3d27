-- The line of a holder is sent.
use Rattle.std.proofs.Common.{◌∙◌, ap, subst, sym}
use Rattle.reports.specs.Writing.{Sends}
use Rattle.reports.specs.HoldingLayouts.{holding_row}
use Rattle.reports.proofs.holding_layouts.FormatLayoutHolding.send_row.Goals as goal

pub returns-in_ok-holding_line-in-Text : goal.returns-in_ok-holding_line-in-Text
returns-in_ok-holding_line-in-Text g c = record {
  sends = subst (λ text. Sends (g.W.Write.contents c.args.out.now) (g.W.Write.contents c.send.new.out) text c.send.result)
      (c.as_bytes.ensures.value ∙ c.in_ok-holding_line-in-Text.ensures.line ∙ sym (ap (λ format. holding_row format c.args.row.now) c.in-Text.is))
      c.send.ensures.sends;
}
