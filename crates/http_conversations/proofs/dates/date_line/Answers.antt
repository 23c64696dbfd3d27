-- The line is that of the date of the second.
use Rattle.std.proofs.Common.{IfOk, inl, subst, sym}
use Rattle.std.proofs.lemmas.Result.{IfOk-weaker}
use Rattle.std.specs.String.{string_bytes}
use Rattle.http_conversations.specs.PageTexts.{IsDateLine}
use Rattle.http_conversations.proofs.dates.date_line.Goals as goal

pub returns-in-Ok : goal.returns-in-Ok
returns-in-Ok c = record {
  line = subst (λ second. IfOk c.line_of.result (λ line. IsDateLine second (string_bytes line))) (sym c.in-Some.is)
      (IfOk-weaker c.line_of.result _ _ (λ text is. inl (c.in-Ok.date, c.in-Ok.ensures.value, is)) c.line_of.ensures.line);
}
