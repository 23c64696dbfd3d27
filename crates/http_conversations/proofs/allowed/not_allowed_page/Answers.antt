-- The page is printed in one piece, which is its lines.
use Rattle.std.proofs.Common.{◌∙◌, Some}
use Rattle.std.proofs.lemmas.Result.{IfOk-weaker}
use Rattle.commands.specs.declared.replies.Refusal.TheVariants as refusal
use Rattle.http_pages.specs.Pages.{close_line}
use Rattle.http_conversations.specs.PageTexts.{allow_line, body_unless, text_of}
use Rattle.http_conversations.proofs.PageTextLemmas.{not_allowed_lines}
use Rattle.http_conversations.proofs.allowed.not_allowed_page.Goals as goal

pub returns : goal.returns
returns c =
    let whole = not_allowed_lines c.args.date.now (text_of refusal.WrongMethod)
    (body_unless c.args.is_head (text_of refusal.WrongMethod)) (allow_line (Some c.args.verb)) (close_line c.args.closes) in
    record {
      bytes = IfOk-weaker c.format.result _ _ (λ page printed. printed
          ∙ rw (c.cache_lines-lines.ensures.lines, c.allow_line-allow.ensures.line, c.close_line-close.ensures.line, c.body_unless-text.ensures.body, c.as_str.ensures.value, c.as_str-2.ensures.value, c.in_ok-body.ensures.body) whole) c.format.ensures.ok;
    }
