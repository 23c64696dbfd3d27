-- The page is printed in one piece, which is its lines.
use Rattle.std.proofs.Common.{◌∙◌}
use Rattle.std.proofs.lemmas.Result.{IfOk-weaker}
use Rattle.http_pages.specs.Pages.{close_line}
use Rattle.http_conversations.specs.PageTexts.{allow_line}
use Rattle.http_conversations.proofs.PageTextLemmas.{options_lines}
use Rattle.http_conversations.proofs.allowed.options_page.Goals as goal

pub returns : goal.returns
returns c =
    let whole = options_lines c.args.date.now (allow_line c.args.verb) (close_line c.args.closes) in
    record {
      bytes = IfOk-weaker c.format.result _ _ (λ page printed. printed
          ∙ rw (c.cache_lines-lines.ensures.lines, c.allow_line-allow.ensures.line, c.close_line-close.ensures.line) whole) c.format.ensures.ok;
    }
