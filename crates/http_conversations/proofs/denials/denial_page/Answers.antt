-- The page is printed in one piece, which is its lines.
use Rattle.std.proofs.Common.{◌∙◌, decimal}
use Rattle.std.proofs.lemmas.Result.{IfOk-weaker}
use Rattle.http_messages.specs.Framing.{code_of}
use Rattle.http_conversations.specs.PageTexts.{phrase_of, refusal_of, text_of}
use Rattle.http_conversations.proofs.PageTextLemmas.{denial_lines}
use Rattle.http_conversations.proofs.denials.denial_page.Goals as goal

pub returns : goal.returns
returns c =
    let why = c.args.denial in
    let whole = denial_lines (decimal (code_of why)) (phrase_of why) c.args.date.now (text_of (refusal_of why)) in
    record {
      bytes = IfOk-weaker c.format.result _ _ (λ page printed. printed
          ∙ rw (c.code-code.ensures.code, c.phrase_of-phrase.ensures.phrase, c.cache_lines-lines.ensures.lines, c.as_str.ensures.value, c.as_str-text.ensures.value, c.in_ok-body.ensures.body, c.refusal_of.ensures.refusal) whole) c.format.ensures.ok;
    }
