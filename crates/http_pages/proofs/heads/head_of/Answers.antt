-- The head is printed in one piece, which is its lines.
use Rattle.std.proofs.Common.{◌∙◌, decimal, length}
use Rattle.std.proofs.lemmas.Result.{IfOk-weaker}
use Rattle.http_pages.specs.Pages.{body_bytes, close_line, media_of, media_type}
use Rattle.http_pages.specs.Statuses.{phrase, status_code}
use Rattle.http_pages.proofs.HeadLemmas.{head_lines}
use Rattle.http_pages.proofs.heads.head_of.Goals as goal

-- each part is the page's
pub returns : goal.returns
returns c =
    let page = c.args.page.now in
    let code = c.as_u16-code.ensures.value ∙ c.code.ensures.code in
    let whole = head_lines (decimal (status_code page.status)) (phrase page.status) (decimal (length (body_bytes page.body))) (media_type (media_of page.body)) c.args.fields.now (close_line c.args.closes) in
    record {
      head = IfOk-weaker c.format.result _ _ (λ head printed. printed
          ∙ rw (code, c.phrase-phrase.ensures.phrase, c.bytes_of.ensures.bytes, c.media_type_of-media_type.ensures.media_type, c.close_line-close.ensures.line) whole) c.format.ensures.ok;
    }
