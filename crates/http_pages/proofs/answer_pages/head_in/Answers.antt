-- The head that was parsed is that of a page.
use Rattle.httparse.specs.Spans.{IsResponseOf, IsResponseWithin}
use Rattle.http_pages.proofs.AnswerLemmas.{head_at}
use Rattle.http_pages.proofs.answer_pages.head_in.Goals as goal

pub returns-in-Ok-Complete : goal.returns-in-Ok-Complete
returns-in-Ok-Complete c =
    let came = c.args.came.now in
    let fields = c.parse_response.new.headers in
    let spans = c.in-Ok-Complete.spans in
    let read : IsResponseOf came fields spans = rw c.in-Ok-Complete.field-0-is at c.in-Ok-Complete.ensures.complete in
    let lies : IsResponseWithin came fields spans = rw c.in-Ok-Complete.field-0-is at c.in-Ok-Complete.ensures.within in
    record {
      head = head_at came fields spans c.from_spans-known.result c.response_framing.result read.0
          c.parse_response.auto.headers read.1 lies c.from_spans-known.ensures c.response_framing.ensures;
    }
