-- Bytes without a head are no page, nor are those whose body has another length than the head says.
use Rattle.std.proofs.Common.{◌∙◌, ℕ, IsTrue, List, Ok, length, ap, sym}
use Rattle.std.proofs.lemmas.List.{take_rest}
use Rattle.http1.specs.declared.framing.Framing.TheVariants as framed
use Rattle.http_pages.proofs.AnswerLemmas.{page_of_head}
use Rattle.http_pages.proofs.answer_pages.page_in.Goals as goal

pub returns-then-not-is_whole : goal.returns-then-not-is_whole
returns-then-not-is_whole c = record {
  page = λ s body page.
      let head = c.in_ok-head.head in
      let same = page_of_head c.args.came.now head.status head.framing head.len s body c.in_ok-head.ensures.head page in
      let whole : IsTrue c.is_whole.result =
      c.is_whole.ensures.whole.1 (same.2 ∙ ap (λ (b : List ℕ). Ok (framed.Length (length b))) (sym same.1 ∙ sym (take_rest c.args.came.now head.len))) in
      let not = c.if-not-is_whole.true in
      cc;
}
