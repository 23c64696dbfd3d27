-- A page of another status, or of the refusal's with another body, is no answer.
use Rattle.http_pages.proofs.AnswerLemmas.{none_of_page}
use Rattle.http_pages.proofs.answer_pages.answer_in.Goals as goal

pub returns-then-page-eq-NOT_FOUND-clause-none : goal.returns-then-page-eq-NOT_FOUND-clause-none
returns-then-page-eq-NOT_FOUND-clause-none c = λ unread.
    none_of_page c.args.came.now c.in-Some.page.status c.in-Some.page.body.now c.in-Some.ensures.page c.if-page-eq-FINE.false
    (λ _. c.absence_in.ensures.none unread)

pub returns-clause-none : goal.returns-clause-none
returns-clause-none c = λ _.
    none_of_page c.args.came.now c.in-Some.page.status c.in-Some.page.body.now c.in-Some.ensures.page c.if-page-eq-FINE.false
    (λ is. absurd (c.if-page-eq-NOT_FOUND.false is))
