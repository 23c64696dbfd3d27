-- A message gets the page that reports its outcome.
-- More than 60 lines: three ways out and five clauses.
use Rattle.std.proofs.Common.{◌∙◌, subst}
use Rattle.std.proofs.lemmas.Result.{IfOk-weaker, err_from_is_err_and}
use Rattle.http_messages.specs.Requests.{IsTaken}
use Rattle.desk_http.proofs.AnswerLemmas.{no_head_closes, no_head_counted, no_head_obeys, no_head_stops, request_closes, request_counted, request_fails, request_obeys}
use Rattle.desk_http.proofs.answering.answer_to.Goals as goal

pub returns-in_err-page-in-Asks-clause-answer : goal.returns-in_err-page-in-Asks-clause-answer
returns-in_err-page-in-Asks-clause-answer g c = λ sound s stood m is.
    let failed = err_from_is_err_and c.from_residual-in_err-page-in-Asks.result c.from_residual-in_err-page-in-Asks.ensures.1 in
    rw (failed.1, failed.2) ((request_fails c.args.door c.in-Asks.request c.in_ok-refusal-in-Asks.refusal m c.in_err-page-in-Asks.field-0.0
    (subst (λ taken. IsTaken taken m) c.in-Asks.is is) c.in_ok-refusal-in-Asks.ensures.refusal c.in_err-page-in-Asks.ensures.tells).comes sound s stood)

pub returns-in_ok-page-in-NoHead-clause-answer : goal.returns-in_ok-page-in-NoHead-clause-answer
returns-in_ok-page-in-NoHead-clause-answer g c = λ sound s stood m is.
    let book = g.B.Book in
    (no_head_obeys {is_sound = book.is_sound} {stands = book.stands} {leaves = book.leaves} {may = book.may_act}
    {reason = book.has_reason} {book = c.args.book.now} c.args.door m _ c.in_ok-page-in-NoHead.page (subst (λ taken. IsTaken taken m) c.in-NoHead.is is)
    c.in_ok-page-in-NoHead.ensures.page c.new.ensures.laid_out).comes sound s stood

pub returns-in_ok-page-in-Asks-clause-answer : goal.returns-in_ok-page-in-Asks-clause-answer
returns-in_ok-page-in-Asks-clause-answer g c = λ sound s stood m is.
    (request_obeys c.args.door c.in-Asks.request c.in_ok-refusal-in-Asks.refusal m _ c.in_ok-page-in-Asks.page _ _
    (subst (λ taken. IsTaken taken m) c.in-Asks.is is) c.in_ok-refusal-in-Asks.ensures.refusal c.in_ok-page-in-Asks.ensures.tells
    c.closes.ensures.closes c.new-in-Asks.ensures.laid_out).comes sound s stood

-- bytes that are no head close
pub returns-in_ok-page-in-NoHead-clause-closes : goal.returns-in_ok-page-in-NoHead-clause-closes
returns-in_ok-page-in-NoHead-clause-closes g c =
    IfOk-weaker c.new.result _ _ (λ answer ends m is. ends ∙ no_head_closes c.args.door m (subst (λ taken. IsTaken taken m) c.in-NoHead.is is))
    c.new.ensures.laid_out.closes

-- a request closes as it says, or where it is refused
pub returns-in_ok-page-in-Asks-clause-closes : goal.returns-in_ok-page-in-Asks-clause-closes
returns-in_ok-page-in-Asks-clause-closes g c =
    IfOk-weaker c.new-in-Asks.result _ _
    (λ answer ends m is. ends ∙ request_closes c.args.door c.in-Asks.request c.in_ok-refusal-in-Asks.refusal c.closes.result
    c.in_ok-refusal-in-Asks.ensures.refusal c.closes.ensures.closes m (subst (λ taken. IsTaken taken m) c.in-Asks.is is))
    c.new-in-Asks.ensures.laid_out.closes

-- bytes that are no head do not stop the desk
pub returns-in_ok-page-in-NoHead-clause-stops : goal.returns-in_ok-page-in-NoHead-clause-stops
returns-in_ok-page-in-NoHead-clause-stops g c =
    IfOk-weaker c.new.result _ _ (λ answer stopped m is. stopped ∙ no_head_stops c.args.door m (subst (λ taken. IsTaken taken m) c.in-NoHead.is is))
    c.new.ensures.laid_out.stops

-- a request stops it where the house asks for that
pub returns-in_ok-page-in-Asks-clause-stops : goal.returns-in_ok-page-in-Asks-clause-stops
returns-in_ok-page-in-Asks-clause-stops g c =
    IfOk-weaker c.new-in-Asks.result _ _ (λ answer stopped m is. stopped ∙ c.stops.ensures.stops m (subst (λ taken. IsTaken taken m) c.in-Asks.is is))
    c.new-in-Asks.ensures.laid_out.stops

-- bytes that are no head ask for no metrics
pub returns-in_ok-page-in-NoHead-clause-counted : goal.returns-in_ok-page-in-NoHead-clause-counted
returns-in_ok-page-in-NoHead-clause-counted g c =
    IfOk-weaker c.new.result _ _
    (λ answer laid m is. no_head_counted c.args.metrics.now c.args.door m answer.bytes.items (subst (λ taken. IsTaken taken m) c.in-NoHead.is is))
    c.new.ensures.laid_out.bytes

-- a request that asks for them gets what was counted
pub returns-in_ok-page-in-Asks-clause-counted : goal.returns-in_ok-page-in-Asks-clause-counted
returns-in_ok-page-in-Asks-clause-counted g c =
    IfOk-weaker c.new-in-Asks.result _ _
    (λ answer laid m is. request_counted c.args.metrics.now c.args.door c.in-Asks.request c.in_ok-refusal-in-Asks.refusal m c.in_ok-page-in-Asks.page
    c.closes.result answer.bytes.items (subst (λ taken. IsTaken taken m) c.in-Asks.is is) c.in_ok-refusal-in-Asks.ensures.refusal
    c.closes.ensures.closes laid c.in_ok-page-in-Asks.ensures.counted)
    c.new-in-Asks.ensures.laid_out.bytes

-- bytes that are no head ask the book for nothing
pub returns-in_ok-page-in-NoHead-clause-may_act : goal.returns-in_ok-page-in-NoHead-clause-may_act
returns-in_ok-page-in-NoHead-clause-may_act g c = λ sound first m is.
    let book = g.B.Book in
    (no_head_obeys {is_sound = book.is_sound} {stands = book.stands} {leaves = book.leaves} {may = book.may_act}
    {reason = book.has_reason} {book = c.args.book.now} c.args.door m _ c.in_ok-page-in-NoHead.page (subst (λ taken. IsTaken taken m) c.in-NoHead.is is)
    c.in_ok-page-in-NoHead.ensures.page c.new.ensures.laid_out).may_act sound first

-- a request asks it for its command
pub returns-in_ok-page-in-Asks-clause-may_act : goal.returns-in_ok-page-in-Asks-clause-may_act
returns-in_ok-page-in-Asks-clause-may_act g c = λ sound first m is.
    (request_obeys c.args.door c.in-Asks.request c.in_ok-refusal-in-Asks.refusal m _ c.in_ok-page-in-Asks.page _ _
    (subst (λ taken. IsTaken taken m) c.in-Asks.is is) c.in_ok-refusal-in-Asks.ensures.refusal c.in_ok-page-in-Asks.ensures.tells
    c.closes.ensures.closes c.new-in-Asks.ensures.laid_out).may_act sound first

pub returns-in_err-page-in-Asks-clause-may_act : goal.returns-in_err-page-in-Asks-clause-may_act
returns-in_err-page-in-Asks-clause-may_act g c = λ sound first m is.
    let failed = err_from_is_err_and c.from_residual-in_err-page-in-Asks.result c.from_residual-in_err-page-in-Asks.ensures.1 in
    rw (failed.1, failed.2) ((request_fails c.args.door c.in-Asks.request c.in_ok-refusal-in-Asks.refusal m c.in_err-page-in-Asks.field-0.0
    (subst (λ taken. IsTaken taken m) c.in-Asks.is is) c.in_ok-refusal-in-Asks.ensures.refusal c.in_err-page-in-Asks.ensures.tells).may_act sound first)
