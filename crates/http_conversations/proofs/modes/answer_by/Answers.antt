-- The page of the profile was laid out, or a fault came.
use Rattle.desk_http.specs.Pages.{closes, command_in, stops}
use Rattle.desk_http.proofs.ReasonLemmas.{made_goes_on}
use Rattle.http_conversations.proofs.PageLemmas.{faults_by, laid_by, meant_by}
use Rattle.http_conversations.proofs.modes.answer_by.Goals as goal

pub returns-in-Ok-clause-answer : goal.returns-in-Ok-clause-answer
returns-in-Ok-clause-answer g c = λ sound s stood x is.
    let book = g.B.Book in
    let new = c.answer_to.new.book in
    laid_by (book.stands new) (book.leaves new) s c.args.door c.args.second x c.in-Ok.answer c.lay_out.result
    (c.in-Ok.ensures.answer sound s stood x.meant is.message) c.lay_out.ensures.closes (c.lay_out.ensures.bytes x is) c.lay_out.ensures.memory

pub returns-in-Ok-clause-closes : goal.returns-in-Ok-clause-closes
returns-in-Ok-clause-closes g c =
    meant_by (λ m. closes c.args.door m) (λ answer. answer.closes) c.args.arrived.now c.in-Ok.answer c.lay_out.result c.in-Ok.ensures.closes
    c.lay_out.ensures.closes

pub returns-in-Ok-clause-stops : goal.returns-in-Ok-clause-stops
returns-in-Ok-clause-stops g c =
    meant_by (λ m. stops c.args.door m) (λ answer. answer.stops) c.args.arrived.now c.in-Ok.answer c.lay_out.result c.in-Ok.ensures.stops
    c.lay_out.ensures.stops

pub returns-in-Err-clause-answer : goal.returns-in-Err-clause-answer
returns-in-Err-clause-answer g c = λ sound s stood x is.
    let book = g.B.Book in
    let new = c.answer_to.new.book in
    faults_by (book.stands new) (book.leaves new) s c.args.door c.args.second x c.in-Err.fault (c.in-Err.ensures.answer sound s stood x.meant is.message)

-- the layout asks nothing of the book
pub returns-in-Ok-clause-may_act : goal.returns-in-Ok-clause-may_act
returns-in-Ok-clause-may_act g c = λ sound first x is.
    let book = g.B.Book in
    let new = c.answer_to.new.book in
    made_goes_on (book.may_act first c.args.book.now) (book.may_act first new) (book.has_reason first new)
    (command_in c.args.door x.meant) c.in-Ok.answer c.lay_out.result (c.in-Ok.ensures.may_act sound first x.meant is.message) c.lay_out.ensures.memory

pub returns-in-Err-clause-may_act : goal.returns-in-Err-clause-may_act
returns-in-Err-clause-may_act g c = λ sound first x is. c.in-Err.ensures.may_act sound first x.meant is.message
