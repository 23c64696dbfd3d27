-- The message got its page, or lost it.
-- More than 60 lines: two ways out and two clauses.
use Rattle.std.proofs.Common.{arith, ◌∷◌, [], None, Some, Bool, Err, ap, false, refl, subst, sym}
use Rattle.desk_http.specs.declared.answering.Answer.{Answer}
use Rattle.http_conversations.specs.History.{History, exchange}
use Rattle.http_conversations.specs.Leading.{fault_by, has_broken}
use Rattle.http_conversations.specs.Reasons.{HasReasons}
use Rattle.http_conversations.specs.Talks.{history_of}
use Rattle.http_conversations.proofs.AnswerSteps.{gets, loses}
use Rattle.http_conversations.proofs.ReasonLemmas.{answered, lost}
use Rattle.http_conversations.proofs.Steps.{since_more}
use Rattle.http_conversations.proofs.talk.Talk.answer_first.Goals as goal

pub returns-in-Ok-clause-answers : goal.returns-in-Ok-clause-answers
returns-in-Ok-clause-answers g c =
    let first = c.requires.first in
    let ready = c.requires.ready in
    let answer = c.in-Ok.answer in
    let ok = c.in-Ok.ensures in
    record {
      first = gets (history_of c.args.self.now) (history_of c.keep.new.self) c.args.count first.said ready.is_open first.says
          answer.bytes.items answer.closes answer.stops ready.free c.keep.ensures.answered
          (ok.closes first.said first.is_read) (ok.stops first.said first.is_read)
          (λ sound s stood. let came = ok.answer sound s stood first.said first.is_read in (came.0.0, came.1));
      none = λ is. cc;
      seen = grind arith;
    }

pub returns-in-Err-clause-answers : goal.returns-in-Err-clause-answers
returns-in-Err-clause-answers g c =
    let first = c.requires.first in
    rw c.fault_of.ensures.fault (record {
      first = loses (history_of c.args.self.now) (history_of c.lose.new.self) c.args.count first.said c.requires.ready.is_open first.says
          c.in-Err.fault c.lose.ensures.lost (λ sound s stood. c.in-Err.ensures.answer sound s stood first.said first.is_read);
      none = λ is. cc;
      seen = grind arith;
    })

-- where the store failed, it did for a reason

pub returns-in-Ok-clause-reasons : goal.returns-in-Ok-clause-reasons
returns-in-Ok-clause-reasons g c =
    let book = g.B.Book in
    let first = c.requires.first in
    let h = history_of c.args.self.now in
    let x = exchange h c.args.count (Some c.in-Ok.answer.bytes.items) in
    subst (HasReasons book.is_sound book.may_act book.has_reason c.args.book.now c.answer_by.new.book false)
    (sym (since_more h.exchanges _ (x ∷ []) (ap (λ (k : History). k.exchanges) c.keep.ensures.answered)))
    (λ sound b. answered _ _ _ (record { exchange = x; message = first.said; is_message = first.says }) c.in-Ok.answer
    (c.in-Ok.ensures.may_act sound b first.said first.is_read))

pub returns-in-Err-clause-reasons : goal.returns-in-Err-clause-reasons
returns-in-Err-clause-reasons g c =
    let book = g.B.Book in
    let first = c.requires.first in
    let h = history_of c.args.self.now in
    let x = exchange h c.args.count None in
    rw c.fault_of.ensures.fault
    (subst (HasReasons book.is_sound book.may_act book.has_reason c.args.book.now c.answer_by.new.book (has_broken {T = Bool} (Err (fault_by c.in-Err.fault))))
    (sym (since_more h.exchanges _ (x ∷ []) (ap (λ (k : History). k.exchanges) c.lose.ensures.lost)))
    (λ sound b. lost _ _ _ (record { exchange = x; message = first.said; is_message = first.says }) Answer c.in-Err.fault refl
    (c.in-Err.ensures.may_act sound b first.said first.is_read)))
