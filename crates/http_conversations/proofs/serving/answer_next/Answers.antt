-- The next message is answered, or there is none, or a fault comes.
-- More than 60 lines: a loop, five ways out and two clauses.
use Rattle.std.proofs.Common.{◌∙◌, ap, sym, subst, Ok, Err, arith}
use Rattle.std.proofs.lemmas.Result.{err_from_is_err_and}
use Rattle.saga_core.specs.StreamFaults.{IsOfReading}
use Rattle.saga_core.proofs.KnownLemmas.{for_known}
use Rattle.http_conversations.specs.Conversations.{history}
use Rattle.http_conversations.specs.History.{HasNoTurn}
use Rattle.http_conversations.specs.Serving.{AwaitsNext, to_come}
use Rattle.saga_core.proofs.CallLemmas.{stays_alone, stays_served, stays_twice}
use Rattle.http_conversations.proofs.NextLemmas.{awaits_on, ends_there, fails_next, gets_next, reading_fails, reads_on}
use Rattle.http_conversations.proofs.ServeReasonLemmas.{answer_fails, answers_then, read_fails, reads_then}
use Rattle.http_conversations.proofs.serving.answer_next.Goals as goal

-- nothing was answered yet
pub loop-init : goal.loop-init
loop-init g c = grind (arith, stays_alone)

-- the next message got its page
pub returns-in-Ok-true-clause-next : goal.returns-in-Ok-true-clause-next
returns-in-Ok-true-clause-next g c =
    let left = g.R.Read.remaining in
    let at = c.loop in
    let answer = c.in-Ok-true.ensures in
    for_known (to_come (history c.args.conversation.now) (left c.args.reader.now)) _ (λ stream is.
    gets_next (left at.reader) at.invariant.awaits.at_port (at.invariant.stream stream is)
    (λ sound. at.invariant.stands (answer.serves.sound sound)) (rw c.in-Ok-true.field-0-test at answer.answers.first))

-- the input has ended
pub returns-then-count-eq0-clause-next : goal.returns-then-count-eq0-clause-next
returns-then-count-eq0-clause-next g c =
    let left = g.R.Read.remaining in
    let at = c.loop in
    let answer = c.in-Ok-false.ensures in
    let none = answer.answers.none (ap Ok c.in-Ok-false.field-0-test) in
    let read = c.in_ok-count-in-Ok-false.ensures.receives in
    let more = read.ok in
    for_known (to_come (history c.args.conversation.now) (left c.args.reader.now)) _ (λ stream is. record {
      none = ends_there (history c.answer.new.self) stream more.0 (left at.reader) (left c.read_more.new.reader)
          (subst AwaitsNext (sym none.1) at.invariant.awaits) (subst HasNoTurn (sym none.1) none.0)
          (ap (λ i. to_come i (left at.reader)) none.1 ∙ at.invariant.stream stream is)
          (more.1 ∙ c.if-count-eq0.true) more.2 (read.ended (ap Ok c.if-count-eq0.true) (omega arith));
      kept = λ sound s was. subst (λ b. g.B.Book.stands b s) (sym none.2) (at.invariant.stands (answer.serves.sound sound) s was);
    })

-- more was read
pub loop-preserved : goal.loop-preserved
loop-preserved g c =
    let at = c.loop in
    let answer = c.in-Ok-false.ensures in
    record {
      awaits = grind (arith, awaits_on);
      stream = grind (arith, reads_on);
      stands = grind (arith, g.B.Book.stands);
      stays = grind (arith, stays_twice, stays_served);
      reason = λ first begun x.
          reads_then (answers_then (at.invariant.reason first begun x) c.answer.new.self.served (Ok c.in-Ok-false.field-0) answer.leaves
          answer.serves.sound answer.turn) c.read_more.new.conversation.served (Ok c.in_ok-count-in-Ok-false.count)
          c.in_ok-count-in-Ok-false.ensures.receives;
    }

-- reading failed
pub returns-in_err-count-in-Ok-false-clause-next : goal.returns-in_err-count-in-Ok-false-clause-next
returns-in_err-count-in-Ok-false-clause-next g c =
    let answer = c.in-Ok-false.ensures in
    let none = answer.answers.none (ap Ok c.in-Ok-false.field-0-test) in
    let failed = err_from_is_err_and c.from_residual.result c.from_residual.ensures.1 in
    for_known (to_come (history c.args.conversation.now) (g.R.Read.remaining c.args.reader.now)) _ (λ stream is.
    rw (failed.1)
    (reading_fails (g.B.Book.leaves c.answer.new.book) stream failed.0 (subst IsOfReading (sym failed.2) c.in_err-count-in-Ok-false.ensures.fault)
    (λ sound s was. subst (λ b. g.B.Book.stands b s) (sym none.2) (c.loop.invariant.stands (answer.serves.sound sound) s was))))

-- the answer failed
pub returns-in-Err-clause-next : goal.returns-in-Err-clause-next
returns-in-Err-clause-next g c =
    let left = g.R.Read.remaining in
    let at = c.loop in
    let answer = c.in-Err.ensures in
    for_known (to_come (history c.args.conversation.now) (left c.args.reader.now)) _ (λ stream is.
    rw c.from.ensures
    (fails_next (left at.reader) at.invariant.awaits.at_port (at.invariant.stream stream is)
    (λ sound. at.invariant.stands (answer.serves.sound sound)) c.in-Err.fault answer.answers.first))

-- more was read than can be counted
pub returns-clause-next : goal.returns-clause-next
returns-clause-next g c = grind (arith, for_known, reading_fails, g.B.Book.leaves)

-- Why the store failed.

-- the next message got its page
pub returns-in-Ok-true-clause-reason : goal.returns-in-Ok-true-clause-reason
returns-in-Ok-true-clause-reason g c = λ first begun x.
    let answer = c.in-Ok-true.ensures in
    answers_then (c.loop.invariant.reason first begun x) c.answer.new.self.served (Ok c.in-Ok-true.field-0) answer.leaves
    answer.serves.sound answer.turn

-- the answer failed
pub returns-in-Err-clause-reason : goal.returns-in-Err-clause-reason
returns-in-Err-clause-reason g c = λ first begun x.
    let answer = c.in-Err.ensures in
    rw c.from.ensures
    (answer_fails (c.loop.invariant.reason first begun x) c.answer.new.self.served c.in-Err.fault answer.leaves
    answer.serves.sound answer.turn)

-- the input has ended
pub returns-then-count-eq0-clause-reason : goal.returns-then-count-eq0-clause-reason
returns-then-count-eq0-clause-reason g c = λ first begun x.
    let answer = c.in-Ok-false.ensures in
    reads_then (answers_then (c.loop.invariant.reason first begun x) c.answer.new.self.served (Ok c.in-Ok-false.field-0) answer.leaves
    answer.serves.sound answer.turn) c.read_more.new.conversation.served (Ok c.in_ok-count-in-Ok-false.count)
    c.in_ok-count-in-Ok-false.ensures.receives

-- reading failed
pub returns-in_err-count-in-Ok-false-clause-reason : goal.returns-in_err-count-in-Ok-false-clause-reason
returns-in_err-count-in-Ok-false-clause-reason g c = λ first begun x.
    let answer = c.in-Ok-false.ensures in
    let read = c.in_err-count-in-Ok-false.ensures in
    let failed = err_from_is_err_and c.from_residual.result c.from_residual.ensures.1 in
    rw (failed.1, failed.2)
    (read_fails c.in_err-count-in-Ok-false.field-0.0 read.fault
    (reads_then (answers_then (c.loop.invariant.reason first begun x) c.answer.new.self.served (Ok c.in-Ok-false.field-0) answer.leaves
    answer.serves.sound answer.turn) c.read_more.new.conversation.served (Err c.in_err-count-in-Ok-false.field-0.0) read.receives))
