-- A run over lines answers one line after another, until the input ends or a fault comes.
-- More than 60 lines: a loop, six ways out and four clauses.
use Rattle.std.proofs.Common.{ap, sym, subst, refl, [], Err, arith}
use Rattle.std.proofs.lemmas.Result.{err_from_is_err_and}
use Rattle.saga_core.specs.StreamFaults.{IsOfReading}
use Rattle.saga_core.specs.declared.serve_faults.ServeFault.{ServeFault}
use Rattle.saga_core.specs.declared.serve_faults.ServeFault.TheVariants.{Memory, Read}
use Rattle.saga_core.proofs.KnownLemmas.{for_known}
use Rattle.saga_core.proofs.CallLemmas.{stays_alone, stays_served, stays_twice}
use Rattle.recovery.proofs.ReasonLemmas.{line_fails, may_at_end, may_at_first, may_go_on, same_fault}
use Rattle.recovery.proofs.ServeLemmas.{all_answered, answer_fails, goes_on, read_fails, starts, write_fails}
use Rattle.recovery.proofs.runs.answer_input.Goals as goal

-- no line was answered
pub loop-answered-init : goal.loop-answered-init
loop-answered-init g c = grind (arith, stays_alone, starts, may_at_first)

-- one more line was answered
pub loop-answered-preserved : goal.loop-answered-preserved
loop-answered-preserved g c =
    let at = c.loop-answered.invariant in
    record {
      stays = stays_twice at.stays (stays_served c.answer.ensures.serves);
      so_far = λ sound s stood input is.
          goes_on _ _ _ _ _ _ _ s input _ _ _ _ c.in_ok-text.text (at.so_far (c.answer.ensures.serves.sound sound) s stood input is)
          (rw c.if-not-branch.false at c.in_ok-next_line.ensures.line) (c.in_ok-text.ensures.answer sound)
          (rw c.as_bytes.ensures.value at c.in_ok-send.ensures.sent);
      may_act = λ sound first s later input is may.
          may_go_on _ _ s input _ _ _ later (at.may_act (c.answer.ensures.serves.sound sound) first s later input is may)
          (rw c.if-not-branch.false at c.in_ok-next_line.ensures.line) (c.in_ok-text.ensures.may_act sound first);
    }

-- out of memory before the first line
pub returns-in_err-unread-clause-some : goal.returns-in_err-unread-clause-some
returns-in_err-unread-clause-some g c = λ sound s stood.
    let failed = err_from_is_err_and c.from_residual.result c.from_residual.ensures.1 in
    for_known (g.R.Read.remaining c.args.reader.now) _ (λ input is.
    rw (failed.1, failed.2) (read_fails _ s input _ 0 Memory (starts _ _ _ s input (record { waiting = []; left = 0 }) _ refl is stood) tt))

-- reading failed between two lines
pub returns-in_err-next_line-clause-some : goal.returns-in_err-next_line-clause-some
returns-in_err-next_line-clause-some g c = λ sound s stood.
    let failed = err_from_is_err_and c.from_residual-in_err-next_line.result c.from_residual-in_err-next_line.ensures.1 in
    for_known (g.R.Read.remaining c.args.reader.now) _ (λ input is.
    rw (failed.1)
    (read_fails _ s input _ _ failed.0 (c.loop-answered.invariant.so_far sound s stood input is)
    (subst IsOfReading (sym failed.2) c.in_err-next_line.ensures.fault)))

-- the input has ended
pub returns-then-not-branch-clause-all : goal.returns-then-not-branch-clause-all
returns-then-not-branch-clause-all g c = λ sound s stood.
    for_known (g.R.Read.remaining c.args.reader.now) _ (λ input is.
    all_answered _ s input _ _ _ _ (c.loop-answered.invariant.so_far sound s stood input is)
    (rw c.if-not-branch.true at c.in_ok-next_line.ensures.line))

-- and the book may act for later asks
pub returns-then-not-branch-clause-may_act : goal.returns-then-not-branch-clause-may_act
returns-then-not-branch-clause-may_act g c = grind (arith, for_known, may_at_end)

-- the store failed at a line, for a reason
pub returns-in_err-text-clause-reason : goal.returns-in_err-text-clause-reason
returns-in_err-text-clause-reason g c = λ sound first store.
    let failed = err_from_is_err_and c.from_residual-in_err-text.result c.from_residual-in_err-text.ensures.1 in
    let came = same_fault c.from_residual-in_err-text.result failed.0 c.in_err-text.field-0.0 failed.1 failed.2 store in
    for_known (g.R.Read.remaining c.args.reader.now) _ (λ input is s later may.
    line_fails _ _ s input _ _ _ later (c.loop-answered.invariant.may_act (c.answer.ensures.serves.sound sound) first s later input is may)
    (rw c.if-not-branch.false at c.in_ok-next_line.ensures.line)
    (λ text kept. c.in_err-text.ensures.reason sound first text kept (ap (λ (f : ServeFault). Err f) came)))

-- the answer to a line failed
pub returns-in_err-text-clause-some : goal.returns-in_err-text-clause-some
returns-in_err-text-clause-some g c = λ sound s stood.
    let failed = err_from_is_err_and c.from_residual-in_err-text.result c.from_residual-in_err-text.ensures.1 in
    for_known (g.R.Read.remaining c.args.reader.now) _ (λ input is.
    rw (failed.1, failed.2)
    (answer_fails _ _ _ _ _ _ s input _ _ _ _ c.in_err-text.field-0.0
    (c.loop-answered.invariant.so_far (c.answer.ensures.serves.sound sound) s stood input is)
    (rw c.if-not-branch.false at c.in_ok-next_line.ensures.line) (c.in_err-text.ensures.answer sound)))

-- the answer was written in part
pub returns-in_err-send-clause-some : goal.returns-in_err-send-clause-some
returns-in_err-send-clause-some g c = λ sound s stood.
    let failed = err_from_is_err_and c.from_residual-in_err-send.result c.from_residual-in_err-send.ensures.1 in
    for_known (g.R.Read.remaining c.args.reader.now) _ (λ input is.
    rw (failed.1, failed.2)
    (write_fails _ _ _ _ _ _ _ s input _ _ _ _ c.in_ok-text.text
    (c.loop-answered.invariant.so_far (c.answer.ensures.serves.sound sound) s stood input is)
    (rw c.if-not-branch.false at c.in_ok-next_line.ensures.line) (c.in_ok-text.ensures.answer sound)
    (rw c.as_bytes.ensures.value at c.in_err-send.ensures.front)))

-- more lines were answered than can be counted
pub returns-clause-some : goal.returns-clause-some
returns-clause-some g c = λ sound s stood.
    for_known (g.R.Read.remaining c.args.reader.now) _ (λ input is. read_fails _ s input _ _ Read (c.loop-answered.invariant.so_far sound s stood input is) tt)
