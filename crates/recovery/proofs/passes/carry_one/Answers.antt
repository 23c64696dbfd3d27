use Rattle.std.proofs.Common.{sym, ◌∙◌, arith}
use Rattle.saga_core.proofs.CallLemmas.{stays_served, stays_twice}
use Rattle.recovery.specs.Growing.{with_events}
use Rattle.recovery.proofs.CarriedOneLemmas.{one-done, one-fault, one-on, one-refused}
use Rattle.recovery.proofs.FollowLemmas.{standing}
use Rattle.recovery.proofs.passes.carry_one.Goals as goal

-- the step found the ledger full
pub returns-in-Ok-None-clause-came : goal.returns-in-Ok-None-clause-came
returns-in-Ok-None-clause-came g c sound following s here on =
    one-refused (c.loop-made.invariant.carried (c.step.ensures.serves.sound sound) following s here on)
    (rw c.in-Ok-None.field-0-is at c.in-Ok-None.ensures.made sound following)

-- one step more, and the pass is done with the journey
pub returns-then-not-goes_on-clause-came : goal.returns-then-not-goes_on-clause-came
returns-then-not-goes_on-clause-came g c sound following s here on =
    let book = g.B.Book in
    let t = c.loop-made.invariant.carried (c.step.ensures.serves.sound sound) following s here on in
    let u = with_events s t.events in
    one-done t c.in-Ok-Some.phase
    (g.met.B.Book.legal c.loop-made.book u (standing book.stands book.may_act following c.loop-made.book u t.stands_there))
    (rw c.in-Ok-Some.field-0-is at c.in-Ok-Some.ensures.made sound following) (sym c.goes_on.ensures ∙ c.if-not-goes_on.true)

-- the steps so far, and perhaps the one that met the fault
pub returns-in-Err-clause-came : goal.returns-in-Err-clause-came
returns-in-Err-clause-came g c sound following s here on =
    let book = g.B.Book in
    let t = c.loop-made.invariant.carried (c.step.ensures.serves.sound sound) following s here on in
    let u = with_events s t.events in
    one-fault t (g.met.B.Book.legal c.loop-made.book u (standing book.stands book.may_act following c.loop-made.book u t.stands_there))
    (c.in-Err.ensures.made sound following)

-- more steps were made than there is room for
pub returns-clause-came : goal.returns-clause-came
returns-clause-came g c sound following s here on =
    let within = (c.loop-made.invariant.carried sound following s here on).within in
    absurd (omega (arith, within, c.loop-made-test.false))

-- one step more, and the pass goes on with the journey
pub loop-made-preserved : goal.loop-made-preserved
loop-made-preserved g c = record {
  stays = stays_twice c.loop-made.invariant.stays (stays_served c.step.ensures.serves);
  carried = λ sound following s here on.
      let book = g.B.Book in
      let t = c.loop-made.invariant.carried (c.step.ensures.serves.sound sound) following s here on in
      let u = with_events s t.events in
      one-on t c.in-Ok-Some.phase
      (g.met.B.Book.legal c.loop-made.book u (standing book.stands book.may_act following c.loop-made.book u t.stands_there))
      (rw c.in-Ok-Some.field-0-is at c.in-Ok-Some.ensures.made sound following) (sym c.goes_on.ensures ∙ c.if-not-goes_on.false);
}
