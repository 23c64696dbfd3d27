-- More than 60 lines: a loop and five ways out.
use Rattle.std.proofs.Common.{sym, ◌∙◌, arith}
use Rattle.saga_core.proofs.CallLemmas.{stays_read, stays_served, stays_twice}
use Rattle.recovery.specs.Following.{MayGoOn}
use Rattle.recovery.specs.Growing.{with_events}
use Rattle.recovery.proofs.FollowLemmas.{come, goes-read, left-read, standing}
use Rattle.recovery.proofs.TurnedLemmas.{turned-all, turned-fault, turned-further, turned-look, turned-more, turned-now, turned-over, turned-refused}
use Rattle.recovery.proofs.passes.turn_back.Goals as goal
use Rattle.recovery.proofs.passes.turn_back.Goals.{then-is_running+in-Ok-true, else-is_running}

-- no journey is left
pub returns-in-Ok-None-clause-came : goal.returns-in-Ok-None-clause-came
returns-in-Ok-None-clause-came g c sound following s here =
    let book = g.B.Book in
    let t = c.loop-round.invariant.turned (c.first_unfinished.ensures.reads.sound sound) following s here in
    let u = with_events s t.grew.events in
    turned-all t
    (sym c.in-Ok-None.field-0-is
    ∙ c.in-Ok-None.ensures.first sound u (standing book.stands book.may_act following c.loop-round.book u t.grew.stands_there))
    (goes-read sound following u t.grew.stands_there c.in-Ok-None.ensures.reads)

-- all rounds are over
pub returns-clause-came : goal.returns-clause-came
returns-clause-came g c sound following s here =
    let book = g.B.Book in
    let t = c.loop-round.invariant.turned sound following s here in
    turned-over t (omega (arith, c.loop-round-test.false))
    (come book.stands book.may_act following c.loop-round.book (with_events s t.grew.events) t.grew.stands_there)

-- the stop found the ledger full
pub returns-in-Ok-false-clause-came : goal.returns-in-Ok-false-clause-came
returns-in-Ok-false-clause-came g c sound following s here =
    let book = g.B.Book in
    let on = MayGoOn book.stands book.may_act following c.first_unfinished.new.self in
    let looked = c.stop.ensures.serves.sound sound in
    let t = c.loop-round.invariant.turned (c.first_unfinished.ensures.reads.sound looked) following s here in
    let u = with_events s t.grew.events in
    let b = c.in-Ok-Some.brief in
    turned-refused (turned-now t on (goes-read looked following u t.grew.stands_there c.in-Ok-Some.ensures.reads)) b
    (sym c.in-Ok-Some.field-0-is
    ∙ c.in-Ok-Some.ensures.first looked u (standing book.stands book.may_act following c.loop-round.book u t.grew.stands_there))
    (sym c.is_running.ensures ∙ c.if-is_running.true)
    (rw c.in-Ok-false.field-0-test at c.in-Ok-false.ensures.made sound following)

-- a read of the book met a fault
pub returns-in-Err-clause-came : goal.returns-in-Err-clause-came
returns-in-Err-clause-came g c sound following s here =
    let t = c.loop-round.invariant.turned (c.first_unfinished.ensures.reads.sound sound) following s here in
    turned-look t
    (left-read sound following (with_events s t.grew.events) t.grew.stands_there c.in-Err.fault g.met.B.Book.settled c.in-Err.ensures.reads)

-- the turns so far, and perhaps the one that met the fault
pub returns-in-Err-stop-clause-came : goal.returns-in-Err-stop-clause-came
returns-in-Err-stop-clause-came g c sound following s here =
    let book = g.B.Book in
    let on = MayGoOn book.stands book.may_act following c.first_unfinished.new.self in
    let looked = c.stop.ensures.serves.sound sound in
    let t = c.loop-round.invariant.turned (c.first_unfinished.ensures.reads.sound looked) following s here in
    let u = with_events s t.grew.events in
    turned-fault (turned-now t on (goes-read looked following u t.grew.stands_there c.in-Ok-Some.ensures.reads)) c.in-Ok-Some.brief
    (sym c.in-Ok-Some.field-0-is
    ∙ c.in-Ok-Some.ensures.first looked u (standing book.stands book.may_act following c.loop-round.book u t.grew.stands_there))
    (sym c.is_running.ensures ∙ c.if-is_running.true) (c.in-Err-stop.ensures.made sound following)

-- one more journey: it turned, or it does not run
pub loop-round-preserved : goal.loop-round-preserved
loop-round-preserved g c =
    let book = g.B.Book in
    let looked_on = stays_twice c.loop-round.invariant.stays (stays_read c.first_unfinished.ensures.reads) in
    let b = c.in-Ok-Some.brief in
    elim c.if-is_running.branch [
      | then-is_running+in-Ok-true w ↦ rw (w.book-is, w.made-is) (record {
        each_once = let fewer = c.loop-round.invariant.each_once in omega arith;
        stays = stays_twice looked_on (stays_served w.stop.ensures.serves);
        turned = λ sound following s here.
            let on = MayGoOn book.stands book.may_act following c.first_unfinished.new.self in
            let looked = w.stop.ensures.serves.sound sound in
            let t = c.loop-round.invariant.turned (c.first_unfinished.ensures.reads.sound looked) following s here in
            let u = with_events s t.grew.events in
            turned-more (turned-now t on (goes-read looked following u t.grew.stands_there c.in-Ok-Some.ensures.reads)) b
            (sym c.in-Ok-Some.field-0-is
            ∙ c.in-Ok-Some.ensures.first looked u (standing book.stands book.may_act following c.loop-round.book u t.grew.stands_there))
            (sym c.is_running.ensures ∙ w.if-is_running.true)
            (rw w.in-Ok-true.field-0-test at w.in-Ok-true.ensures.made sound following);
      })
      | else-is_running w ↦ rw (w.book-is, w.made-is) (record {
        each_once = let fewer = c.loop-round.invariant.each_once in omega arith;
        stays = looked_on;
        turned = λ sound following s here.
            let t = c.loop-round.invariant.turned (c.first_unfinished.ensures.reads.sound sound) following s here in
            let u = with_events s t.grew.events in
            turned-further t b
            (sym c.in-Ok-Some.field-0-is
            ∙ c.in-Ok-Some.ensures.first sound u (standing book.stands book.may_act following c.loop-round.book u t.grew.stands_there))
            (sym c.is_running.ensures ∙ w.if-is_running.false)
            (goes-read sound following u t.grew.stands_there c.in-Ok-Some.ensures.reads);
      })
    ]
