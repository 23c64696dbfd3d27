-- More than 60 lines: a loop and five ways out.
use Rattle.std.proofs.Common.{sym, ◌∙◌, arith}
use Rattle.saga_core.proofs.CallLemmas.{stays_read, stays_served, stays_twice}
use Rattle.recovery.specs.Growing.{with_events}
use Rattle.recovery.proofs.CarriedLemmas.{carried-all, carried-cut, carried-fault, carried-further, carried-look, carried-more, carried-over, goes-first}
use Rattle.recovery.proofs.FollowLemmas.{come, goes-read, left-read, standing}
use Rattle.recovery.proofs.PassLemmas.{sum-fits}
use Rattle.recovery.proofs.passes.carry.Goals as goal
use Rattle.recovery.proofs.passes.carry.Goals.{then-goes_on+in-Ok-Through, else-goes_on}

-- no journey is left
pub returns-in-Ok-None-clause-came : goal.returns-in-Ok-None-clause-came
returns-in-Ok-None-clause-came g c sound following s here =
    let book = g.B.Book in
    let t = c.loop-round.invariant.carried (c.first_unfinished.ensures.reads.sound sound) following s here in
    let u = with_events s t.grew.events in
    carried-all t
    (sym c.in-Ok-None.field-0-is
    ∙ c.in-Ok-None.ensures.first sound u (standing book.stands book.may_act following c.loop-round.book u t.grew.stands_there))
    (goes-read sound following u t.grew.stands_there c.in-Ok-None.ensures.reads)

-- all rounds are over
pub returns-clause-came : goal.returns-clause-came
returns-clause-came g c sound following s here =
    let book = g.B.Book in
    let t = c.loop-round.invariant.carried sound following s here in
    carried-over t (omega (arith, c.loop-round-test.false))
    (come book.stands book.may_act following c.loop-round.book (with_events s t.grew.events) t.grew.stands_there)

-- the ledger was full within a journey
pub returns-in-Ok-Full-clause-came : goal.returns-in-Ok-Full-clause-came
returns-in-Ok-Full-clause-came g c sound following s here =
    let book = g.B.Book in
    let looked = c.carry_one.ensures.serves.sound sound in
    let t = c.loop-round.invariant.carried (c.first_unfinished.ensures.reads.sound looked) following s here in
    let u = with_events s t.grew.events in
    let b = c.in-Ok-Some.brief in
    let first = sym c.in-Ok-Some.field-0-is
    ∙ c.in-Ok-Some.ensures.first looked u (standing book.stands book.may_act following c.loop-round.book u t.grew.stands_there) in
    let more = rw c.in-Ok-Full.field-0-is at c.in-Ok-Full.ensures.came sound following u
    (goes-read looked following u t.grew.stands_there c.in-Ok-Some.ensures.reads)
    (goes-first c.args.pass u.ledger c.loop-round.after b first (sym c.goes_on.ensures ∙ c.if-goes_on.true)) in
    carried-cut t b first more (let fits = sum-fits c.in-Ok-Full.more t.grew more.grew.within in omega (arith, c.saturating_add.ensures, fits))

-- a read of the book met a fault
pub returns-in-Err-clause-came : goal.returns-in-Err-clause-came
returns-in-Err-clause-came g c sound following s here =
    let t = c.loop-round.invariant.carried (c.first_unfinished.ensures.reads.sound sound) following s here in
    carried-look t
    (left-read sound following (with_events s t.grew.events) t.grew.stands_there c.in-Err.fault g.met.B.Book.settled c.in-Err.ensures.reads)

-- a fault within a journey
pub returns-in-Err-carry_one-clause-came : goal.returns-in-Err-carry_one-clause-came
returns-in-Err-carry_one-clause-came g c sound following s here =
    let book = g.B.Book in
    let looked = c.carry_one.ensures.serves.sound sound in
    let t = c.loop-round.invariant.carried (c.first_unfinished.ensures.reads.sound looked) following s here in
    let u = with_events s t.grew.events in
    let b = c.in-Ok-Some.brief in
    let first = sym c.in-Ok-Some.field-0-is
    ∙ c.in-Ok-Some.ensures.first looked u (standing book.stands book.may_act following c.loop-round.book u t.grew.stands_there) in
    carried-fault t b first
    (c.in-Err-carry_one.ensures.came sound following u (goes-read looked following u t.grew.stands_there c.in-Ok-Some.ensures.reads)
    (goes-first c.args.pass u.ledger c.loop-round.after b first (sym c.goes_on.ensures ∙ c.if-goes_on.true)))

-- one more journey: the pass stepped it, or has nothing to do with it
pub loop-round-preserved : goal.loop-round-preserved
loop-round-preserved g c =
    let book = g.B.Book in
    let looked_on = stays_twice c.loop-round.invariant.stays (stays_read c.first_unfinished.ensures.reads) in
    let b = c.in-Ok-Some.brief in
    elim c.if-goes_on.branch [
      | then-goes_on+in-Ok-Through w ↦ rw (w.book-is, w.made-is) (record {
        stays = stays_twice looked_on (stays_served w.carry_one.ensures.serves);
        carried = λ sound following s here.
            let looked = w.carry_one.ensures.serves.sound sound in
            let t = c.loop-round.invariant.carried (c.first_unfinished.ensures.reads.sound looked) following s here in
            let u = with_events s t.grew.events in
            let first = sym c.in-Ok-Some.field-0-is
            ∙ c.in-Ok-Some.ensures.first looked u (standing book.stands book.may_act following c.loop-round.book u t.grew.stands_there) in
            let more = rw w.in-Ok-Through.field-0-is at w.in-Ok-Through.ensures.came sound following u
            (goes-read looked following u t.grew.stands_there c.in-Ok-Some.ensures.reads)
            (goes-first c.args.pass u.ledger c.loop-round.after b first (sym c.goes_on.ensures ∙ w.if-goes_on.true)) in
            carried-more t b first more
            (let fits = sum-fits w.in-Ok-Through.more t.grew more.within in omega (arith, w.saturating_add-made.ensures, fits));
      })
      | else-goes_on w ↦ rw (w.book-is, w.made-is) (record {
        stays = looked_on;
        carried = λ sound following s here.
            let t = c.loop-round.invariant.carried (c.first_unfinished.ensures.reads.sound sound) following s here in
            let u = with_events s t.grew.events in
            carried-further t b
            (sym c.in-Ok-Some.field-0-is
            ∙ c.in-Ok-Some.ensures.first sound u (standing book.stands book.may_act following c.loop-round.book u t.grew.stands_there))
            (sym c.goes_on.ensures ∙ w.if-goes_on.false)
            (goes-read sound following u t.grew.stands_there c.in-Ok-Some.ensures.reads);
      })
    ]
