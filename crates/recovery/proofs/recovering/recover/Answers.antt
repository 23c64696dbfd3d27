-- More than 60 lines: two ways out and eight clauses.
use Rattle.std.proofs.Common.{arith, subst, Some, None}
use Rattle.ledger.specs.Answer.{start}
use Rattle.ledger.specs.World.{after}
use Rattle.recovery.specs.Following.{LeftAt}
use Rattle.recovery.specs.Growing.{with_events}
use Rattle.recovery.specs.Reasons.{MayRecover}
use Rattle.recovery.specs.Recovers.{RecoversPart}
use Rattle.recovery.proofs.RecoverLemmas.{recovery-finishes, recovery-within}
use Rattle.recovery.proofs.WorldLemmas.{world-recovered, world-cut}
use Rattle.recovery.proofs.recovering.recover.Goals as goal

-- the book represents the recovered state
pub returns-in-Ok-clause-recovered : goal.returns-in-Ok-clause-recovered
returns-in-Ok-clause-recovered g c = rw c.new.ensures.same (λ sound. c.in-Ok.ensures.recovered sound None)

-- at a fault a prefix of it is left
pub returns-in-Err-clause-fault : goal.returns-in-Err-clause-fault
returns-in-Err-clause-fault g c = λ sound. c.in-Err.ensures.recovered sound None

-- the recovered ledger has no unfinished journey
pub returns-in-Ok-clause-finished : goal.returns-in-Ok-clause-finished
returns-in-Ok-clause-finished g c = rw c.new.ensures.same (λ sound s r st is fits.
    let grew = c.in-Ok.ensures.recovered sound None s st in
    record {
      state = with_events s grew.events;
      stands_there = grew.stands_there;
      finished = recovery-finishes s.ledger grew.events r grew.are is fits;
    })

-- recovery makes no more events than the bound
pub returns-in-Ok-clause-bound : goal.returns-in-Ok-clause-bound
returns-in-Ok-clause-bound g c = rw c.new.ensures.same (λ sound s st.
    let grew = c.in-Ok.ensures.recovered sound None s st in
    let counted = grew.counted in
    let within = recovery-within s.ledger grew.events (g.met.B.Book.legal c.args.book s st) grew.are in
    omega arith)

-- an execution continues with the requests of recovery
pub returns-in-Ok-clause-world : goal.returns-in-Ok-clause-world
returns-in-Ok-clause-world g c = rw c.new.ensures.same (λ sound w here.
    let s = after start w in
    world-recovered (g.B.Book.stands c.recover_all.new.book) (g.B.Book.leaves c.recover_all.new.book) w c.in-Ok.made
    (g.met.B.Book.settled c.recover_all.new.book) here (g.met.B.Book.legal c.args.book s here.stands_there)
    (c.in-Ok.ensures.recovered sound None s here.stands_there))

-- at a fault an execution continues with a prefix of them
pub returns-in-Err-clause-world_at_fault : goal.returns-in-Err-clause-world_at_fault
returns-in-Err-clause-world_at_fault g c sound w here =
    let s = after start w in
    world-cut (g.B.Book.stands c.recover_all.new.book) (g.B.Book.leaves c.recover_all.new.book) w
    c.in-Err.fault here (g.met.B.Book.legal c.args.book s here.stands_there)
    (c.in-Err.ensures.recovered sound None s here.stands_there)

-- the book may act for the later asks
pub returns-in-Ok-clause-may_act : goal.returns-in-Ok-clause-may_act
returns-in-Ok-clause-may_act g c =
    rw c.new.ensures.same (λ sound first later s may. c.in-Ok.ensures.recovered sound (Some (first, later)) s may)

-- the store failed for a reason
pub returns-in-Err-clause-reason : goal.returns-in-Err-clause-reason
returns-in-Err-clause-reason g c sound first later store =
    let book = g.B.Book in
    subst (λ f. RecoversPart (MayRecover (book.stands c.args.book) (book.may_act first c.args.book) later)
    (LeftAt book.stands book.leaves book.has_reason (Some (first, later)) c.recover_all.new.book f) f) store
    (c.in-Err.ensures.recovered sound (Some (first, later)))
