-- More than 60 lines: six ways out.
use Rattle.std.proofs.Common.{arith}
use Rattle.recovery.specs.Following.{HasCome}
use Rattle.recovery.specs.Growing.{with_events}
use Rattle.recovery.specs.Passes.{IsUnderWay, IsThrough, made_by}
use Rattle.recovery.specs.declared.passes.Pass.TheVariants.{On}
use Rattle.recovery.proofs.FinishLemmas.{turns-cut, back-cut, came-within, on-came, turns-fault, back-fault, on-fault}
use Rattle.recovery.proofs.FollowLemmas.{came-over, come-standing, standing}
use Rattle.recovery.proofs.PassLemmas.{sum-fits, sums-fit}
use Rattle.recovery.proofs.recovering.recover_all.Goals as goal

-- the turns filled the ledger
pub returns-in-Ok-Full-clause-recovered : goal.returns-in-Ok-Full-clause-recovered
returns-in-Ok-Full-clause-recovered g c sound following s here =
    let book = g.B.Book in
    turns-cut (g.met.B.Book.legal c.args.book.now s (standing book.stands book.may_act following c.args.book.now s here))
    (rw c.in-Ok-Full.field-0-is at c.in-Ok-Full.ensures.came sound following s here)

-- the way back filled the ledger
pub returns-in-Ok-Full-carry-clause-recovered : goal.returns-in-Ok-Full-carry-clause-recovered
returns-in-Ok-Full-carry-clause-recovered g c sound following s here =
    let book = g.B.Book in
    let t = rw c.in-Ok-Through.field-0-is at c.in-Ok-Through.ensures.came (c.carry.ensures.serves.sound sound) following s here in
    let b = rw c.in-Ok-Full-carry.field-0-is at c.in-Ok-Full-carry.ensures.came sound following
    (with_events s t.events) t.stands_there in
    back-cut (g.met.B.Book.legal c.args.book.now s (standing book.stands book.may_act following c.args.book.now s here)) t b
    (let fits = sum-fits c.in-Ok-Full-carry.made t b.grew.within in omega (arith, c.saturating_add.ensures, fits))

-- the way on completed, or filled the ledger
pub returns-in-Ok-clause-recovered : goal.returns-in-Ok-clause-recovered
returns-in-Ok-clause-recovered g c sound following s here =
    let book = g.B.Book in
    let on_way = c.carry-2.ensures.serves.sound sound in
    let t = rw c.in-Ok-Through.field-0-is at c.in-Ok-Through.ensures.came
    (c.carry.ensures.serves.sound on_way) following s here in
    let b = rw c.in-Ok-Through-carry.field-0-is at c.in-Ok-Through-carry.ensures.came on_way following
    (with_events s t.events) t.stands_there in
    let last = with_events (with_events s t.events) b.events in
    let through = IsThrough On last.ledger in
    let under_way = IsUnderWay On last.ledger in
    let came = came-over book.stands book.may_act following c.carry-2.new.book last through under_way c.in-Ok.came
    (c.in-Ok.ensures.came sound following last b.stands_there) in
    let within = came-within (HasCome book.stands book.may_act following c.carry-2.new.book) last through under_way c.in-Ok.came came in
    let fits = sums-fit (made_by c.in-Ok.came) t b within in
    on-came (g.met.B.Book.legal c.args.book.now s (standing book.stands book.may_act following c.args.book.now s here)) t b c.in-Ok.came
    (λ u there. g.met.B.Book.legal c.carry-2.new.book u (come-standing book.stands book.may_act following c.carry-2.new.book u there)) came
    (omega (arith, c.saturating_add-in-Ok.ensures, c.saturating_add-back.ensures, c.made.ensures, fits))

-- a fault in the turns
pub returns-in-Err-clause-recovered : goal.returns-in-Err-clause-recovered
returns-in-Err-clause-recovered g c sound following s here =
    let book = g.B.Book in
    turns-fault (g.met.B.Book.legal c.args.book.now s (standing book.stands book.may_act following c.args.book.now s here))
    (c.in-Err.ensures.came sound following s here)

-- a fault on the way back
pub returns-in-Err-carry-clause-recovered : goal.returns-in-Err-carry-clause-recovered
returns-in-Err-carry-clause-recovered g c sound following s here =
    let book = g.B.Book in
    let t = rw c.in-Ok-Through.field-0-is at c.in-Ok-Through.ensures.came (c.carry.ensures.serves.sound sound) following s here in
    back-fault (g.met.B.Book.legal c.args.book.now s (standing book.stands book.may_act following c.args.book.now s here)) t
    (c.in-Err-carry.ensures.came sound following (with_events s t.events) t.stands_there)

-- a fault on the way on
pub returns-in-Err-carry-2-clause-recovered : goal.returns-in-Err-carry-2-clause-recovered
returns-in-Err-carry-2-clause-recovered g c sound following s here =
    let book = g.B.Book in
    let on_way = c.carry-2.ensures.serves.sound sound in
    let t = rw c.in-Ok-Through.field-0-is at c.in-Ok-Through.ensures.came
    (c.carry.ensures.serves.sound on_way) following s here in
    let b = rw c.in-Ok-Through-carry.field-0-is at c.in-Ok-Through-carry.ensures.came on_way following
    (with_events s t.events) t.stands_there in
    on-fault (g.met.B.Book.legal c.args.book.now s (standing book.stands book.may_act following c.args.book.now s here)) t b
    (c.in-Err-carry-2.ensures.came sound following (with_events (with_events s t.events) b.events) b.stands_there)
