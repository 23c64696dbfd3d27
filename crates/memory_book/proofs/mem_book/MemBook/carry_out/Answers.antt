use Rattle.std.proofs.Common.{◌<◌, ◌≤◌, refl, length, ap, sym, subst, ◌∙◌, arith, suc, is_some, IfOk}
use Rattle.std.specs.Option.{option_copied}
use Rattle.commands.specs.declared.replies.Refusal.TheVariants.{Limit}
use Rattle.ledger.specs.Answer.{asker, answer_within, limited, most_events}
use Rattle.ledger.specs.Replies.{Answer}
use Rattle.ledger.proofs.Answers.{IsAllowedEvent, answer-allowed}
use Rattle.saga_core.specs.Rulings.{Fits}
use Rattle.memory_book.specs.Memory.{Carried}
use Rattle.memory_book.specs.MemoryJourneys.{IsNext}
use Rattle.memory_book.proofs.GrowthLemmas.{limited-room, limited-full, carried_out-refused, room_left}
use Rattle.memory_book.proofs.ReadyLemmas.{a_journey}
use Rattle.memory_book.proofs.mem_book.MemBook.carry_out.Goals as goal

-- there is no item
pub returns-in-Err : goal.returns-in-Err
returns-in-Err c s here asked good move =
    let m = c.args.self.now in
    let said = answer_within s.ledger (asker (option_copied c.args.ask)) asked in
    let k = a_journey m.journeys.items c.args.place c.requires.within in
    carried_out-refused m s (option_copied c.args.ask) (limited s.ledger said) c.in-Err.refusal here
    (ap (limited s.ledger)
    (subst (Fits (suc c.args.place) k.0.plan k.0.cursor said) c.in-Err.is (move k.0 k.1))) _ refl

-- the ledger is full
pub returns-then-is_full : goal.returns-then-is_full
returns-then-is_full c s here asked good move =
    let m = c.args.self.now in
    let said = answer_within s.ledger (asker (option_copied c.args.ask)) asked in
    let k = a_journey m.journeys.items c.args.place c.requires.within in
    let told = subst (Fits (suc c.args.place) k.0.plan k.0.cursor said) c.in-Ok.is (move k.0 k.1) in
    let most : most_events ≤ m.events = c.is_full.ensures.full.0 c.if-is_full.true in
    carried_out-refused m s (option_copied c.args.ask) (limited s.ledger said) Limit here
    (limited-full s.ledger said (ap (λ (a : Answer). is_some a.event) told)
    (omega (arith, here.events))) _ refl

-- the journey may make the item
pub make-requires-clause-next : goal.make-requires-clause-next
make-requires-clause-next c k at =
    subst (λ n. IfOk n (IsNext k.plan k.cursor)) c.in-Ok.is (c.requires.next k at)

-- the item is made
pub returns-else-is_full : goal.returns-else-is_full
returns-else-is_full c s here asked good move =
    let m = c.args.self.now in
    let ask = option_copied c.args.ask in
    let said = answer_within s.ledger (asker ask) asked in
    let k = a_journey m.journeys.items c.args.place c.requires.within in
    let left : m.events < most_events =
    room_left c.is_full.result _ m.events c.is_full.ensures.full c.if-is_full.false in
    let room : length s.ledger < most_events = omega (arith, here.events) in
    let told = limited-room s.ledger said room
    ∙ subst (Fits (suc c.args.place) k.0.plan k.0.cursor said) c.in-Ok.is (move k.0 k.1) in
    let may = subst (λ (a : Answer). IsAllowedEvent s.ledger a.event) told
    (answer-allowed s.ledger (asker ask) asked good) in
    subst (λ (a : Answer). Carried c.make.new.self s ask a c.make.result) (sym told)
    (c.make.ensures s here k.0 k.1 may)
