-- A refusal of the rules is the reply, and a turn or a save-point is written.
use Rattle.std.proofs.Common.{sym, arith, ap, subst, Ok, option_copied}
use Rattle.commands.specs.declared.items.Item.TheVariants.{Save}
use Rattle.ledger.specs.Answer.{asker}
use Rattle.sql_reads.specs.declared.reads.Stand.{Stand}
use Rattle.sql_commands.specs.Moving.{IsDue, IsMade}
use Rattle.sql_commands.proofs.ComingLemmas.{save_is, turn_is}
use Rattle.sql_commands.proofs.LeadLemmas.{answered_refused}
use Rattle.sql_commands.proofs.Executing.{answers_alone, executes_where, fails_alone}
use Rattle.sql_commands.proofs.Possible.{turn_possible}
use Rattle.sql_commands.proofs.moves.carry_out.Goals as goal

pub returns-in-Err : goal.returns-in-Err
returns-in-Err g c why =
    let ask = option_copied c.args.ask in
    let found = c.args.found.now in
    rw c.in-Err.is (answers_alone c.requires.outside (λ s due.
    answered_refused s ask found.id why c.in-Err.refusal due.new due.answered))

pub returns-else-target-gt-MOST_STEPS : goal.returns-else-target-gt-MOST_STEPS
returns-else-target-gt-MOST_STEPS g c why =
    let ask = option_copied c.args.ask in
    let found = c.args.found.now in
    let p = c.in-Turn.target in
    let cause = c.in-Turn.cause in
    rw (c.in-Ok.is, c.in-Turn.is) (executes_where (c.make_event.ensures why)
    (λ s due. subst (IsMade s ask found why) (sym c.turn-made.ensures.turn) (turn_is s ask found why p cause due)))

-- a target is in the plan
pub returns-then-target-gt-MOST_STEPS : goal.returns-then-target-gt-MOST_STEPS
returns-then-target-gt-MOST_STEPS g c why =
    let found = c.args.found.now in
    rw (c.in-Ok.is, c.in-Turn.is) (fails_alone c.requires.outside (λ s due store.
    let here = due.here in
    let who = asker (option_copied c.args.ask) in
    let within = turn_possible s due.desk who found.id here.journey c.in-Turn.target c.in-Turn.cause here.seen why due.answered in
    let steps = ap (λ (x : Stand). x.steps) here.stand in
    omega arith))

pub returns-in-Save : goal.returns-in-Save
returns-in-Save g c why =
    let ask = option_copied c.args.ask in
    let found = c.args.found.now in
    let place = rw (c.in-Ok.is, c.in-Save.is) at c.requires.kind in
    rw (c.in-Ok.is, c.in-Save.is) (executes_where (c.make_event-in-Save.ensures why)
    (λ s due. subst (IsMade s ask found why) (sym c.save-made.ensures.save)
    (save_is s ask found why (subst (λ p. IsDue s ask found why (Ok (Save p))) place due))))

pub returns-in-Transaction : goal.returns-in-Transaction
returns-in-Transaction g c why = absurd (rw (c.in-Ok.is, c.in-Transaction.is) at c.requires.kind)

pub returns-in-Compensation : goal.returns-in-Compensation
returns-in-Compensation g c why = absurd (rw (c.in-Ok.is, c.in-Compensation.is) at c.requires.kind)
