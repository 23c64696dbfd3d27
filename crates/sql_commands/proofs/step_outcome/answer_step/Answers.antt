-- The outcome that the rows of a step give is the reply, and is written.
-- More than 60 lines: seven ways out.
use Rattle.std.proofs.Common.{rules, subst, sym, option_copied}
use Rattle.commands.specs.declared.replies.Refusal.TheVariants.{Finished}
use Rattle.ledger.specs.Answer.{asker}
use Rattle.sql_reads.proofs.ReadLemmas.{read_both}
use Rattle.sql_commands.specs.Moving.{IsMade}
use Rattle.sql_commands.specs.declared.moves.Motion.TheVariants as motion
use Rattle.sql_commands.proofs.ComingLemmas.{made_step, stand_there, unfit_seen}
use Rattle.sql_commands.proofs.LeadLemmas.{answered_refused, unseen_refused}
use Rattle.sql_commands.proofs.Executing.{reads_alone, reads_fail, reads_then, then_fails}
use Rattle.sql_commands.proofs.step_outcome.answer_step.Goals as goal

-- the caller sees no such journey
pub returns-in-Ok-None : goal.returns-in-Ok-None
returns-in-Ok-None g c =
    reads_alone (λ s due. due.desk) c.requires.outside (rw c.in-Ok-None.field-0-is at c.in-Ok-None.ensures.read)
    (λ s due none. unseen_refused s (option_copied c.args.ask) c.args.id motion.Refused due.new none)

pub returns-in-Err : goal.returns-in-Err
returns-in-Err g c = reads_fail (λ s due. due.desk) (search rules) c.requires.outside c.in-Err.ensures.read (λ s due. tt)

pub returns-in_err-choice-in-Ok-Some : goal.returns-in_err-choice-in-Ok-Some
returns-in_err-choice-in-Ok-Some g c =
    then_fails (λ s due. due.desk) (search rules) c.requires.outside (rw c.in-Ok-Some.field-0-is at c.in-Ok-Some.ensures.read)
    c.in_err-choice-in-Ok-Some.ensures.read (λ s due here. stand_there s (option_copied c.args.ask) c.in-Ok-Some.found here)

-- a step that is done
pub returns-in-Up : goal.returns-in-Up
returns-in-Up g c =
    let ask = option_copied c.args.ask in
    let found = c.in-Ok-Some.found in
    let number = rw c.in-Ok-Some.field-0-is at c.in-Ok-Some.ensures.number in
    rw (← number) (reads_then (λ s due. due.desk)
    (read_both (rw c.in-Ok-Some.field-0-is at c.in-Ok-Some.ensures.read) (rw c.in-Up.is at c.in_ok-choice-in-Ok-Some.ensures.read))
    (c.make_event.ensures motion.Refused) (λ s due both. (let here = both.0 in
    subst (IsMade s ask found motion.Refused) (sym c.step_up-made.ensures.up)
    (made_step s ask found _ due.desk due.new here (both.1 (asker ask) here.journey here.seen here.stand)))))

-- a step that is compensated
pub returns-in-Down : goal.returns-in-Down
returns-in-Down g c =
    let ask = option_copied c.args.ask in
    let found = c.in-Ok-Some.found in
    let number = rw c.in-Ok-Some.field-0-is at c.in-Ok-Some.ensures.number in
    rw (← number) (reads_then (λ s due. due.desk)
    (read_both (rw c.in-Ok-Some.field-0-is at c.in-Ok-Some.ensures.read) (rw c.in-Down.is at c.in_ok-choice-in-Ok-Some.ensures.read))
    (c.make_event-in-Down.ensures motion.Refused) (λ s due both. (let here = both.0 in
    subst (IsMade s ask found motion.Refused) (sym c.step_down-made.ensures.down)
    (made_step s ask found _ due.desk due.new here (both.1 (asker ask) here.journey here.seen here.stand)))))

-- a turn, which the plan decides
pub returns-in-Refused : goal.returns-in-Refused
returns-in-Refused g c =
    let ask = option_copied c.args.ask in
    let number = rw c.in-Ok-Some.field-0-is at c.in-Ok-Some.ensures.number in
    rw (← number) (reads_then (λ s due. due.desk)
    (read_both (rw c.in-Ok-Some.field-0-is at c.in-Ok-Some.ensures.read) (rw c.in-Refused.is at c.in_ok-choice-in-Ok-Some.ensures.read))
    c.answer_motion.ensures (λ s due both. (let here = both.0 in record {
      desk = due.desk;
      new = due.new;
      here = here;
      unfit = unfit_seen s (asker ask) c.in-Ok-Some.found.id here.journey here.seen (both.1 (asker ask) here.journey here.seen here.stand);
    })))

-- the journey has finished
pub returns-in-Nothing : goal.returns-in-Nothing
returns-in-Nothing g c =
    let ask = option_copied c.args.ask in
    let number = rw c.in-Ok-Some.field-0-is at c.in-Ok-Some.ensures.number in
    rw (← number) (reads_alone (λ s due. due.desk) c.requires.outside
    (read_both (rw c.in-Ok-Some.field-0-is at c.in-Ok-Some.ensures.read) (rw c.in-Nothing.is at c.in_ok-choice-in-Ok-Some.ensures.read))
    (λ s due both. (let here = both.0 in
    answered_refused s ask c.in-Ok-Some.found.id motion.Refused Finished due.new (both.1 (asker ask) here.journey here.seen here.stand))))
