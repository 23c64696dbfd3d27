-- A journey that the caller sees is moved, and any other is refused.
use Rattle.std.proofs.Common.{rules, option_copied}
use Rattle.sql_commands.proofs.LeadLemmas.{unseen_refused}
use Rattle.sql_commands.proofs.Executing.{reads_alone, reads_fail, reads_then}
use Rattle.sql_commands.proofs.moves.answer_move.Goals as goal

-- the caller sees no such journey, and nothing changes
pub returns-in-Ok-None : goal.returns-in-Ok-None
returns-in-Ok-None g c =
    reads_alone (λ s due. due.here.desk) c.requires.outside (rw c.in-Ok-None.field-0-is at c.in-Ok-None.ensures.read)
    (λ s due none. unseen_refused s (option_copied c.args.ask) c.args.id c.args.why due.here.new none)

pub returns-in-Err : goal.returns-in-Err
returns-in-Err g c = reads_fail (λ s due. due.here.desk) (search rules) c.requires.outside c.in-Err.ensures.read (λ s due. tt)

-- what was read is handed on
pub returns-in-Ok-Some : goal.returns-in-Ok-Some
returns-in-Ok-Some g c =
    let number = rw c.in-Ok-Some.field-0-is at c.in-Ok-Some.ensures.number in
    rw (← number) (reads_then (λ s due. due.here.desk) (rw c.in-Ok-Some.field-0-is at c.in-Ok-Some.ensures.read) c.answer_motion.ensures
    (λ s due here. record { desk = due.here.desk; new = due.here.new; here = here; unfit = due.unfit }))
