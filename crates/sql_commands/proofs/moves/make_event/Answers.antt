-- The item is what the rules answer.
use Rattle.std.proofs.Common.{option_copied}
use Rattle.sql_commands.specs.Moving.{asked_for}
use Rattle.sql_commands.proofs.EventCommits.{made_answered}
use Rattle.sql_commands.proofs.Executing.{executes_where}
use Rattle.sql_commands.proofs.moves.make_event.Goals as goal

pub returns : goal.returns
returns g c why =
    executes_where (c.commit_answered.ensures (asked_for c.args.found.now.id why))
    (λ s made. made_answered s (option_copied c.args.ask) c.args.found.now c.args.made.now why made)
