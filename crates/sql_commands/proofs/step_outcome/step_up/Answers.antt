-- The numbers of a step that is done are small.
use Rattle.std.proofs.Common.{arith}
use Rattle.sql_commands.proofs.SmallLemmas.{stepped_up_small}
use Rattle.sql_commands.proofs.step_outcome.step_up.Goals as goal

pub returns-clause-small : goal.returns-clause-small
returns-clause-small c =
    let found = c.args.found.now in
    let at = found.stand.cursor in
    record {
      journey = found.low;
      step = omega (arith, found.few);
      option = omega arith;
      cursor = rw c.cursor_up-cursor.ensures.up (stepped_up_small found.stand.steps at found.few found.placed c.requires.below);
    }
