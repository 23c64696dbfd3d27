-- The numbers of a step that is compensated are small.
use Rattle.std.proofs.Common.{arith}
use Rattle.sql_commands.proofs.SmallLemmas.{stepped_down_small}
use Rattle.sql_commands.proofs.step_outcome.step_down.Goals as goal

pub returns-clause-small : goal.returns-clause-small
returns-clause-small c =
    let found = c.args.found.now in
    let at = found.stand.cursor in
    record {
      journey = found.low;
      step = omega (arith, found.few, found.placed.within);
      option = omega arith;
      cursor = rw c.cursor_down-cursor.ensures.down (stepped_down_small found.stand.steps at found.few found.placed);
    }
