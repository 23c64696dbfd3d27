-- The numbers of a turn are small.
use Rattle.std.proofs.Common.{arith}
use Rattle.sql_commands.proofs.SmallLemmas.{turned_small}
use Rattle.sql_commands.proofs.moves.turn.Goals as goal

pub returns-clause-small : goal.returns-clause-small
returns-clause-small c =
    let found = c.args.found.now in
    let at = found.stand.cursor in
    record {
      journey = found.low;
      target = omega arith;
      cursor = rw c.cursor_turned-cursor.ensures.turned
          (turned_small at c.args.target c.args.cause (omega (arith, found.few, found.placed.within)) found.placed.counted (omega arith));
    }
