-- The numbers of a save-point are small.
use Rattle.std.proofs.Common.{arith}
use Rattle.sql_commands.proofs.moves.save.Goals as goal

pub returns-clause-small : goal.returns-clause-small
returns-clause-small c =
    let found = c.args.found.now in
    record {
      journey = found.low;
      position = omega (arith, found.few, found.placed.within);
    }
