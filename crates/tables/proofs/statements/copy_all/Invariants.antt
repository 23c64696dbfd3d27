-- So far the items below the next number are copied; each range raises that number.
use Rattle.std.proofs.Common.{◌≡◌, ◌≤◌, ◌+◌, ◌-◌}
use Rattle.tables.specs.Copying.{CopiesSoFar}
use Rattle.tables.proofs.statements.copy_all.Given as goal

abbrev pub invariant-loop-first : goal.invariant-loop-first
invariant-loop-first g l =
    record {
      same : l.tx.conn.ghost_name ≡ l.fn.tx.conn.ghost_name;
      within : l.first ≤ l.events + 1;
      copied : CopiesSoFar g.S.Store l.fn.tx.conn.now l.tx.conn.now l.first;
    }

abbrev pub decreases-loop-first : goal.decreases-loop-first
decreases-loop-first g l = l.events + 1 - l.first
