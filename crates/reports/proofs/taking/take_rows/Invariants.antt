use Rattle.std.proofs.Common.{◌≡◌, List, length}
use Rattle.reports.proofs.TakeLemmas.{Goes, Taken}
use Rattle.reports.proofs.taking.take_rows.Given as goal

-- so many rows were taken, and the later ones remain
abbrev pub invariant-loop-round : goal.invariant-loop-round
invariant-loop-round g l =
    let source = g.R.RowSource in
    record {
      many : length l.list.items ≡ l._round;
      read : source.is_sound l.rows → (all : List _) → source.rests l.fn.rows all → Taken (source.rests l.rows) all l.list.items;
      takes : Goes source l.fn.rows l.rows;
    }
