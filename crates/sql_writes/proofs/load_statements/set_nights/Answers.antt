-- Each number is passed as the integer that it is.
use Rattle.std.proofs.Common.{arith, rules}
use Rattle.sqlite.specs.Held.{state}
use Rattle.desk_sql.proofs.Effects.{numbered}
use Rattle.desk_sql.proofs.Writing.{pos_is}
use Rattle.sql_writes.proofs.LoadedCells.{counts_nights, sets_places}
use Rattle.sql_writes.proofs.load_statements.set_nights.Goals as goal

pub returns : goal.returns
returns g c =
    let a = c.args in
    let small = c.requires.range in
    let runs = (simp (
      pos_is a.range.kind small.0,
      pos_is a.range.first small.1.0,
      pos_is a.range.last small.1.1.0,
      pos_is a.allot c.requires.allot,
      pos_is a.free c.requires.free,
      c.as_bytes.ensures.value,
      c.as_bytes-2.ensures.value,
    ) at c.execute.ensures.runs) in
    record {
      writes = numbered (sets_places a.range a.allot a.free) (λ n. omega arith) runs (search rules);
      count = λ clean t may.
          counts_nights (state g.S.Store a.tx.now.conn.now) (state g.S.Store c.execute.new.self.conn.now) t a.range a.allot a.free c.execute.result may
          (runs clean may.inside);
    }
