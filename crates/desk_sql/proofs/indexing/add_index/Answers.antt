-- The text makes the index, or fails for a reason.
use Rattle.std.proofs.Common.{Ok, rules}
use Rattle.sqlite.specs.Held.{state}
use Rattle.desk_sql.proofs.AgentIndex.{makes_index, index_reason}
use Rattle.desk_sql.proofs.indexing.add_index.Goals as goal

pub returns-clause-made : goal.returns-clause-made
returns-clause-made g c clean may =
    let a = state g.S.Store c.args.tx.now.conn.now in
    let b = state g.S.Store c.execute.new.self.conn.now in
    makes_index a b (Ok c.in_ok-execute.field-0) may (c.in_ok-execute.ensures.runs clean may.inside)

pub returns-in_err-execute-clause-reason : goal.returns-in_err-execute-clause-reason
returns-in_err-execute-clause-reason g c clean may short up =
    let reason = index_reason (state g.S.Store c.args.tx.now.conn.now) (state g.S.Store c.execute.new.self.conn.now) c.in_err-execute.field-0.0
    may short up (c.in_err-execute.ensures.runs clean may.inside) in
    search rules
