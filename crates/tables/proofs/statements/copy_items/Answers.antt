-- Each number is passed as an integer of the same value.
use Rattle.std.proofs.Common.{◌<◌, ◌^◌, Ok, arith, rules}
use Rattle.sqlite.specs.Held.{state}
use Rattle.desk_sql.proofs.Writing.{pos_is}
use Rattle.desk_sql.specs.Causes.{HasReason}
use Rattle.tables.proofs.CopyReasons.{copy_reason}
use Rattle.tables.proofs.Filling.{copies_range}
use Rattle.tables.proofs.statements.copy_items.Goals as goal

pub returns-clause-made : goal.returns-clause-made
returns-clause-made g c clean t has =
    let first : c.args.first < 2 ^ 63 = omega (arith, c.requires.order, c.requires.last) in
    let last = c.requires.last in
    copies_range c.args.first c.args.last (state g.S.Store c.args.tx.now.conn.now) (state g.S.Store c.execute.new.self.conn.now) t
    (Ok c.in_ok-execute.field-0) c.requires.order has
    (simp pos_is at (c.in_ok-execute.ensures.runs clean has.inside))

-- no rule of the tables refuses a copy
pub returns-in_err-execute-clause-reason : goal.returns-in_err-execute-clause-reason
returns-in_err-execute-clause-reason g c clean t has up =
    let first : c.args.first < 2 ^ 63 = omega (arith, c.requires.order, c.requires.last) in
    let last = c.requires.last in
    let a = state g.S.Store c.args.tx.now.conn.now in
    let b = state g.S.Store c.execute.new.self.conn.now in
    let reason : HasReason a b c.in_err-execute.field-0.0 =
    copy_reason c.args.first c.args.last c.requires.order last a t has b c.in_err-execute.field-0.0 up
    (simp pos_is at (c.in_err-execute.ensures.runs clean has.inside)) in
    search rules
