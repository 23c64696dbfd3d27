-- The second table is added to those that the first text made.
use Rattle.std.proofs.Common.{Ok, ◌∙◌, arith, rules}
use Rattle.sqlite.specs.State.{HasCleanDisk}
use Rattle.sqlite.specs.Held.{state}
use Rattle.desk_sql.specs.Causes.{HasReason, IsUp}
use Rattle.desk_sql.specs.Schema.{seven_schema, entry2_at, mark_at}
use Rattle.desk_sql.specs.Texts.{entry2_text, mark_text}
use Rattle.desk_sql.proofs.CreateReasons.{create_reason, reason_since, entry2_is_new, mark_is_new}
use Rattle.desk_sql.proofs.Making.{schema_8}
use Rattle.tables.proofs.Adding.{adds_entry2, adds_mark, has_added}
use Rattle.tables.proofs.statements.add_tables.Goals as goal

pub returns-clause-made : goal.returns-clause-made
returns-clause-made g c clean t may =
    let a = state g.S.Store c.args.tx.now.conn.now in
    let b = state g.S.Store c.execute.new.self.conn.now in
    let d = state g.S.Store c.execute-2.new.self.conn.now in
    let at_b : HasCleanDisk b = omega (arith, c.execute-2.ensures.survives.clean) in
    let one = adds_entry2 a b t (Ok c.in_ok-execute.field-0) may (c.in_ok-execute.ensures.runs at_b may.inside) in
    let two = adds_mark a b d (Ok c.in_ok-execute-2.field-0) one (c.in_ok-execute-2.ensures.runs clean one.inside) in
    has_added a b d t may one two

-- each of the two texts fails for a reason
pub returns-in_err-execute-clause-reason : goal.returns-in_err-execute-clause-reason
returns-in_err-execute-clause-reason g c clean t may up =
    let a = state g.S.Store c.args.tx.now.conn.now in
    let b = state g.S.Store c.execute.new.self.conn.now in
    let e = c.in_err-execute.field-0.0 in
    let reason : HasReason a b e = create_reason seven_schema entry2_text (entry2_at 0) entry2_is_new a b e up (may.sees up.is_open).schema.is
    (c.in_err-execute.ensures.runs clean may.inside) in
    search rules

pub returns-in_err-execute-2-clause-reason : goal.returns-in_err-execute-2-clause-reason
returns-in_err-execute-2-clause-reason g c clean t may up =
    let a = state g.S.Store c.args.tx.now.conn.now in
    let b = state g.S.Store c.execute.new.self.conn.now in
    let d = state g.S.Store c.execute-2.new.self.conn.now in
    let at_b : HasCleanDisk b = omega (arith, c.execute-2.ensures.survives.clean) in
    let one = adds_entry2 a b t (Ok c.in_ok-execute.field-0) may (c.in_ok-execute.ensures.runs at_b may.inside) in
    let e = c.in_err-execute-2.field-0.0 in
    let still : IsUp b = record { is_open = one.is_open; unlimited = c.execute.ensures.survives.limit ∙ up.unlimited } in
    let reason : HasReason a d e = reason_since a b d e c.execute.ensures.survives.counts
    (create_reason schema_8 mark_text (mark_at 0) mark_is_new b d e still one.schema (c.in_err-execute-2.ensures.runs clean one.inside)) in
    search rules
