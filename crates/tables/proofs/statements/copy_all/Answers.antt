-- A range that is not copied has a reason: the ranges before it left the store up.
use Rattle.std.proofs.Common.{◌∙◌, arith, rules}
use Rattle.sqlite.specs.State.{HasCleanDisk}
use Rattle.sqlite.specs.Held.{state}
use Rattle.desk_sql.specs.Causes.{HasReason, IsUp}
use Rattle.desk_sql.proofs.CreateReasons.{reason_since}
use Rattle.tables.specs.Copying.{HasCopied}
use Rattle.tables.proofs.statements.copy_all.Goals as goal

pub returns-in_err-copy_items-clause-reason : goal.returns-in_err-copy_items-clause-reason
returns-in_err-copy_items-clause-reason g c clean t has up =
    let old = state g.S.Store c.args.tx.now.conn.now in
    let mid = state g.S.Store c.loop-first.tx.conn.now in
    let new = state g.S.Store c.copy_items.new.tx.conn.now in
    let at_mid : HasCleanDisk mid = omega (arith, c.copy_items.ensures.goes.survives.clean) in
    let so_far = c.loop-first.invariant.copied in
    let copied : HasCopied c.loop-first.first mid t = so_far.made at_mid t has in
    let still : IsUp mid = record { is_open = copied.is_open; unlimited = so_far.survives.limit ∙ up.unlimited } in
    let reason : HasReason old new c.in_err-copy_items.field-0.0 = reason_since old mid new c.in_err-copy_items.field-0.0 so_far.survives.counts
    (c.in_err-copy_items.ensures.reason clean t copied still) in
    search rules
