-- Each statement starts in the state in which the last one ended.
use Rattle.std.proofs.Common.{◌+◌, ◌≤◌, ◌∙◌, arith, rules}
use Rattle.sqlite.specs.State.{HasCleanDisk}
use Rattle.sqlite.specs.Held.{state}
use Rattle.desk_sql.specs.Causes.{HasReason, IsUp}
use Rattle.desk_sql.proofs.CreateReasons.{reason_since}
use Rattle.tables.specs.Copying.{HasCopied, with_items_below}
use Rattle.tables.proofs.migrating.write_new.Goals as goal

pub returns-clause-made : goal.returns-clause-made
returns-clause-made g c clean t may =
    let one = state g.S.Store c.add_tables.new.tx.conn.now in
    let two = state g.S.Store c.copy_all.new.tx.conn.now in
    let at_two : HasCleanDisk two = omega (arith, c.update_meta.ensures.writes.goes.survives.clean) in
    let at_one : HasCleanDisk one = omega (arith, c.copy_all.ensures.goes.survives.clean) in
    let n = c.args.meta.events + 1 in
    let added : HasCopied 0 one t = c.in_ok-add_tables.ensures.made at_one t may in
    let copied : HasCopied n two t = c.in_ok-copy_all.ensures.made at_two t added in
    (c.in_ok-update_meta.ensures.writes.made clean (with_items_below n t) (record { inside = copied.inside; sees = λ _. copied.sees }) tt).sees

-- each of the three fails for a reason
pub returns-in_err-add_tables-clause-reason : goal.returns-in_err-add_tables-clause-reason
returns-in_err-add_tables-clause-reason g c clean t may up = search (rules, arith, c.in_err-add_tables.ensures.reason)

pub returns-in_err-copy_all-clause-reason : goal.returns-in_err-copy_all-clause-reason
returns-in_err-copy_all-clause-reason g c clean t may up =
    let old = state g.S.Store c.args.tx.now.conn.now in
    let one = state g.S.Store c.add_tables.new.tx.conn.now in
    let two = state g.S.Store c.copy_all.new.tx.conn.now in
    let at_one : HasCleanDisk one = omega (arith, c.copy_all.ensures.goes.survives.clean) in
    let added : HasCopied 0 one t = c.in_ok-add_tables.ensures.made at_one t may in
    let still : IsUp one = record { is_open = added.is_open; unlimited = c.add_tables.ensures.goes.survives.limit ∙ up.unlimited } in
    let e = c.in_err-copy_all.field-0.0 in
    let reason : HasReason old two e = reason_since old one two e c.add_tables.ensures.goes.survives.counts
    (c.in_err-copy_all.ensures.reason clean t added still) in
    search rules

pub returns-in_err-update_meta-clause-reason : goal.returns-in_err-update_meta-clause-reason
returns-in_err-update_meta-clause-reason g c clean t may up =
    let old = state g.S.Store c.args.tx.now.conn.now in
    let one = state g.S.Store c.add_tables.new.tx.conn.now in
    let two = state g.S.Store c.copy_all.new.tx.conn.now in
    let last = state g.S.Store c.update_meta.new.tx.conn.now in
    let at_two : HasCleanDisk two = omega (arith, c.update_meta.ensures.writes.goes.survives.clean) in
    let at_one : HasCleanDisk one = omega (arith, c.copy_all.ensures.goes.survives.clean) in
    let n = c.args.meta.events + 1 in
    let added : HasCopied 0 one t = c.in_ok-add_tables.ensures.made at_one t may in
    let copied : HasCopied n two t = c.in_ok-copy_all.ensures.made at_two t added in
    let limit = c.copy_all.ensures.goes.survives.limit ∙ c.add_tables.ensures.goes.survives.limit ∙ up.unlimited in
    let still : IsUp two = record { is_open = copied.is_open; unlimited = limit } in
    let low : old.faults ≤ two.faults = omega (arith, c.add_tables.ensures.goes.survives.counts, c.copy_all.ensures.goes.survives.counts) in
    let e = c.in_err-update_meta.field-0.0 in
    let reason : HasReason old last e = reason_since old two last e low
    (c.in_err-update_meta.ensures.writes.reason clean (with_items_below n t) (record { inside = copied.inside; sees = λ _. copied.sees }) tt still) in
    search rules
