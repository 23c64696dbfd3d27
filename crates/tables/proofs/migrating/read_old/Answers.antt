-- The version that was read is that of the tables; a read changes nothing.
use Rattle.std.proofs.Common.{◌≢◌, inl, arith, rules}
use Rattle.sqlite.specs.State.{HasCleanDisk}
use Rattle.sqlite.specs.Held.{state}
use Rattle.desk_sql.specs.Schema.{no_schema}
use Rattle.desk_sql.specs.declared.versions.Version.TheVariants.{One, Two}
use Rattle.tables.proofs.FailLemmas.{meta_fails, not_memory}
use Rattle.tables.proofs.Telling.{judges, tells_fault}
use Rattle.tables.proofs.Quiet.{as_before}
use Rattle.tables.proofs.migrating.read_old.Goals as goal

pub returns-in-Ok-clause-tries : goal.returns-in-Ok-clause-tries
returns-in-Ok-clause-tries g c =
    let filled : c.args.conn.now.schema ≢ no_schema = search rules in
    judges g.S.Store c.args.conn.now c.read_meta.new.conn c.in-Ok.meta filled (c.read_meta.ensures.queries Two).quiet
    (λ v. (c.in-Ok.ensures.queries v).found) c.old_only.result c.old_only.ensures

-- Store of a reading that failed says that the disk failed or refused
pub returns-in-Err-clause-tries : goal.returns-in-Err-clause-tries
returns-in-Err-clause-tries g c =
    let old = c.args.conn.now in
    let new = c.read_meta.new.conn in
    let filled : old.schema ≢ no_schema = search rules in
    record {
      told = tells_fault g.S.Store old new c.fault_of.result _ c.fault_of.ensures.memory c.fault_of.ensures.store
          (as_before g.S.Store old new (c.read_meta.ensures.queries Two).quiet);
      bare = λ none. absurd (filled none);
      store = λ clean s stood up store. (
          let at_old : HasCleanDisk (state g.S.Store old) = omega (arith, (c.read_meta.ensures.queries Two).quiet.survives.clean) in
          let reason = meta_fails (state g.S.Store old) (state g.S.Store new) s c.in-Err.error (stood at_old) up
          (λ t sees has. (c.in-Err.ensures.queries One).reason clean t sees has up) in
          inl (not_memory (state g.S.Store old) (state g.S.Store new) c.in-Err.error c.fault_of.result c.fault_of.ensures.store reason store));
    }

pub returns-in-Ok-clause-quiet : goal.returns-in-Ok-clause-quiet
returns-in-Ok-clause-quiet g c = (c.read_meta.ensures.queries Two).quiet

pub returns-in-Err-clause-quiet : goal.returns-in-Err-clause-quiet
returns-in-Err-clause-quiet g c = (c.read_meta.ensures.queries Two).quiet
