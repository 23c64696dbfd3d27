-- The version that was read is that of the tables; a read changes nothing.
use Rattle.std.proofs.Common.{◌≢◌, rules, arith}
use Rattle.desk_sql.specs.Schema.{no_schema}
use Rattle.desk_sql.specs.declared.versions.Version.TheVariants.{Two}
use Rattle.tables.proofs.IndexLemmas.{judges_newest, refuses_error}
use Rattle.tables.proofs.indexing.read_new.Goals as goal

pub returns-in-Ok-clause-tries : goal.returns-in-Ok-clause-tries
returns-in-Ok-clause-tries g c =
    let filled : c.args.conn.now.schema ≢ no_schema = search rules in
    judges_newest g.S.Store c.args.conn.now c.read_meta.new.conn c.in-Ok.meta c.newest_only.result filled (c.read_meta.ensures.queries Two).quiet
    (λ v. (c.in-Ok.ensures.queries v).found) c.newest_only.ensures

pub returns-in-Err-clause-tries : goal.returns-in-Err-clause-tries
returns-in-Err-clause-tries g c = search (rules, arith, refuses_error, c.fault_of.ensures.memory, c.fault_of.ensures.store)

pub returns-in-Ok-clause-quiet : goal.returns-in-Ok-clause-quiet
returns-in-Ok-clause-quiet g c = (c.read_meta.ensures.queries Two).quiet

pub returns-in-Err-clause-quiet : goal.returns-in-Err-clause-quiet
returns-in-Err-clause-quiet g c = (c.read_meta.ensures.queries Two).quiet
