-- What a crash leaves, and what the connection shows, whether the migration was completed or not.
-- More than 60 lines: three ways out and two clauses.
use Rattle.std.proofs.Common.{◌≡◌, inl, inr, Err, ap, rules}
use Rattle.desk_sql.specs.Rows.{MetaRow}
use Rattle.sql_model.proofs.Quieting.{quiet_up}
use Rattle.tables.specs.MigrateReasons.{HasTooMany}
use Rattle.tables.proofs.FailLemmas.{fails_later}
use Rattle.tables.proofs.Quiet.{as_before}
use Rattle.tables.proofs.Stopping.{kept_there, left_as_before, left_either, refuses_others, shows_as_before, shows_either, was_not_new}
use Rattle.tables.proofs.Telling.{not_refused, tells_later}
use Rattle.tables.proofs.migrating.migrate.Goals as goal

-- a refusal, or a fault before the transaction: nothing has changed
pub returns-in_err-meta-clause-fails : goal.returns-in_err-meta-clause-fails
returns-in_err-meta-clause-fails g c =
    let old = c.args.conn.now in
    let mid = c.read_old.new.conn in
    let quiet = c.read_old.ensures.quiet in
    let why = c.in_err-meta.field-0.0 in
    let same : c.from_residual.result ≡ Err why = search rules in
    rw same (record {
      told = c.in_err-meta.ensures.tries.told;
      only_old = refuses_others g.S.Store old mid quiet why c.in_err-meta.ensures.tries.told;
      reason = λ clean s stood up store. elim (c.in_err-meta.ensures.tries.store clean s stood up store) [
        | inl faulted ↦ inl faulted
        | inr many ↦ inr (inr many)
      ];
      shows = shows_as_before g.S.Store old mid quiet;
      stop = left_as_before g.S.Store old mid quiet;
    })

-- a fault after the version was read: a crash leaves the old tables or the new ones
pub returns-in_err-bring_over-clause-fails : goal.returns-in_err-bring_over-clause-fails
returns-in_err-bring_over-clause-fails g c =
    let old = c.args.conn.now in
    let mid = c.read_old.new.conn in
    let new = c.bring_over.new.conn in
    let m = c.in_ok-meta.meta in
    let quiet = c.read_old.ensures.quiet in
    let read = c.in_ok-meta.ensures.tries in
    let sound = c.bring_over.ensures.idle.sound in
    let failed = c.in_err-bring_over.ensures.ends in
    let why = c.in_err-bring_over.field-0.0 in
    let same : c.from_residual-in_err-bring_over.result ≡ Err why = search rules in
    rw same (record {
      told = tells_later g.S.Store old mid new (as_before g.S.Store old mid quiet) why failed.fault failed.memory;
      only_old = λ refused. absurd (not_refused why failed.fault refused);
      reason = λ clean s stood up store. fails_later g.S.Store old mid new s (quiet_up g.S.Store old mid quiet) failed.up (sound clean) up {Q = HasTooMany s}
          (λ still. failed.store clean s (read.numbers (sound clean) s stood) (kept_there g.S.Store old mid quiet s stood) still store);
      shows = shows_either g.S.Store old mid new m quiet read.version read.filled sound failed.shows;
      stop = left_either g.S.Store old mid new m quiet read.version read.filled sound read.numbers failed.stop;
    })

-- the connection kept the state when the transaction began, so the new tables have the same state, and a crash leaves only these
pub returns-clause-migrates : goal.returns-clause-migrates
returns-clause-migrates g c =
    let old = c.args.conn.now in
    let mid = c.read_old.new.conn in
    let quiet = c.read_old.ensures.quiet in
    let read = c.in_ok-meta.ensures.tries in
    let sound = c.bring_over.ensures.idle.sound in
    let brought = c.in_ok-bring_over.ensures.ends in
    record {
      same_state = λ clean s stood. brought.done s (read.numbers (sound clean) s stood) (kept_there g.S.Store old mid quiet s stood) clean;
      left = λ clean s stood. brought.left clean s (read.numbers (sound clean) s stood) (kept_there g.S.Store old mid quiet s stood);
      only_old = was_not_new g.S.Store old mid c.bring_over.new.conn c.in_ok-meta.meta quiet read.version read.filled sound;
      events = λ clean s stood. ap (λ (r : MetaRow). r.events) (read.numbers (sound clean) s stood);
      version = λ clean v t sees. read.version (sound clean) v t sees;
    }
