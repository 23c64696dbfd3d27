-- Each task has what its own job promises.
use Rattle.std.proofs.Common.{refl, sym}
use Rattle.program_jobs.proofs.OutcomeLemmas.{index_counted, migration_counted, recovery_counted, untouched}
use Rattle.program_jobs.proofs.jobs.do_job.Goals as goal

pub returns-in-Run-clause-does : goal.returns-in-Run-clause-does
returns-in-Run-clause-does g c =
    let ran = c.run_over-conn.ensures in
    rw c.in-Run.is
    (rw c.from.ensures (refl, record { answers = ran.answers; read = ran.read; notes = ran.notes; follows = ran.follows; ends = ran.ends }))

pub returns-in-Serve-clause-does : goal.returns-in-Serve-clause-does
returns-in-Serve-clause-does g c = rw c.in-Serve.is (c.serve_over-conn.ensures.serves, refl)

pub returns-in-Recover-clause-does : goal.returns-in-Recover-clause-does
returns-in-Recover-clause-does g c =
    let did = c.recover_over-conn.ensures in
    rw c.in-Recover.is
    (rw c.of_recovery.ensures.outcome (recovery_counted g.S.Store _ _ c.recover_over-conn.result.1 did.recovered did.failed did.follows), untouched _ _ _)

pub returns-in-Migrate-clause-does : goal.returns-in-Migrate-clause-does
returns-in-Migrate-clause-does g c =
    let did = c.migrate_over-conn.ensures in
    rw c.in-Migrate.is
    (rw c.of_migration.ensures.outcome (migration_counted g.S.Store _ _ c.migrate_over-conn.result.1 did.migrated did.failed did.follows), untouched _ _ _)

pub returns-in-Index-clause-does : goal.returns-in-Index-clause-does
returns-in-Index-clause-does g c =
    let did = c.index_over-conn.ensures in
    rw c.in-Index.is
    (rw c.of_index.ensures.outcome (index_counted g.S.Store _ _ c.index_over-conn.result.1 did.indexed did.failed did.follows), untouched _ _ _)

pub returns-in-Load-clause-does : goal.returns-in-Load-clause-does
returns-in-Load-clause-does g c =
    let is = c.of_load.ensures in
    rw c.in-Load.is (rw is.end is.cause, rw is.end (rw (sym c.as_str-batch.ensures.value) c.load_from-conn.ensures.loads))

pub returns-in-Report-clause-does : goal.returns-in-Report-clause-does
returns-in-Report-clause-does g c =
    let shown = c.show_over-conn.ensures in
    let is = c.of_report.ensures.end in
    rw c.in-Report.is
    (record {
      told = rw is shown.told;
      ends = rw is shown.ends;
      fails = rw is shown.fails;
      keeps = shown.keeps;
      shown = c.of_report.ensures.shown;
      only = record { unread = refl; unnoted = refl };
    })
