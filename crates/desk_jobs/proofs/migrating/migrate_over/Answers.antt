-- Each recoverable state stands for what the connection stood for, whether its tables were migrated or not.
use Rattle.desk_jobs.proofs.MigrateLemmas.{migrated_still, unmigrated_still}
use Rattle.desk_jobs.proofs.migrating.migrate_over.Goals as goal

pub returns-in-Ok-clause-follows : goal.returns-in-Ok-clause-follows
returns-in-Ok-clause-follows g c clean = migrated_still g.S.Store c.args.conn c.migrate.new.conn clean c.in-Ok.ensures.migrates

pub returns-in-Err-clause-follows : goal.returns-in-Err-clause-follows
returns-in-Err-clause-follows g c clean = unmigrated_still g.S.Store c.args.conn c.migrate.new.conn clean c.in-Err.ensures.fails.stop
