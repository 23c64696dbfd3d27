-- Each recoverable state stands for what the connection stood for, whether its tables got the index or not.
use Rattle.desk_jobs.proofs.MigrateLemmas.{indexed_still}
use Rattle.desk_jobs.proofs.indexing.index_over.Goals as goal

pub returns-in-Ok-clause-follows : goal.returns-in-Ok-clause-follows
returns-in-Ok-clause-follows g c clean = indexed_still g.S.Store c.args.conn c.index.new.conn clean c.index.ensures.stands

pub returns-in-Err-clause-follows : goal.returns-in-Err-clause-follows
returns-in-Err-clause-follows g c clean = indexed_still g.S.Store c.args.conn c.index.new.conn clean c.index.ensures.stands
