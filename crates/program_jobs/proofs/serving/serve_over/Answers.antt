-- The desk that serves was recovered; or it was not, and nobody was served.
use Rattle.program_jobs.proofs.ServeLemmas.{serves_not_ready, serves_up}
use Rattle.program_jobs.proofs.serving.serve_over.Goals as goal

pub returns-in-Ok-clause-serves : goal.returns-in-Ok-clause-serves
returns-in-Ok-clause-serves g c =
    serves_up c.reopenings.ensures.reopens g.S.Store _ _ c.args.conn c.serve_ready.result.0 _ _ _ _ c.serve_ready.result.1 c.in-Ok.desk
    c.in-Ok.made c.in-Ok.ensures.ready c.serve_ready.ensures.leaves.sound c.note_recovered.ensures c.serve_ready.ensures.serves

pub returns-in-Err-clause-serves : goal.returns-in-Err-clause-serves
returns-in-Err-clause-serves g c =
    serves_not_ready c.reopenings.ensures.reopens g.S.Store _ _ c.args.conn c.in-Err.conn _ _ c.in-Err.end c.from.result c.from.ensures
    c.in-Err.ensures.failed
