-- The connection represents what its desk stood for.
use Rattle.std.proofs.Common.{Some}
use Rattle.program_ends.specs.declared.ends.End.TheVariants as finish
use Rattle.desk_jobs.specs.Openings.{Nothing}
use Rattle.desk_jobs.proofs.FollowLemmas.{follows_not_up, follows_unasked, follows_up}
use Rattle.desk_jobs.proofs.JobLemmas.{grew_as, represented}
use Rattle.desk_jobs.proofs.recovering.recover_over.Goals as goal

pub returns-in-Ok-clause-recovered : goal.returns-in-Ok-clause-recovered
returns-in-Ok-clause-recovered g c clean s was =
    let gone = c.let_go.ensures.gone in
    grew_as (represented g.S.Store c.in-Ok.desk c.let_go.result gone) (c.in-Ok.ensures.ready.recovered (gone.sound clean) s was)

-- nothing was asked of the desk
pub returns-in-Ok-clause-follows : goal.returns-in-Ok-clause-follows
returns-in-Ok-clause-follows g c held =
    let store = g.S.Store in
    let gone = c.let_go.ensures.gone in
    follows_up store c.in-Ok.desk c.let_go.result (Some Nothing) held held c.reopenings.ensures.reopens c.args.conn
    (λ clean. c.in-Ok.ensures.ready.world (gone.sound clean)) finish.Done
    (follows_unasked store c.in-Ok.desk c.let_go.result held finish.Done gone.found)

pub returns-in-Err-clause-follows : goal.returns-in-Err-clause-follows
returns-in-Err-clause-follows g c held =
    let failed = c.in-Err.ensures.failed in
    follows_not_up g.S.Store c.args.conn _ (Some Nothing) held _ c.reopenings.ensures.reopens failed.left failed.bad tt
