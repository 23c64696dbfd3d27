-- What is said of the book is said of its connection.
use Rattle.allotment_csv.specs.Files.{batch_of}
use Rattle.desk_jobs.proofs.FollowLemmas.{load_follows}
use Rattle.desk_jobs.proofs.LoadLemmas.{loaded_over}
use Rattle.desk_jobs.proofs.ReasonLemmas.{fails_to_load}
use Rattle.desk_jobs.proofs.loading.load_over.Goals as goal

-- if the store failed, there was a reason
pub returns-clause-loads : goal.returns-clause-loads
returns-clause-loads g c =
    let gone = c.let_go.ensures.gone in
    let now = c.load_into-end.new.book in
    record {
      loaded = λ clean s stands. loaded_over g.S.Store now c.let_go.result gone _ _ s _ _
          (c.load_into-end.ensures.loaded (gone.sound clean) s stands);
      reason = λ clean why. fails_to_load g.S.Store c.args.desk now c.let_go.result gone.same
          (batch_of c.args.name.now c.args.bytes.now) (λ first. c.load_into-end.ensures.reason (gone.sound clean) first why);
    }

-- and it follows from what the load came to
pub returns-clause-follows : goal.returns-clause-follows
returns-clause-follows g c =
    load_follows g.S.Store c.args.desk c.let_go.result _ _ c.args.name.now c.args.bytes.now _ (returns-clause-loads g c).loaded
