-- The law is made of those of chains, of desks and of recovery.
use Rattle.desk_jobs.proofs.laws.reopenings.Goals as goal

pub returns : goal.returns
returns c = record {
  reopens = λ w world.
      let desk = c.desks.ensures.desk w world in
      let again = c.chains.ensures.reopens w world in
      record { again = again; desk = desk; one = c.one_recovery.ensures.one _ desk.legal };
}
