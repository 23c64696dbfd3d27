-- The promise is made of the laws of the ledger.
use Rattle.program_jobs.proofs.PromiseLemmas.{kept_promise}
use Rattle.program_jobs.proofs.laws.promises.Goals as goal

pub returns : goal.returns
returns c = record {
  kept = kept_promise c.words.ensures.words c.words.ensures.plain c.words.ensures.places c.worlds.ensures.sound;
}
