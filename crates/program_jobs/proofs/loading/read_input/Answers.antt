-- What was read is the part of the input that was taken.
use Rattle.std.proofs.Common.{◌≡◌, ◌++◌, subst, ℕ, List, IfSome, MutBor}
use Rattle.std.specs.Io.Take.{take_remaining}
use Rattle.program_jobs.proofs.SourceLemmas.{front_taken}
use Rattle.program_jobs.proofs.loading.read_input.Goals as goal

pub returns-in-Ok-clause-bytes : goal.returns-in-Ok-clause-bytes
returns-in-Ok-clause-bytes g c =
    front_taken g.R.Read.remaining c.take.result _ _ c.read_to_end.new.buf.items c.take.ensures.limit c.take.ensures.inner
    (subst (λ (old : List ℕ). IfSome (take_remaining (λ (r : MutBor g.row.R.Denot). g.R.Read.remaining r.now) c.take.result)
    (λ part. c.read_to_end.new.buf.items ≡ old ++ part)) c.new-bytes.ensures.items c.in-Ok.ensures.bytes)
