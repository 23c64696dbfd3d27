-- What is recoverable after any number of invocations over a new desk.
use Rattle.std.specs.Prelude.{◌≡◌, List, []}
use Rattle.sqlite_wal.specs.Recovery.{Image}
use Rattle.ledger.specs.World.{Moment, IsWorld}
use Rattle.program_jobs.specs.Invocations.{GoesOnInAll, Invocation, Invocations, StandsIn}
use Rattle.program_jobs.specs.Promises.{IsKeptPromise}

-- the image stands for the end of one execution of them all, in order, whose ledger is as it is promised
pub record IsEndOf (its : List Invocation) (image : Image) : Type 0 where
  pub end : List Moment
  pub goes : GoesOnInAll its [] end
  pub stands : StandsIn image end
  pub world : IsWorld end
  pub promise : IsKeptPromise end

-- whatever the invocations, if the file was absent at first, or had no byte
abbrev pub Headline : Type 0
Headline = (its : List Invocation) (first last : Image) → first.db ≡ [] → Invocations its first last → ∥ IsEndOf its last ∥₁
