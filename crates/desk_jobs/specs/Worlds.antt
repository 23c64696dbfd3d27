-- How a world goes on with one opening of the store.
use Rattle.std.specs.Prelude.{ℕ, List, Option}
use Rattle.std.specs.Io.KnownBytes.{Appends}
use Rattle.ledger.specs.World.{Moment, IsWorld}
use Rattle.desk_jobs.specs.Openings.{Input, Opening}

-- An opening over this input goes on from the world w to v, which is a world. `held` and `holds` are the bytes of the writer before
-- and after.
pub record Reopens (held holds : Option (List ℕ)) (input : Input) (w v : List Moment) : Type 0 where
  pub told : List ℕ
  pub wrote : Appends held holds told
  pub goes : Opening w input told v
  pub world : IsWorld v
