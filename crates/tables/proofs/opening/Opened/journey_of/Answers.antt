use Rattle.std.proofs.Common.{refl}
use Rattle.tables.proofs.opening.Opened.journey_of.Goals as goal

-- the read changes nothing, and fails for a reason
pub returns : goal.returns
returns g c =
    let read = c.read_journey.ensures in
    record {
      journey = read.shows;
      store = λ clean s desk spelled keeps up failed. read.store clean s desk spelled keeps tt up failed;
      kept = record { version = refl; quiet = read.quiet };
    }
