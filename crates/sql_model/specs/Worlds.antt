-- The state after an execution.
use Rattle.std.specs.Prelude.{List}
use Rattle.ledger.specs.Answer.{start}
use Rattle.ledger.specs.World.{Moment, after, IsWorld}
use Rattle.sql_model.specs.Standing.{IsDesk}

-- after each execution the state is that of a desk
abbrev pub EachWorldIsADesk : Type 0
EachWorldIsADesk = (w : List Moment) → IsWorld w → IsDesk (after start w)
