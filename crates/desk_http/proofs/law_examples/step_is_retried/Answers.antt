-- The law is used as it stands.
use Rattle.std.proofs.Common.{[], ◌∷◌}
use Rattle.ledger.specs.KeyExamples.{ann_began}
use Rattle.ledger.specs.World.{Reopened}
use Rattle.desk_http.specs.declared.doors.Door.TheVariants.{Port}
use Rattle.desk_http.specs.Examples.{step_message, step_makes_an_event}
use Rattle.desk_http.proofs.law_examples.step_is_retried.Goals as goal

pub returns : goal.returns
returns c = record { again = c.again.ensures.law Port ann_began step_message (Reopened ∷ []) step_makes_an_event }
