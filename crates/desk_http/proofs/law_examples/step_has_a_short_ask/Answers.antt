-- The law is used as it stands.
use Rattle.std.proofs.Common.{[]}
use Rattle.desk_http.specs.declared.doors.Door.TheVariants.{Port}
use Rattle.desk_http.specs.Examples.{step_bytes, step_comes, step_message}
use Rattle.desk_http.proofs.law_examples.step_has_a_short_ask.Goals as goal

pub returns : goal.returns
returns c = record { short = c.asks_are_short.ensures.law Port step_bytes [] step_message step_comes }
