-- The law is used as it stands.
use Rattle.desk_http.specs.declared.doors.Door.TheVariants.{Port}
use Rattle.desk_http.specs.Examples.{step_message}
use Rattle.desk_http.proofs.law_examples.step_is_for_whom_it_is_meant.Goals as goal

pub returns : goal.returns
returns c = record { meant = c.commands_are_for_whom_is_meant.ensures.law Port step_message }
