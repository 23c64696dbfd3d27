-- How serving ends.
use Rattle.std.specs.Prelude.{Bool, true, false, Option, Some, None, Result, Ok, Err}
use Rattle.commands.specs.declared.replies.Fault.{Fault}
use Rattle.http_live.specs.declared.serving.Ending.{Ending}
use Rattle.http_live.specs.declared.serving.Ending.TheVariants as ending
use Rattle.http_live.specs.declared.slots.Standing.{Standing}
use Rattle.http_live.specs.declared.slots.Standing.TheVariants.{Stopped}

-- serving ends where the house asked the desk to stop
abbrev pub ending_after : Standing → Option Ending
ending_after Stopped = Some ending.Stopped
ending_after _ = None

-- the message that was answered in this turn asked the desk to stop
abbrev pub is_stop : Standing → Bool
is_stop Stopped = true
is_stop _ = false

abbrev pub turn_stops : Result Standing Fault → Bool
turn_stops (Ok standing) = is_stop standing
turn_stops (Err fault) = false

-- serving ended because the house asked the desk to stop
abbrev pub is_stopped : Ending → Bool
is_stopped ending.Stopped = true
is_stopped _ = false

abbrev pub has_stopped : Result Ending Fault → Bool
has_stopped (Ok end) = is_stopped end
has_stopped (Err fault) = false

-- the same of one turn, with which serving may end
abbrev pub ends_stopped : Result (Option Ending) Fault → Bool
ends_stopped (Ok (Some end)) = is_stopped end
ends_stopped _ = false
