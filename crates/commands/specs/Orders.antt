-- What a command asks for.
use Rattle.commands.specs.Request as request
use Rattle.commands.specs.Request.{Request}
use Rattle.commands.specs.declared.asks.Command.{Command}
use Rattle.commands.specs.declared.asks.Command.TheVariants.{Load, Begin, Step, Abort, Stop, Save}

-- the request that a command makes
abbrev pub request_of : Command → Request
request_of (Load batch) = request.Load batch.name batch.rows
request_of (Begin plan) = request.Begin plan
request_of (Step journey) = request.Step journey
request_of (Abort journey position) = request.Abort journey position
request_of (Stop journey) = request.Stop journey
request_of (Save journey) = request.Save journey
