-- The meaning of an order of the program, and the texts of its words.
use Rattle.std.specs.Prelude.{Ok, Err, Option, option_map}
use Rattle.commands.specs.Orders.{request_of}
use Rattle.commands.specs.Request.{Request}
use Rattle.commands.specs.declared.asks.Command.{Command}
use Rattle.recovery.specs.Lines.{Meaning}
use Rattle.recovery.specs.declared.orders.Order.{Order}
use Rattle.recovery.specs.declared.orders.Order.TheVariants.{Do, Refuse}

-- the meaning of an order
abbrev pub meaning_of : Order → Meaning
meaning_of (Do command) = Ok (request_of command)
meaning_of (Refuse refusal) = Err refusal

-- the request that a command makes, if there is a command
abbrev pub request_if_any : Option Command → Option Request
request_if_any command = option_map request_of command
