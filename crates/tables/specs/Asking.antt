-- Who asks.
use Rattle.std.specs.Prelude.{Option, IfSome, IsTrue}
use Rattle.commands.specs.Asks.{Asked}
use Rattle.commands.specs.Names.{is_agent}

-- the agent of an ask, if there is one, has the form of an agent
abbrev pub HasAgent : Option Asked → Type 0
HasAgent ask = IfSome ask (λ (a : Asked). IsTrue (is_agent a.agent))
