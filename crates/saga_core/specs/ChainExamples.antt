-- A session that crashes within a step, made of the worked requests of the ledger. For the laws of chains.
use Rattle.std.specs.Prelude.{true, List, [], ◌∷◌, None}
use Rattle.allotment.specs.declared.codes.Kind.TheVariants.{Flight}
use Rattle.commands.specs.Request.{Step}
use Rattle.commands.specs.declared.replies.Reply.TheVariants.{Loaded, Begun}
use Rattle.ledger.specs.Examples.{load, row}
use Rattle.ledger.specs.KeyExamples.{ann, ask, begin}
use Rattle.ledger.specs.World.{Moment, Done, Cut}
use Rattle.saga_core.specs.Runs.{Asks}

-- the flight is loaded, and ann begins a journey
abbrev pub begun : Asks
begun = (load 97 (row Flight 1 10 ∷ []), None) ∷ (begin, ask ann 107 98) ∷ []

-- she steps it
abbrev pub stepped : Asks
stepped = (Step 1, ask ann 109 115) ∷ []

-- both were answered, and a crash cut off the step, whose event was kept
abbrev pub crashed_within_the_step : List Moment
crashed_within_the_step =
    Done (load 97 (row Flight 1 10 ∷ [])) None (Loaded (97 ∷ []) 1)
    ∷ Done begin (ask ann 107 98) (Begun 1)
    ∷ Cut (Step 1) (ask ann 109 115) true ∷ []
