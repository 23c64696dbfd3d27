use Rattle.http_live.specs.Calls.{AreLeft}
use Rattle.http_live.specs.InTime.{GivesTurns}
use Rattle.http_live.proofs.serving.finish_many.Given as goal

-- what was exchanged and received so far is what was before, and nobody came, in as many turns as were counted
abbrev pub invariant-loop : goal.invariant-loop
invariant-loop g l =
    let turns = g.T.Turns in record {
      left : AreLeft l.fn.slots l.slots;
      gives : GivesTurns turns.took turns.heard turns.seen l.counter l.fn.turns l.turns;
    }
