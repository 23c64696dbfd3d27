-- To answer reads and writes nothing.
use Rattle.std.proofs.Math.Logic.{∥∥₁_map}
use Rattle.http_conversations.specs.Conversations.{history}
use Rattle.http_live.proofs.DoorLemmas.{same_arrival}
use Rattle.http_live.proofs.Ends.{passes}
use Rattle.http_live.proofs.connection.Connection.answer.Goals as goal

pub invariant_of-self : goal.invariant_of-self
invariant_of-self g c =
    let s = c.args.self.now in record {
      faithful = ∥∥₁_map s.faithful
          (passes g.R.Read.remaining g.W.Write.contents s.came.items s.reader s.writer (history s.conversation) (history c.answer.new.self) c.answer.ensures.leaves.passes);
    }

pub returns-clause-arrival : goal.returns-clause-arrival
returns-clause-arrival g c =
    let s = c.args.self.now in
    same_arrival s.came.items (history s.conversation) (history c.answer.new.self) c.answer.ensures.leaves.passes
