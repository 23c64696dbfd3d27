-- What was yielded was written to the writer.
use Rattle.std.proofs.Math.Logic.{∥∥₁_map}
use Rattle.http_conversations.specs.Conversations.{history}
use Rattle.http_live.proofs.Ends.{writes}
use Rattle.http_live.proofs.connection.Connection.write.Goals as goal

pub invariant_of-self : goal.invariant_of-self
invariant_of-self g c =
    let s = c.args.self.now in record {
      faithful = ∥∥₁_map s.faithful
          (writes g.R.Read.remaining g.W.Write.contents s.came.items s.reader s.writer c.send.new.writer (history s.conversation) (history c.send.new.self)
          c.send.result c.send.ensures.sends);
    }
