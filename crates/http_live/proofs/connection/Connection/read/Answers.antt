-- What was received was read from the reader.
use Rattle.std.proofs.Math.Logic.{∥∥₁_map}
use Rattle.http_conversations.specs.Conversations.{history}
use Rattle.http_live.proofs.Ends.{reads}
use Rattle.http_live.proofs.connection.Connection.read.Goals as goal

pub invariant_of-self : goal.invariant_of-self
invariant_of-self g c =
    let s = c.args.self.now in record {
      faithful = ∥∥₁_map s.faithful
          (reads g.R.Read.remaining g.W.Write.contents s.came.items s.reader c.receive.new.reader s.writer (history s.conversation) (history c.receive.new.self)
          c.receive.result c.receive.ensures.receives);
    }
