-- To give 100 Continue reads and writes nothing, and answers nothing.
use Rattle.std.proofs.Math.Logic.{∥∥₁_map}
use Rattle.http_conversations.specs.Conversations.{history}
use Rattle.http_live.proofs.DoorLemmas.{same_arrival}
use Rattle.http_live.proofs.Ends.{passes}
use Rattle.http_live.proofs.connection.Connection.gives_go_on.Goals as goal

pub invariant_of-self : goal.invariant_of-self
invariant_of-self g c =
    let s = c.args.self.now in record {
      faithful = ∥∥₁_map s.faithful
          (passes g.R.Read.remaining g.W.Write.contents s.came.items s.reader s.writer (history s.conversation) (history c.go_on.new.self) c.go_on.ensures.quiet.passes);
    }

-- it was given, at the same door and in the same mode
pub returns-in-Ok-clause-left : goal.returns-in-Ok-clause-left
returns-in-Ok-clause-left g c =
    let s = c.args.self.now in
    let quiet = c.go_on.ensures.quiet in record {
      kept = quiet.exchanges;
      arrival = same_arrival s.came.items (history s.conversation) (history c.go_on.new.self) quiet.passes;
      unread = quiet.passes.received;
    }

-- or it was not, out of memory
pub returns-in-Err-clause-left : goal.returns-in-Err-clause-left
returns-in-Err-clause-left g c =
    let s = c.args.self.now in
    let quiet = c.go_on.ensures.quiet in record {
      kept = quiet.exchanges;
      arrival = same_arrival s.came.items (history s.conversation) (history c.go_on.new.self) quiet.passes;
      unread = quiet.passes.received;
    }
