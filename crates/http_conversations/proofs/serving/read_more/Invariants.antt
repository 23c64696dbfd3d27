use Rattle.std.proofs.Common.{◌≡◌}
use Rattle.std.specs.Io.KnownBytes.{Keeps}
use Rattle.http_conversations.specs.Conversations.{history}
use Rattle.http_conversations.proofs.serving.read_more.Given as goal

-- nothing was read
abbrev pub invariant-loop : goal.invariant-loop
invariant-loop g l = record {
  same : history l.conversation ≡ history l.fn.conversation;
  kept : Keeps (g.R.Read.remaining l.fn.reader) (g.R.Read.remaining l.reader);
}
