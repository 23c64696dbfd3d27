-- What was read is what was said.
use Rattle.std.proofs.Common.{subst}
use Rattle.http_messages.specs.WideReading.{IsFirstOf}
use Rattle.http_conversations.proofs.TextLemmas.{reads_denied, reads_no_method, reads_request}
use Rattle.http_conversations.proofs.modes.taken.Goals as goal

pub returns-in-Asks : goal.returns-in-Asks
returns-in-Asks c = record {
  first = rw c.asked.ensures.asked
      (reads_request c.args.bytes.now c.in-Asks.asks c.args.count (subst (λ m. IsFirstOf c.args.bytes.now m c.args.count) c.in-Asks.is c.requires.first));
}

pub returns-in-Denied : goal.returns-in-Denied
returns-in-Denied c = record {
  first = reads_denied c.args.bytes.now c.unread.result c.in-Denied.why c.args.count
      (subst (λ m. IsFirstOf c.args.bytes.now m c.args.count) c.in-Denied.is c.requires.first) c.unread.ensures.all;
}

pub returns-in-NoMethod : goal.returns-in-NoMethod
returns-in-NoMethod c = record {
  first = reads_no_method c.args.bytes.now c.unread-in-NoMethod.result c.args.count
      (subst (λ m. IsFirstOf c.args.bytes.now m c.args.count) c.in-NoMethod.is c.requires.first) c.unread-in-NoMethod.ensures.all;
}
