-- What is shown for the message is shown for the one that it was taken from.
use Rattle.std.proofs.Common.{◌∙◌, subst}
use Rattle.http_messages.specs.Requests.{IsTaken}
use Rattle.http_conversations.proofs.PageLemmas.{shown_taken, shown_unread}
use Rattle.http_conversations.proofs.showing.shown_for.Goals as goal

pub returns-in-NoHead : goal.returns-in-NoHead
returns-in-NoHead c = record {
  shown = λ m is. shown_unread c.args.door c.args.kind m (subst (λ z. IsTaken z m) c.in-NoHead.is is);
}

pub returns-in_ok-refusal-in-Asks : goal.returns-in_ok-refusal-in-Asks
returns-in_ok-refusal-in-Asks c = record {
  shown = λ m is.
      c.shown_unless.ensures.shown
      ∙ shown_taken c.args.door c.args.kind c.in-Asks.request m c.in_ok-refusal-in-Asks.refusal
      c.in_ok-refusal-in-Asks.ensures.refusal
      (subst (λ z. IsTaken z m) c.in-Asks.is is);
}
