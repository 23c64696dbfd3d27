-- Each law is used as it stands.
use Rattle.std.proofs.Common.{[], ◌∷◌, refl, arith}
use Rattle.http_messages.specs.Examples.{get_bytes, get_page, get_is_a_head}
use Rattle.http_messages.specs.Messages.{AreMessages, Asks, HasNoMessage}
use Rattle.http_messages.proofs.laws.page_is_asked_twice.Goals as goal

-- no message begins where nothing comes
nothing_more : HasNoMessage []
nothing_more x rest begins = grind arith

page_alone : AreMessages get_bytes (Asks get_page [] ∷ [])
page_alone = record {
  rest = [];
  whole = ([], record { front = get_bytes; first = refl; is_head = get_is_a_head; is_long = refl; whole = refl }, refl);
  no_more = nothing_more;
}

pub returns : goal.returns
returns c = record {
  told = c.heads_are_told.ensures.law get_bytes get_bytes get_page get_is_a_head;
  one = λ ms are. c.one_reading.ensures.law get_bytes ms (Asks get_page [] ∷ []) are page_alone;
}
