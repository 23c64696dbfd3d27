-- Each law is used as it stands.
use Rattle.std.proofs.Common.{[], ◌∷◌, refl}
use Rattle.http_messages.specs.Examples.{get_bytes, get_page, get_is_a_head}
use Rattle.http_messages.specs.Messages.{Asks, IsMessage}
use Rattle.http_messages.proofs.laws.pages_come_first.Goals as goal

pub returns : goal.returns
returns c =
    let page : IsMessage get_bytes (Asks get_page []) = λ rest. record {
      front = get_bytes;
      first = c.heads_are_told.ensures.law get_bytes rest get_page get_is_a_head;
      is_head = get_is_a_head;
      is_long = refl;
      whole = refl;
    } in
    record {
      stay = λ rest.
          c.messages_stay.ensures.law (get_bytes ∷ get_bytes ∷ []) (Asks get_page [] ∷ Asks get_page [] ∷ []) rest
          (page, (page, refl));
    }
