-- A worked example: a request that steps a journey, a state in which it makes an event, and what it leaves of a book that may act.
use Rattle.std.specs.Prelude.{◌≡◌, ◌⊎◌, ℕ, List, [], ◌∷◌, ◌++◌, true, length, nat_lt, codes, Some, Ok, Err, refl}
use Rattle.std.proofs.Common.{subst, inl, inr}
use Rattle.std.specs.List.{list_all}
use Rattle.std.specs.Fmt.{digits}
use Rattle.std.specs.Str.{is_utf8, chars}
use lib.Utf8.{encode}
use Rattle.std.proofs.lemmas.Bool.{leb-true, ltb-true}
use Rattle.std.proofs.lemmas.List.Elements.{All-from_recursion}
use Rattle.std.proofs.lemmas.List.Sums.{AllPass-from_list_all}
use Rattle.httparse.specs.Grammar.{RequestHead, IsField, is_token_byte, is_uri_byte, is_value_byte, print_request, trim_ows}
use Rattle.matchit.specs.Route.{scan}
use Rattle.matchit.specs.Seek.{seek, param_step}
use Rattle.allotment.proofs.ShortLemmas.{is_utf8 as utf8_text}
use Rattle.commands.specs.Asks.{Asked}
use Rattle.commands.specs.Request.{Step}
use Rattle.ledger.specs.Answer.{State, outcome, start}
use Rattle.ledger.specs.KeyExamples.{ann, ann_began}
use Rattle.http_messages.specs.Examples.{get_page}
use Rattle.http_messages.specs.Heads.{IsHead, most_fields, most_head_bytes}
use Rattle.http_messages.specs.Messages.{Message, Asks, BeginsWithRequest}
use Rattle.http_pages.specs.Routes.{routes}
use Rattle.saga_core.specs.declared.serve_faults.ServeFault.TheVariants.{Memory, Store}
use Rattle.saga_core.specs.Runs as runs
use Rattle.desk_http.specs.Demands.{Carry, SeeStock}
use Rattle.desk_http.specs.Laws.{MakesEvent}
use Rattle.desk_http.specs.Pages.{command_by, command_in, state_by}
use Rattle.desk_http.specs.Reasons.{GoesOn, GoesOnAt, ViewsOn}
use Rattle.desk_http.specs.Worlds.{asks_by}
use Rattle.desk_http.specs.declared.doors.Door.TheVariants.{Port}

-- ann steps journey 1, under the key k1
abbrev pub step_head : RequestHead
step_head = record {
  blank = [];
  method = codes "POST";
  target = codes "/journeys/1/step";
  minor = 1;
  line_end = get_page.last;
  fields = record { name = codes "host"; raw = codes "x"; end = get_page.last }
      ∷ record { name = codes "desk-agent"; raw = codes "ann"; end = get_page.last }
      ∷ record { name = codes "desk-key"; raw = codes "k1"; end = get_page.last }
      ∷ record { name = codes "content-length"; raw = codes "0"; end = get_page.last } ∷ [];
  last = get_page.last;
}

abbrev pub step_message : Message
step_message = Asks step_head []

-- its bytes
abbrev pub step_bytes : List ℕ
step_bytes =
    codes "POST /journeys/1/step HTTP/1.1" ++ 13 ∷ 10 ∷ codes "host:x" ++ 13 ∷ 10 ∷ codes "desk-agent:ann" ++ 13 ∷ 10
    ∷ codes "desk-key:k1" ++ 13 ∷ 10 ∷ codes "content-length:0" ++ 13 ∷ 10 ∷ 13 ∷ 10 ∷ []

-- a field whose name has a byte, and whose bytes are such as a name and a value may have
good_field : (name raw : List ℕ) → nat_lt 0 (length name) ≡ true → list_all is_token_byte name ≡ true → list_all is_value_byte raw ≡ true
    → IsField (record { name = name; raw = raw; end = get_page.last })
good_field name raw some token value = record {
  name = (ltb-true 0 (length name) some, AllPass-from_list_all is_token_byte name token);
  raw = AllPass-from_list_all is_value_byte raw value;
}

pub step_is_a_head : IsHead step_bytes step_head
unfolding print_request is_token_byte
step_is_a_head = record {
  reads = (
    record {
      method = (ltb-true 0 4 refl, AllPass-from_list_all is_token_byte (codes "POST") refl);
      target = (ltb-true 0 16 refl, AllPass-from_list_all is_uri_byte (codes "/journeys/1/step") refl);
      target_text = utf8_text (codes "/journeys/1/step") refl;
      minor = leb-true 1 1 refl;
      fields = All-from_recursion IsField step_head.fields (
        good_field (codes "host") (codes "x") refl refl refl,
        (
          good_field (codes "desk-agent") (codes "ann") refl refl refl,
          (good_field (codes "desk-key") (codes "k1") refl refl refl, (good_field (codes "content-length") (codes "0") refl refl refl, tt)),
        ),
      );
    },
    refl,
  );
  short = leb-true (length step_bytes) most_head_bytes refl;
  few = leb-true 4 most_fields refl;
}

-- a stream begins with it
pub step_comes : BeginsWithRequest step_bytes step_head [] []
unfolding trim_ows
step_comes = record { front = step_bytes; first = refl; is_head = step_is_a_head; is_long = refl; whole = refl }

-- under which ask
abbrev pub step_ask : Asked
step_ask = record { agent = ann; key = codes "k1"; text = codes "/journeys/1/step\n" }

pub step_message_makes_it : command_in Port step_message ≡ Some (Step 1, Some step_ask)
unfolding routes digits trim_ows is_utf8 chars encode seek scan param_step
step_message_makes_it = refl

-- ann has begun the journey, so the step is done
pub step_makes_an_event : MakesEvent Port ann_began step_message
step_makes_an_event = record { asked = Step 1; ask = step_ask; asks = step_message_makes_it; made = refl }

-- Reasons. A definition with one more premise, which the step does not meet, is refused here.

-- the command of the step, and the state after it
abbrev pub step_asks : runs.Asks
step_asks = (Step 1, Some step_ask) ∷ []

abbrev pub stepped : State
stepped = (outcome ann_began (Some step_ask) (Step 1)).state

module _ (could can : State → runs.Asks → Type 0) (reason : State → State → Type 0) where
  pub view_fails_for_a_reason : ViewsOn {T = ℕ} could can reason (Err Store) → could start step_asks → reason start start
  view_fails_for_a_reason views may = views start step_asks may

  pub stock_fails_for_a_reason : GoesOn {T = ℕ} could can reason (command_by (Ok SeeStock)) (Err Store) → could start step_asks → reason start start
  stock_fails_for_a_reason goes may = goes start step_asks may

  pub step_fails_for_a_reason :
      GoesOn {T = ℕ} could can reason (command_by (Ok (Carry (Step 1) (Some step_ask)))) (Err Store) → could ann_began step_asks
      → reason ann_began stepped
  step_fails_for_a_reason goes may = goes ann_began [] may

  -- out of memory, it was asked for or not
  pub step_out_of_memory :
      GoesOn {T = ℕ} could can reason (command_by (Ok (Carry (Step 1) (Some step_ask)))) (Err Memory) → could ann_began step_asks
      → can ann_began step_asks ⊎ can ann_began [] ⊎ can stepped []
  step_out_of_memory (inl still) may = inl (still ann_began step_asks may)
  step_out_of_memory (inr acts) may = inr (acts ann_began [] may)

  -- once its message was answered, the book may act for no more asks
  pub step_message_goes_on :
      (page : ℕ) → GoesOnAt could can reason Port step_message (Ok page) → could ann_began step_asks → can stepped []
  step_message_goes_on page goes =
      subst (λ c. could ann_began (asks_by c ++ []) → can (state_by ann_began c) []) step_message_makes_it (goes ann_began [])
