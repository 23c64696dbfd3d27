-- How worlds go on with the messages of all connections. For serve_many.
use Rattle.std.proofs.Common.{◌≡◌, ◌∙◌, ℕ, Bool, true, false, List, [], ◌∷◌, ◌++◌, map, refl, ap, sym, subst, inl, inr, append_assoc, append-nil, Option, Some, None}
use Rattle.ledger.specs.Answer.{State, start}
use Rattle.ledger.specs.World.{Moment, after}
use Rattle.saga_core.specs.Runs as runs
use Rattle.saga_core.specs.Runs.{Asks}
use Rattle.saga_core.specs.Worlds.{EndsAmong, KeepLimits, StandsAtEnd}
use Rattle.saga_core.proofs.WorldLemmas.{KeepLimits-append, ends-cut, ends-with}
use Rattle.desk_http.specs.Pages.{command_in, state_after}
use Rattle.desk_http.specs.Worlds.{asks_by}
use Rattle.desk_http.proofs.WorldLemmas.{by-in_limits, leads-by, limits_of, one-asked}
use Rattle.http_conversations.specs.Worlds.{Exchange, AreDone, GoesOnBy, HasPage, Heard, asks_of}
use Rattle.http_conversations.specs.Leading.{Comes, Ends, Leads, LeadsBy}
use Rattle.http_live.specs.Merging.{Merges, Slotted, exchange_of}
use Rattle.http_live.specs.Worlds.{WorldsGoOn}

-- Messages at both doors.

-- the state of the desk after these messages
abbrev state_after_heard : State → List Heard → State
state_after_heard s [] = s
state_after_heard s (m ∷ later) = state_after_heard (state_after m.0 s m.1) later

-- with one more
after_more : (s : State) (ms : List Heard) (m : Heard)
    → state_after_heard s (ms ++ m ∷ []) ≡ state_after m.0 (state_after_heard s ms) m.1
after_more s [] m = refl
after_more s (first ∷ ms) m = after_more (state_after first.0 s first.1) ms m

-- their commands keep the limits
limits : (ms : List Heard) → KeepLimits (asks_of ms)
limits [] = tt
limits (m ∷ ms) = by-in_limits (command_in m.0 m.1) (asks_of ms) (limits_of m.0 m.1) (limits ms)

-- the commands of messages followed by others
asks_of-append : (ms ns : List Heard) → asks_of (ms ++ ns) ≡ asks_of ms ++ asks_of ns
asks_of-append [] ns = refl
asks_of-append (m ∷ ms) ns =
    ap (λ l. asks_by (command_in m.0 m.1) ++ l) (asks_of-append ms ns)
    ∙ sym (append_assoc (asks_by (command_in m.0 m.1)) (asks_of ms) (asks_of ns))

-- messages lead where their commands lead
leads : (s : State) (ms : List Heard) → state_after_heard s ms ≡ runs.state_after s (asks_of ms)
leads s [] = refl
leads s (m ∷ ms) = leads (state_after m.0 s m.1) ms ∙ leads-by s (command_in m.0 m.1) (asks_of ms)

-- what a crash leaves of the next message
message-cut : (leaves : State → State → Type 0) (s : State) (ms : List Heard) (m : Heard)
    → leaves (state_after_heard s ms) (state_after m.0 (state_after_heard s ms) m.1)
    → leaves (runs.state_after s (asks_of ms)) (runs.state_after s (asks_of ms ++ asks_of (m ∷ [])))
message-cut leaves s ms m left =
    let both : runs.state_after s (asks_of ms ++ asks_of (m ∷ [])) ≡ state_after m.0 (state_after_heard s ms) m.1 =
    ap (runs.state_after s) (sym (asks_of-append ms (m ∷ [])))
    ∙ sym (leads s (ms ++ m ∷ [])) ∙ after_more s ms m in
    subst (λ t. leaves t (runs.state_after s (asks_of ms ++ asks_of (m ∷ [])))) (leads s ms)
    (subst (leaves (state_after_heard s ms)) (sym both) left)

-- the next message was cut off
abbrev cuts : {stood : State → Type 0} (stands : State → Type 0) (leaves : State → State → Type 0) (w : List Moment)
    (ms : List Heard) (m : Heard) → StandsAtEnd stood w
    → leaves (state_after_heard (after start w) ms) (state_after m.0 (state_after_heard (after start w) ms) m.1)
    → EndsAmong stands leaves w (asks_of (ms ++ m ∷ [])) true
cuts stands leaves w ms m here left =
    ends-cut stands leaves w (asks_of (ms ++ m ∷ [])) (asks_of ms) (asks_of (m ∷ [])) [] here
    (asks_of-append ms (m ∷ []) ∙ sym (append-nil (asks_of ms ++ asks_of (m ∷ []))))
    (one-asked (command_in m.0 m.1)) (KeepLimits-append (asks_of ms) (asks_of (m ∷ [])) (limits ms) (limits (m ∷ [])))
    (message-cut leaves (after start w) ms m left)

-- Exchanges.

-- what was done of exchanges, and where it leads
record Done (s : State) (xs : List Exchange) (t : State) : Type 0 where
  messages : List Heard
  done : AreDone s xs messages
  leads_to : t ≡ state_after_heard s messages

module _ (x : Exchange) (xs : List Exchange) (s u t : State) (one : LeadsBy s x u) (rest : Done u xs t) where
  -- its message was carried out
  carried : HasPage x.door s one.message x.page → u ≡ state_after x.door s one.message.meant → Done s (x ∷ xs) t
  carried page is = record {
    messages = (x.door, one.message.meant) ∷ rest.messages;
    done = (
      u,
      rest.messages,
      record { message = one.message; is_message = one.is_message; page = page; done = inl (refl, is) },
      rest.done,
    );
    leads_to = rest.leads_to ∙ ap (λ v. state_after_heard v rest.messages) is;
  }

  -- its page was lost, and nothing was done
  lost : x.page ≡ None → HasPage x.door s one.message x.page → u ≡ s → Done s (x ∷ xs) t
  lost none page is = record {
    messages = rest.messages;
    done = (
      u,
      rest.messages,
      record { message = one.message; is_message = one.is_message; page = page; done = inr (none, refl, is) },
      rest.done,
    );
    leads_to = rest.leads_to ∙ ap (λ v. state_after_heard v rest.messages) is;
  }

  done_more : Done s (x ∷ xs) t
  done_more = go x.page refl one.comes
    where
      go : (page : Option (List ℕ)) → x.page ≡ page → Comes x.door s one.message page u → Done s (x ∷ xs) t
      go (Some bytes) is comes = carried (subst (HasPage x.door s one.message) (sym is) comes.0) comes.1
      go None is comes =
          let none = subst (HasPage x.door s one.message) (sym is) tt in
          elim comes [
            | inl same ↦ lost is none same
            | inr same ↦ carried none same
          ]

-- exchanges lead where what was done of them leads
done_of : (xs : List Exchange) (s t : State) → Leads s xs t → Done s xs t
done_of [] s t is = record { messages = []; done = refl; leads_to = is }
done_of (x ∷ xs) s t l = done_more x xs s l.0 t l.1 (done_of xs l.0 t l.2)

pub goes_on_by : {stood : State → Type 0} (failed : Bool) (stands : State → Type 0) (leaves : State → State → Type 0) (w : List Moment)
    (xs : List Exchange) → ((u : State) → stands u → leaves u u) → StandsAtEnd stood w
    → Ends failed stands leaves (after start w) xs → GoesOnBy failed stands leaves w xs
goes_on_by false stands leaves w xs settled here e =
    let d = done_of xs (after start w) e.0 e.1 in record {
      messages = d.messages;
      done = d.done;
      ends = ends-with stands leaves w (asks_of d.messages) settled here (limits d.messages)
          (subst stands (leads (after start w) d.messages) (subst stands d.leads_to e.2));
    }
goes_on_by true stands leaves w xs settled here e =
    let d = done_of e.before (after start w) e.at e.leads in record {
      before = e.before;
      last = e.last;
      at_last = e.at_last;
      is_lost = e.is_lost;
      messages = d.messages;
      done = d.done;
      next = e.message;
      is_next = e.is_message;
      among = cuts stands leaves w d.messages (e.last.door, e.message.meant) here (subst (λ u. leaves u (state_after e.last.door u e.message.meant)) d.leads_to e.left);
      answered = refl;
      under_way = refl;
    }

-- what the slots' exchanges merge to is how each world goes on
abbrev pub worlds_go_on : {B : Type 0} {is_sound : B → Type 0} {stands : B → State → Type 0} {leaves : B → State → State → Type 0}
    {may : B → B → State → Asks → Type 0} {reason : B → B → State → State → Type 0}
    {from to : B} (failed stopped : Bool) (xs ys : List (List Exchange)) (merged : List Slotted) → ((u : State) → stands to u → leaves to u u)
    → Merges is_sound stands leaves may reason from to failed stopped xs ys merged
    → WorldsGoOn is_sound stands leaves may reason from to failed stopped xs ys
worlds_go_on {stands = stands} {leaves = leaves} {from = from} {to = to} failed stopped xs ys merged settled m = record {
  merged = merged;
  is_merged = m.is_merged;
  stopping = m.stopping;
  worlds = λ sound w here.
      goes_on_by {stood = stands from} failed (stands to) (leaves to) w (map exchange_of merged) settled here
      (m.ends sound (after start w) here.stands_there);
  reasons = m.reasons;
}
