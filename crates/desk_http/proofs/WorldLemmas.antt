-- How an execution continues with the messages of a connection. For serve.
use Rattle.std.proofs.Common.{◌≡◌, ◌≤◌, ◌∙◌, ap, sym, subst, refl, inl, inr, arith, List, [], ◌∷◌, ◌++◌, ℕ, true, false, length, append_assoc, append-nil, IsTrue, Option, Some, None, Result, Ok, Err, IfOk, IfErr, IfSome}
use Rattle.ledger.specs.Answer.{State, start, is_request}
use Rattle.ledger.specs.World.{Moment, after}
use Rattle.http_messages.specs.Messages as sent
use Rattle.http_messages.specs.Messages.{Message, NoHead}
use Rattle.saga_core.specs.Runs as runs
use Rattle.saga_core.specs.Runs.{Asks}
use Rattle.saga_core.specs.Worlds.{KeepLimits, StandsAtEnd, EndsAmong}
use Rattle.saga_core.proofs.WorldLemmas.{KeepLimits-append, ends-with, ends-after, ends-cut}
use Rattle.desk_http.specs.declared.doors.Door.{Door}
use Rattle.desk_http.specs.declared.doors.Door.TheVariants.{Port}
use Rattle.desk_http.specs.Pages.{Command, command_in, state_after, state_after_all, state_by}
use Rattle.saga_core.specs.StreamScenes.{Scene}
use Rattle.desk_http.specs.Serving.{ServesAll, ServesSome}
use Rattle.desk_http.specs.Worlds.{asks_by, asks_in, EndsAmongMessages, EndsWithMessages, GoesOnAmongMessages, GoesOnWithMessages}
use Rattle.saga_core.specs.declared.serve_faults.ServeFault.{ServeFault}
use Rattle.saga_core.specs.declared.serve_faults.ServeFault.TheVariants.{Memory, Read, Store, Write}
use Rattle.desk_http.proofs.RequestLemmas.{command_of}
use Rattle.desk_http.proofs.ServeLemmas.{after_more}

-- Limits.

-- the command of a message keeps the limits
pub limits_of : (door : Door) (m : Message) (c : Command) → command_in door m ≡ Some c → IsTrue (is_request c.0)
limits_of door NoHead c = λ same. cc
limits_of door (sent.Asks h body) c = λ same. (command_of door h body c same).limits

-- the commands of messages keep the limits
pub by-in_limits : (o : Option Command) (rest : Asks) → ((c : Command) → o ≡ Some c → IsTrue (is_request c.0))
    → KeepLimits rest → KeepLimits (asks_by o ++ rest)
by-in_limits (Some c) rest limits all = (limits c refl, all)
by-in_limits None rest limits all = all

pub in-limits : (ms : List Message) → KeepLimits (asks_in ms)
in-limits [] = tt
in-limits (m ∷ ms) = by-in_limits (command_in Port m) (asks_in ms) (limits_of Port m) (in-limits ms)

-- The commands of messages.

-- the commands of messages followed by other messages
pub asks_in-append : (ms ns : List Message) → asks_in (ms ++ ns) ≡ asks_in ms ++ asks_in ns
asks_in-append [] ns = refl
asks_in-append (m ∷ ms) ns =
    ap (λ l. asks_by (command_in Port m) ++ l) (asks_in-append ms ns)
    ∙ sym (append_assoc (asks_by (command_in Port m)) (asks_in ms) (asks_in ns))

-- one message makes at most one command
pub one-asked : (o : Option Command) → length (asks_by o ++ []) ≤ 1
one-asked (Some c) = omega arith
one-asked None = omega arith

-- a message leads to the state to which its command leads
pub leads-by : (s : State) (o : Option Command) (rest : Asks)
    → runs.state_after (state_by s o) rest ≡ runs.state_after s (asks_by o ++ rest)
leads-by s (Some c) rest = refl
leads-by s None rest = refl

pub leads : (s : State) (ms : List Message) → state_after_all s ms ≡ runs.state_after s (asks_in ms)
leads s [] = refl
leads s (m ∷ ms) = leads (state_after Port s m) ms ∙ leads-by s (command_in Port m) (asks_in ms)

-- Executions that continue.

-- all messages were answered
all_go_on : {stood : State → Type 0} (x : Scene) (w : List Moment) (input : List ℕ) (count : ℕ)
    → ((u : State) → x.stands u → x.leaves u u)
    → StandsAtEnd stood w → ServesAll x (after start w) input count → EndsWithMessages x w input count
all_go_on x w input count settled here all = record {
  all = all;
  ends = ends-with x.stands x.leaves w (asks_in all.messages) settled here (in-limits all.messages)
      (subst x.stands (leads (after start w) all.messages) all.left);
}

-- these messages were executed, and no other came
abbrev stops-after : {stood : State → Type 0} (x : Scene) (w : List Moment) (ms : List Message)
    → ((u : State) → x.stands u → x.leaves u u) → StandsAtEnd stood w
    → x.stands (state_after_all (after start w) ms)
    → EndsAmong x.stands x.leaves w (asks_in (ms ++ [])) false
stops-after x w ms settled here now =
    ends-after x.stands x.leaves w (asks_in (ms ++ [])) (asks_in ms) [] settled here
    (ap asks_in (append-nil ms) ∙ sym (append-nil (asks_in ms))) (in-limits ms)
    (subst x.stands (leads (after start w) ms) now)

-- the next message was executed too
abbrev stops-with : {stood : State → Type 0} (x : Scene) (w : List Moment) (ms : List Message) (m : Message)
    → ((u : State) → x.stands u → x.leaves u u) → StandsAtEnd stood w
    → x.stands (state_after Port (state_after_all (after start w) ms) m)
    → EndsAmong x.stands x.leaves w (asks_in (ms ++ m ∷ [])) false
stops-with x w ms m settled here now =
    let all = asks_in (ms ++ m ∷ []) in
    ends-after x.stands x.leaves w all all [] settled here (sym (append-nil all)) (in-limits (ms ++ m ∷ []))
    (subst x.stands (leads (after start w) (ms ++ m ∷ []))
    (subst x.stands (sym (after_more (after start w) ms m)) now))

-- what a crash leaves of the next message
pub message-cut : (leaves : State → State → Type 0) (s : State) (ms : List Message) (m : Message)
    → leaves (state_after_all s ms) (state_after Port (state_after_all s ms) m)
    → leaves (runs.state_after s (asks_in ms)) (runs.state_after s (asks_in ms ++ asks_in (m ∷ [])))
message-cut leaves s ms m left =
    let both : runs.state_after s (asks_in ms ++ asks_in (m ∷ [])) ≡ state_after Port (state_after_all s ms) m =
    ap (runs.state_after s) (sym (asks_in-append ms (m ∷ [])))
    ∙ sym (leads s (ms ++ m ∷ [])) ∙ after_more s ms m in
    subst (λ t. leaves t (runs.state_after s (asks_in ms ++ asks_in (m ∷ [])))) (leads s ms)
    (subst (leaves (state_after_all s ms)) (sym both) left)

-- the next message was cut off
abbrev pub cuts : {stood : State → Type 0} (x : Scene) (w : List Moment) (ms : List Message) (m : Message)
    → StandsAtEnd stood w
    → x.leaves (state_after_all (after start w) ms) (state_after Port (state_after_all (after start w) ms) m)
    → EndsAmong x.stands x.leaves w (asks_in (ms ++ m ∷ [])) true
cuts x w ms m here left =
    ends-cut x.stands x.leaves w (asks_in (ms ++ m ∷ [])) (asks_in ms) (asks_in (m ∷ [])) [] here
    (asks_in-append ms (m ∷ []) ∙ sym (append-nil (asks_in ms ++ asks_in (m ∷ []))))
    (one-asked (command_in Port m)) (KeepLimits-append (asks_in ms) (asks_in (m ∷ [])) (in-limits ms) (in-limits (m ∷ [])))
    (message-cut x.leaves (after start w) ms m left)

-- a fault ended the run
ends_by : {stood : State → Type 0} (x : Scene) (w : List Moment) (input : List ℕ) (fault : ServeFault)
    (some : ServesSome x (after start w) input fault) → ((u : State) → x.stands u → x.leaves u u)
    → StandsAtEnd stood w → EndsAmongMessages x w input fault
ends_by x w input Read some settled here = record {
  some = some;
  next = [];
  comes = tt;
  among = stops-after x w some.messages settled here some.leaves.1;
  carried_out = refl;
  under_way = refl;
}
ends_by x w input Write some settled here = record {
  some = some;
  next = some.leaves.0 ∷ [];
  comes = (some.leaves.1, some.leaves.2);
  among = stops-with x w some.messages some.leaves.0 settled here some.leaves.3.4;
  carried_out = (refl, refl);
  under_way = refl;
}
ends_by x w input Memory some settled here =
    elim some.leaves.1 [
      | inl now ↦ record {
        some = some;
        next = [];
        comes = tt;
        among = stops-after x w some.messages settled here now;
        carried_out = inl refl;
        under_way = refl;
      }
      | inr next ↦ record {
        some = some;
        next = next.0 ∷ [];
        comes = (next.1, next.2);
        among = stops-with x w some.messages next.0 settled here next.3;
        carried_out = inr refl;
        under_way = refl;
      }
    ]
ends_by x w input Store some settled here = record {
  some = some;
  next = some.leaves.1.0 ∷ [];
  comes = (some.leaves.1.1, some.leaves.1.2);
  among = cuts x w some.messages some.leaves.1.0 here some.leaves.1.3;
  carried_out = refl;
  under_way = (refl, refl);
}

-- The result of serving, as an execution.

-- at Ok the execution continues with all messages, up to and including the first that closes
pub messages_go_on : {Served : Type 0} {stood : State → Type 0} (pages : Served → ℕ) (x : Scene) (known : Option (List ℕ)) (r : Result Served ServeFault)
    → ((u : State) → x.stands u → x.leaves u u)
    → ((s : State) → stood s → IfSome known (λ input. IfOk r (λ served. ServesAll x s input (pages served))))
    → IfSome known (λ input. IfOk r (λ served. GoesOnWithMessages stood x input (pages served)))
messages_go_on pages x None r settled each = tt
messages_go_on pages x (Some input) (Ok served) settled each =
    λ w here. all_go_on x w input (pages served) settled here (each (after start w) here.stands_there)
messages_go_on pages x (Some input) (Err fault) settled each = tt

-- at a fault it continues with a prefix of them
pub messages_stop : {Served : Type 0} {stood : State → Type 0} (pages : Served → ℕ) (x : Scene) (known : Option (List ℕ)) (r : Result Served ServeFault)
    → ((u : State) → x.stands u → x.leaves u u)
    → ((s : State) → stood s → IfSome known (λ input. IfErr r (ServesSome x s input)))
    → IfSome known (λ input. IfErr r (GoesOnAmongMessages stood x input))
messages_stop pages x None r settled each = tt
messages_stop pages x (Some input) (Ok served) settled each = tt
messages_stop pages x (Some input) (Err fault) settled each =
    λ w here. ends_by x w input fault (each (after start w) here.stands_there) settled here
