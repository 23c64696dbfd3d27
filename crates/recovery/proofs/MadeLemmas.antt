-- The requests of recovery make its events. For the executions of `recover`.
use Rattle.std.proofs.Common.{◌≡◌, ℕ, ◌+◌, ◌<◌, ◌≤◌, List, [], ◌∷◌, ◌++◌, length, refl, ap, sym, ◌∙◌, arith, append_assoc, length-append, eqb-true, Bool, true, false, filter, map, Some, None, option_to_list, IsTrue}
use Rattle.std.proofs.lemmas.Bool.{and_parts, and_from}
use Rattle.std.proofs.lemmas.List.{append_cancel_left}
use Rattle.std.proofs.lemmas.List.Folds.{list_all-append}
use Rattle.std.specs.List.{list_all}
use Rattle.commands.specs.Request.{Request}
use Rattle.commands.specs.Request as request
use Rattle.commands.specs.declared.items.Cause.TheVariants as cause
use Rattle.commands.specs.declared.items.Item.{Item}
use Rattle.commands.specs.declared.items.Item.TheVariants.{Transaction, Compensation, Turn, Save}
use Rattle.commands.specs.declared.items.Phase.{Phase}
use Rattle.ledger.specs.Answer.{State, outcome, most_events, is_request}
use Rattle.ledger.specs.History.{is_running, is_open, is_finished, is_compensation}
use Rattle.ledger.specs.Ledger.{Event, Loaded, Began, Did, numbers, is_in, is_allowed, is_item_allowed, AreAllowedAfter, IsLegal}
use Rattle.ledger.specs.Recovery.{stops, last_save_of, are_items, is_forward, IsRecovered}
use Rattle.ledger.specs.World.{events_of}
use Rattle.ledger.proofs.Deciding.{each_open_has_one, no_finished_goes_on}
use Rattle.ledger.proofs.Growing.{is_item_allowed-may_do, is_item_allowed-none, AreAllowedAfter-join}
use Rattle.ledger.proofs.Recovering.{AreAllowedAfter-split}
use Rattle.saga_core.specs.Runs.{state_after}
use Rattle.saga_core.specs.Worlds.{dones, KeepLimits}
use Rattle.recovery.specs.Growing.{with_events, room_of}
use Rattle.recovery.specs.Worlds.{request_making, orders_of}
use Rattle.recovery.proofs.AskLemmas.{Moves, with_none, outcome-made}
use Rattle.recovery.proofs.PassLemmas.{with_more}
use Rattle.recovery.proofs.TellLemmas.{stop-moves, step-moves}

-- Which events are recovery's.

-- recovery makes what a step makes, and turns whose cause is a stop
abbrev is_of_recovery : Item → Bool
is_of_recovery (Turn p cause.Stop) = true
is_of_recovery item = is_forward item

-- the events may come after this ledger, and each is recovery's
pub record AreOurs (l events : List Event) : Type 0 where
  pub allowed : AreAllowedAfter l events
  pub kind : list_all (are_items is_of_recovery) events ≡ true

compensation-ours : (x : Item) → is_compensation x ≡ true → is_of_recovery x ≡ true
compensation-ours x e = grind arith

forward-ours : (x : Item) → is_forward x ≡ true → is_of_recovery x ≡ true
forward-ours x e = grind arith

-- items of one kind are also of a wider kind
wider : (test wide : Item → Bool) → ((x : Item) → test x ≡ true → wide x ≡ true) → (p : List Event)
    → list_all (are_items test) p ≡ true → list_all (are_items wide) p ≡ true
wider test wide widens [] all = refl
wider test wide widens (e ∷ p) all =
    let both = and_parts (are_items test e) (list_all (are_items test) p) all in
    and_from _ _ (go e both.0) (wider test wide widens p both.1)
  where
    go : (d : Event) → are_items test d ≡ true → are_items wide d ≡ true
    go d is = grind arith

stops-ours : (l : List Event) (js : List ℕ)
    → list_all (are_items is_of_recovery) (map (λ j. Did j (Turn (last_save_of l j) cause.Stop)) js)
    ≡ true
stops-ours l [] = refl
stops-ours l (j ∷ js) = stops-ours l js

-- the new events of a recovered ledger are recovery's, and so is each prefix of them
pub ours : (l events rest : List Event) → IsRecovered l ((l ++ events) ++ rest) → AreOurs l events
ours l events rest r =
    let k = are_items is_of_recovery in
    let parts = AreAllowedAfter-split [] (l ++ events) rest r.legal in
    let same : events ++ rest ≡ stops l ++ (r.backward ++ r.forward) =
    append_cancel_left l (events ++ rest) (stops l ++ (r.backward ++ r.forward))
    (sym (append_assoc l events rest) ∙ r.whole ∙ append_assoc (l ++ stops l) r.backward r.forward
    ∙ append_assoc l (stops l) (r.backward ++ r.forward)) in
    let all : list_all k (stops l ++ (r.backward ++ r.forward)) ≡ true =
    list_all-append k (stops l) (r.backward ++ r.forward)
    ∙ and_from _ _ (stops-ours l (filter (is_in is_running l) (numbers l)))
    (list_all-append k r.backward r.forward
    ∙ and_from _ _ (wider is_compensation is_of_recovery compensation-ours r.backward r.compensations)
    (wider is_forward is_of_recovery forward-ours r.forward r.steps)) in
    record {
      allowed = (AreAllowedAfter-split [] l events parts.0).1;
      kind = (and_parts (list_all k events) (list_all k rest)
          (sym (list_all-append k events rest) ∙ ap (list_all k) same ∙ all)).0;
    }

-- Each event is made by its request.

-- the request makes the event
pub record Makes (asked : Request) (s : State) (e : Event) : Type 0 where
  pub event : (outcome s None asked).event ≡ Some e
  pub state : (outcome s None asked).state ≡ with_events s (e ∷ [])

-- a request that moves a journey by this item makes it, where the ledger has room
moves-make : (s : State) (asked : Request) (j : ℕ) (item : Item) → Moves s.ledger asked j item → length s.ledger < most_events
    → Makes asked s (Did j item)
moves-make s asked j item m room = grind (arith, outcome-made)

clash : {X : Type 0} → true ≡ false → X
clash e = cc

-- a journey in which a step may come next is open
unfinished-open : (p : Phase) → is_finished p ≡ false → is_open p ≡ true
unfinished-open p e = grind arith

allowed-open : (l : List Event) (j : ℕ) (item : Item) → is_item_allowed l j item ≡ true
    → is_in is_open l j ≡ true
allowed-open l j item may = grind (arith, clash, is_item_allowed-none, no_finished_goes_on, unfinished-open)

-- a stop that is allowed is the one that recovery makes
stop-made : (s : State) (j p : ℕ) → is_item_allowed s.ledger j (Turn p cause.Stop) ≡ true
    → Moves s.ledger (request.Stop j) j (Turn p cause.Stop)
stop-made s j p may = grind (arith, clash, is_item_allowed-none, and_parts, is_item_allowed-may_do, eqb-true, stop-moves)

-- so is a step that is allowed
step-made : (s : State) (j : ℕ) (item : Item) → IsLegal s.ledger → is_forward item ≡ true
    → is_item_allowed s.ledger j item ≡ true → Moves s.ledger (request.Step j) j item
step-made s j item legal forward may =
    let unfinished = allowed-open s.ledger j item may in
    let one = each_open_has_one s.ledger legal j unfinished in
    grind (arith, step-moves)

-- the request of an event of recovery makes it
made : (s : State) (e : Event) → IsLegal s.ledger → are_items is_of_recovery e ≡ true → is_allowed s.ledger e ≡ true → length s.ledger < most_events
    → Makes (request_making e) s e
made s (Loaded name rows) legal kind may room = cc
made s (Began agent plan) legal kind may room = cc
made s (Did j (Turn p cause.Stop)) legal kind may room = moves-make s (request.Stop j) j _ (stop-made s j p may) room
made s (Did j (Turn p cause.Refused)) legal kind may room = moves-make s (request.Step j) j _ (step-made s j _ legal kind may) room
made s (Did j (Turn p cause.Asked)) legal kind may room = cc
made s (Did j (Transaction i c)) legal kind may room = moves-make s (request.Step j) j _ (step-made s j _ legal kind may) room
made s (Did j (Compensation i c)) legal kind may room = moves-make s (request.Step j) j _ (step-made s j _ legal kind may) room
made s (Did j (Save p)) legal kind may room = cc

-- All events.

-- the requests of the events, one after another, make them
pub record AreMade (s : State) (events : List Event) : Type 0 where
  pub made : events_of s (dones s (orders_of events)) ≡ events
  pub leads : state_after s (orders_of events) ≡ with_events s events

pub all-made : (s : State) (events : List Event) → IsLegal s.ledger → AreOurs s.ledger events
    → length events ≤ room_of s → AreMade s events
all-made s [] legal o room = record { made = refl; leads = sym (with_none s) }
all-made s (e ∷ es) legal o room =
    let k = are_items is_of_recovery in
    let both = and_parts (k e) (list_all k es) o.kind in
    let m = made s e legal both.0 o.allowed.0 (omega arith) in
    let next = with_events s (e ∷ []) in
    let longer : length (s.ledger ++ e ∷ []) ≡ length s.ledger + 1 =
    length-append s.ledger (e ∷ []) in
    let rest = all-made next es (AreAllowedAfter-join [] s.ledger (e ∷ []) legal (o.allowed.0, tt))
    (record { allowed = o.allowed.1; kind = both.1 }) (omega arith) in
    let then = (outcome s None (request_making e)).state in
    record {
      made =
          ap (λ d. option_to_list d ++ events_of then (dones then (orders_of es))) m.event
          ∙ ap (λ t. e ∷ events_of t (dones t (orders_of es))) m.state
          ∙ ap (λ d. e ∷ d) rest.made;
      leads =
          ap (λ t. state_after t (orders_of es)) m.state ∙ rest.leads ∙ with_more s (e ∷ []) es;
    }

-- the requests keep the limits of a request
pub in-limit : (e : Event) → IsTrue (is_request (request_making e))
in-limit e = grind arith

pub in-limits : (events : List Event) → KeepLimits (orders_of events)
in-limits [] = tt
in-limits (e ∷ es) = (in-limit e, in-limits es)
