-- What a command of recovery does, by how the rules answer it. For `stop` and `step`.
use Rattle.std.proofs.Common.{◌≡◌, ℕ, ◌<◌, ◌≤◌, List, [], ◌∷◌, ◌++◌, length, refl, ap, sym, ◌∙◌, subst, arith, append-nil, eq-eqb, Bool, true, false, nat_le, Some, None, is_some, option_map, IsTrue, if◌then◌else◌}
use Rattle.std.proofs.lemmas.Bool.{leb-true, leb-false, le-leb, lt-leb}
use Rattle.commands.specs.Request.{Request}
use Rattle.commands.specs.declared.replies.Fault.{Fault}
use Rattle.commands.specs.declared.replies.Fault.TheVariants.{Store}
use Rattle.commands.specs.declared.items.Item.{Item}
use Rattle.commands.specs.declared.replies.Refusal.TheVariants.{Limit}
use Rattle.commands.specs.declared.replies.Reply.{Reply}
use Rattle.ledger.specs.Answer.{State, Outcome, Answer, outcome, carried_out, refused, moved, answer_within, most_events}
use Rattle.ledger.specs.History.{phase}
use Rattle.ledger.specs.Ledger.{Event, Did, Journey, journey_at, history, phase_of, is_item_allowed}
use Rattle.ledger.specs.Recovery.{is_forward}
use Rattle.ledger.proofs.Growing.{journeys-did, history-did_same}
use Rattle.plan.specs.PlanModel.{numbered}
use Rattle.recovery.specs.Asking.{phase_told, Adds, SteppedTo}
use Rattle.recovery.specs.Growing.{with_events, MayHaveGrown}

-- a request that moves journey j by this item
pub record Moves (l : List Event) (asked : Request) (j : ℕ) (item : Item) : Type 0 where
  pub journey : Journey
  pub at : journey_at l j ≡ Some journey
  pub told : answer_within l None asked ≡ moved journey.plan (history l j) j item

-- with no event appended the state is the same
pub with_none : (s : State) → with_events s [] ≡ s
with_none s = ap (λ l. record { ledger = l; kept = s.kept }) (append-nil s.ledger)

-- the outcome of the request, where the ledger is full or not
abbrev pub cut : State → Answer → Bool → Outcome
cut s a v = carried_out s None (if v then refused Limit else a)

-- the request is refused where the ledger is full
pub outcome-moves : (s : State) (asked : Request) (j : ℕ) (item : Item)
    (m : Moves s.ledger asked j item)
    → outcome s None asked
    ≡ cut s (moved m.journey.plan (history s.ledger j) j item) (nat_le most_events (length s.ledger))
outcome-moves s asked j item m = grind arith

-- the phase of the journey after the item
pub phase-moved : (l : List Event) (j : ℕ) (item : Item) (a : Journey) → journey_at l j ≡ Some a
    → phase_of (l ++ Did j item ∷ []) j ≡ Some (phase a.plan (history l j ++ item ∷ []))
phase-moved l j item a at =
    ap (λ js. option_map (λ (b : Journey). phase b.plan (history (l ++ Did j item ∷ []) j))
    (numbered js j)) (journeys-did l j item)
    ∙ ap (option_map (λ (b : Journey). phase b.plan (history (l ++ Did j item ∷ []) j))) at
    ∙ ap (λ h. Some (phase a.plan h)) (history-did_same l j item j (eq-eqb j j refl))

-- Where the request moves the journey, its outcome adds the event, or the ledger is full.

module _ (s : State) (asked : Request) (j : ℕ) (item : Item) (m : Moves s.ledger asked j item) where
  abbrev told : Answer
  told = moved m.journey.plan (history s.ledger j) j item

  pub outcome-made : length s.ledger < most_events → outcome s None asked ≡ cut s told false
  outcome-made room = outcome-moves s asked j item m ∙ ap (cut s told) (lt-leb _ _ room)

  pub outcome-full : most_events ≤ length s.ledger → outcome s None asked ≡ cut s told true
  outcome-full full = outcome-moves s asked j item m ∙ ap (cut s told) (le-leb _ _ full)

  -- what is so of the state after the outcome, in either case
  module _ (now : Bool → State → Type 0) (made : length s.ledger < most_events → now true (with_events s (Did j item ∷ [])))
      (full : most_events ≤ length s.ledger → now false s) (r : Reply) (is : r ≡ (outcome s None asked).reply) where
    -- by the reply that was received
    by_reply : (Says : Reply → Type 0) → ((v : Bool) → nat_le most_events (length s.ledger) ≡ v → Says (cut s told v).reply) → Says r
    by_reply Says each = subst Says (sym (is ∙ ap (λ (p : Outcome). p.reply) (outcome-moves s asked j item m))) (each _ refl)

    pub adds : Adds (now (is_some (phase_told r))) s (Did j item) (is_some (phase_told r))
    adds = grind (arith, by_reply, leb-true, leb-false)

    pub steps : IsTrue (is_forward item) → IsTrue (is_item_allowed s.ledger j item) → SteppedTo (now (is_some (phase_told r))) s j (phase_told r)
    steps forward allowed = grind (arith, by_reply, leb-true, phase-moved, leb-false)

  -- At a fault.

  module _ {left : State → State → Type 0} {Are : List Event → Type 0} (none : Are []) where
    -- nothing has changed
    pub left-same : (fault : Fault) → left s s → MayHaveGrown left Are s fault
    left-same fault same = grind (arith, with_none)

    -- the event was perhaps added
    pub left-outcome : Are (Did j item ∷ []) → left s (outcome s None asked).state → MayHaveGrown left Are s Store
    left-outcome one added = go (nat_le most_events (length s.ledger)) refl
      where
        go : (v : Bool) → nat_le most_events (length s.ledger) ≡ v → MayHaveGrown left Are s Store
        go true e = left-same Store (subst (λ (p : Outcome). left s p.state) (outcome-full (leb-true _ _ e)) added)
        go false e =
            let room = leb-false _ _ e in
            record {
              events = [];
              next = Did j item ∷ [];
              are = none;
              are_with = one;
              at_most = omega arith;
              within = omega (arith, room);
              left = subst (λ t. left t (with_events s (Did j item ∷ []))) (sym (with_none s))
                  (subst (λ (p : Outcome). left s p.state) (outcome-made room) added);
            }
