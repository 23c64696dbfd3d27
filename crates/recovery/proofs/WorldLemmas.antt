-- An execution continues with recovery. For `recover`.
use Rattle.std.proofs.Common.{◌≡◌, ℕ, ◌+◌, ◌-◌, ◌≤◌, List, [], ◌++◌, length, take, refl, ap, sym, ◌∙◌, subst, arith, length-append, Bool, true, false}
use Rattle.std.proofs.lemmas.List.{length-map, map-append}
use Rattle.commands.specs.declared.replies.Fault.{Fault}
use Rattle.commands.specs.declared.replies.Fault.TheVariants.{Memory, Store}
use Rattle.ledger.specs.Answer.{State, start}
use Rattle.ledger.specs.Ledger.{Event, IsLegal}
use Rattle.ledger.specs.Recovery.{IsRecovered}
use Rattle.ledger.specs.World.{Moment, after}
use Rattle.saga_core.specs.Runs.{state_after}
use Rattle.saga_core.specs.Worlds.{KeepLimits, StandsAtEnd, EndsAmong, StandsUnless, continued, most_under_way}
use Rattle.saga_core.proofs.WorldLemmas.{stands-continued, leaves-crashed, ends-with}
use Rattle.recovery.specs.Growing.{with_events, room_of, Grew, LeavesAt, MayHaveGrown}
use Rattle.recovery.specs.Recovers.{AreRecovery, AreBeginning, IsRecovery}
use Rattle.recovery.specs.Worlds.{order_of, orders_of, EndsRecovered, EndsRecovering}
use Rattle.recovery.proofs.MadeLemmas.{AreMade, ours, all-made, in-limits}
use Rattle.recovery.proofs.OneLemmas.{recovery-cut}

-- recovery completed: all of its requests were answered
pub world-recovered : {stood : State → Type 0} (stands : State → Type 0) (leaves : State → State → Type 0)
    (w : List Moment) (made : ℕ) → ((u : State) → stands u → leaves u u)
    → StandsAtEnd stood w → IsLegal (after start w).ledger
    → Grew stands (AreRecovery (after start w).ledger) (after start w) made → EndsRecovered stands leaves w
world-recovered stands leaves w made settled here legal g =
    let s = after start w in
    let is = ours s.ledger g.events g.are.rest
    (subst (IsRecovered s.ledger) g.are.beginning g.are.is_recovered) in
    let counted = g.counted in
    let within = g.within in
    let fits : length g.events ≤ room_of s = omega (arith, counted, within) in
    let all = all-made s g.events legal is fits in
    record {
      events = g.events;
      is = record { are = g.are; within = fits };
      made = all.made;
      ends = ends-with stands leaves w (orders_of g.events) settled here (in-limits g.events)
          (subst stands (sym all.leads) g.stands_there);
    }

-- The parts of recovery's requests.

-- the events of recovery: those that were made, those that may have been made, and the later ones
record Parts (s : State) (events next : List Event) : Type 0 where
  later : List Event
  is : IsRecovery s (events ++ next ++ later)
  in_order : orders_of (events ++ next ++ later) ≡ orders_of events ++ orders_of next ++ orders_of later
  limits : KeepLimits (orders_of events ++ orders_of next)
  front : AreMade s events
  leads : state_after s (orders_of events ++ orders_of next) ≡ with_events s (events ++ next)

parts : (s : State) (events next : List Event) → IsLegal s.ledger → AreBeginning s.ledger events
    → AreBeginning s.ledger (events ++ next) → length events ≤ room_of s → length (events ++ next) ≤ room_of s
    → Parts s events next
parts s events next legal are are_with some fits =
    let both : orders_of (events ++ next) ≡ orders_of events ++ orders_of next = map-append order_of events next in
    let later = take (room_of s - length (events ++ next)) are_with.rest in
    record {
      later = later;
      is = recovery-cut s (events ++ next) are_with.rest are_with.recovered fits;
      in_order = map-append order_of (events ++ next) later ∙ ap (λ o. o ++ orders_of later) both;
      limits = subst KeepLimits both (in-limits (events ++ next));
      front = all-made s events legal (ours s.ledger events are.rest are.recovered) some;
      leads =
          ap (state_after s) (sym both)
          ∙ (all-made s (events ++ next) legal
          (ours s.ledger (events ++ next) are_with.rest are_with.recovered) fits).leads;
    }

-- there are as many requests as events
few-orders : (events : List Event) (n : ℕ) → length events ≤ n → length (orders_of events) ≤ n
few-orders events n few = let same = length-map events order_of in omega (arith, same, few)

-- what a crash leaves, in terms of the requests
crash-leaves : (leaves : State → State → Type 0) (s : State) (events next : List Event) → (p : Parts s events next)
    → leaves (with_events s events) (with_events s (events ++ next))
    → leaves (state_after s (orders_of events)) (state_after s (orders_of events ++ orders_of next))
crash-leaves leaves s events next p left = grind arith

-- the events of a book that was extended
grown-parts : (left : State → State → Type 0) (s : State) (fault : Fault) → IsLegal s.ledger
    → (g : MayHaveGrown left (AreBeginning s.ledger) s fault) → Parts s g.events g.next
grown-parts left s fault legal g =
    let fits = g.within in
    let longer : length (g.events ++ g.next) ≡ length g.events + length g.next = length-append g.events g.next in
    parts s g.events g.next legal g.are g.are_with (omega (arith, fits, longer)) g.within

-- a run of these requests that ended at a fault
abbrev ends-among : {stood : State → Type 0} (stands : State → Type 0) (leaves : State → State → Type 0)
    (w : List Moment) (events next : List Event) (failed : Bool) → StandsAtEnd stood w
    → (p : Parts (after start w) events next) → length next ≤ 1 → length next ≤ most_under_way failed
    → StandsUnless failed stands (continued w (orders_of events) [])
    → leaves (with_events (after start w) events) (with_events (after start w) (events ++ next))
    → EndsAmong stands leaves w (orders_of (events ++ next ++ p.later)) failed
ends-among stands leaves w events next failed here p one few ends left =
    record {
      progress = record {
        answered = orders_of events;
        under_way = orders_of next;
        later = orders_of p.later;
        in_order = p.in_order;
        at_most_one = few-orders next 1 one;
        limits = p.limits;
      };
      few = few-orders next (most_under_way failed) few;
      ends = ends;
      left = leaves-crashed leaves w (orders_of events) (orders_of next) here p.limits (few-orders next 1 one)
          (crash-leaves leaves (after start w) events next p left);
    }

-- at a fault a prefix of the requests was answered, and perhaps the next one was cut off
pub world-cut : {stood : State → Type 0} (stands : State → Type 0) (leaves : State → State → Type 0)
    (w : List Moment) (fault : Fault) → StandsAtEnd stood w → IsLegal (after start w).ledger
    → MayHaveGrown (LeavesAt fault stands leaves) (AreBeginning (after start w).ledger) (after start w) fault
    → EndsRecovering stands leaves w fault
world-cut stands leaves w Memory here legal g =
    let p = grown-parts (LeavesAt Memory stands leaves) (after start w) Memory legal g in
    let few = g.at_most in
    record {
      events = g.events;
      next = g.next;
      later = p.later;
      is = p.is;
      are = g.are;
      are_with = g.are_with;
      at_most = g.at_most;
      made = p.front.made;
      among = ends-among stands leaves w g.events g.next false here p (omega (arith, few)) g.at_most
          (stands-continued stands w (orders_of g.events) here (in-limits g.events)
          (subst stands (sym p.front.leads) g.left.0)) g.left.1;
      answered = refl;
      under_way = refl;
    }
world-cut stands leaves w Store here legal g =
    let p = grown-parts (LeavesAt Store stands leaves) (after start w) Store legal g in
    record {
      events = g.events;
      next = g.next;
      later = p.later;
      is = p.is;
      are = g.are;
      are_with = g.are_with;
      at_most = g.at_most;
      made = p.front.made;
      among = ends-among stands leaves w g.events g.next true here p g.at_most g.at_most tt g.left;
      answered = refl;
      under_way = refl;
    }
