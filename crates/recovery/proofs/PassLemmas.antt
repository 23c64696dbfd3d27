-- How the state of a book is extended by a pass. For the passes.
use Rattle.std.proofs.Common.{◌≡◌, ℕ, ◌+◌, ◌^◌, ◌<◌, ◌≤◌, List, [], ◌∷◌, ◌++◌, length, ap, ◌∙◌, arith, append_assoc, append-nil, length-append, sym, subst}
use Rattle.commands.specs.declared.replies.Fault.{Fault}
use Rattle.ledger.specs.Answer.{State, most_events}
use Rattle.ledger.specs.Ledger.{Event, journeys}
use Rattle.recovery.specs.Growing.{with_events, room_of, Grew, GrewFull, MayHaveGrown}

-- appending events, and then more events, appends both lists
pub with_more : (s : State) (events more : List Event)
    → with_events (with_events s events) more ≡ with_events s (events ++ more)
with_more s events more =
    ap (λ l. record { ledger = l; kept = s.kept }) (append_assoc s.ledger events more)

-- a ledger with n events appended is longer by n
pub length-with : (s : State) (events : List Event) (n : ℕ) → length events ≡ n
    → length (s.ledger ++ events) ≡ length s.ledger + n
length-with s events n counted =
    length-append s.ledger events ∙ ap (λ m. length s.ledger + m) counted

-- Extensions.

module _ {stood stands : State → Type 0} {Before Are : List Event → Type 0} {s : State} {n : ℕ} where
  -- the same extension, of another book and in other words
  abbrev pub grew-as : (t : Grew stood Before s n) → Are t.events → stands (with_events s t.events) → Grew stands Are s n
  grew-as t are here = record { events = t.events; are = are; counted = t.counted; within = t.within; stands_there = here }

  -- an extension that fills the ledger
  pub grew-full : (t : Grew stood Before s n) → Are t.events → stands (with_events s t.events)
      → most_events ≤ length (s.ledger ++ t.events) → GrewFull stands Are s n
  grew-full t are here full = grind (arith, length-with)

  -- an extension by one event more
  abbrev pub grew-one : (t : Grew stood Before s n) (e : Event) → length (s.ledger ++ t.events) < most_events → Are (t.events ++ e ∷ [])
      → stands (with_events (with_events s t.events) (e ∷ [])) → Grew stands Are s (n + 1)
  grew-one t e room are here = record {
    events = t.events ++ e ∷ [];
    are = are;
    counted = length-append t.events (e ∷ []) ∙ ap (λ k. k + 1) t.counted;
    within = let longer = length-with s t.events n t.counted in omega (arith, longer, room);
    stands_there = subst stands (with_more s t.events (e ∷ [])) here;
  }

module _ {stood stands : State → Type 0} {Before AreMore Are : List Event → Type 0} {s : State} {n m total : ℕ} where
  -- an extension of an extension is an extension
  abbrev pub grew-join : (t : Grew stood Before s n) (g : Grew stands AreMore (with_events s t.events) m) → Are (t.events ++ g.events)
      → total ≡ n + m → Grew stands Are s total
  grew-join t g are sum = record {
    events = t.events ++ g.events;
    are = are;
    counted = length-append t.events g.events ∙ ap (λ k. k + length g.events) t.counted ∙ ap (λ k. n + k) g.counted ∙ sym sum;
    within =
        let longer = length-with s t.events n t.counted in
        let within = t.within in
        let more = g.within in
        omega (arith, longer, within, more, sum);
    stands_there = subst stands (with_more s t.events g.events) g.stands_there;
  }

  -- and then another that fills the ledger
  pub full-join : (t : Grew stood Before s n) (g : GrewFull stands AreMore (with_events s t.events) m) → Are (t.events ++ g.grew.events)
      → total ≡ n + m → GrewFull stands Are s total
  full-join t g are sum =
      let longer = length-with s t.events n t.counted in
      let full = g.full in
      record { grew = grew-join t g.grew are sum; full = omega (arith, longer, full, sum) }

-- the sum of two such extensions fits in 64 bits
pub sum-fits : {stood : State → Type 0} {Before : List Event → Type 0} {s : State} {n : ℕ} (m : ℕ) (t : Grew stood Before s n)
    → m ≤ room_of (with_events s t.events) → n + m < 2 ^ 64
sum-fits m t more = grind (arith, length-with)

-- so does a sum of three
pub sums-fit : {stood stands : State → Type 0} {Before AreMore : List Event → Type 0} {s : State} {n m : ℕ} (k : ℕ) (t : Grew stood Before s n)
    (b : Grew stands AreMore (with_events s t.events) m) → k ≤ room_of (with_events (with_events s t.events) b.events) → n + (m + k) < 2 ^ 64
sums-fit k t b last = grind (arith, length-with)

-- Faults.

module _ {left : State → State → Type 0} {s : State} {fault : Fault} where
  -- what may be left after a further extension
  pub may-join : {stood : State → Type 0} {Before AreMore Are : List Event → Type 0} {n : ℕ} (t : Grew stood Before s n)
      → MayHaveGrown left AreMore (with_events s t.events) fault
      → ((more : List Event) → AreMore more → Are (t.events ++ more)) → MayHaveGrown left Are s fault
  may-join t g are = grind (arith, length-with, append_assoc, length-append)

  -- the same in weaker words
  pub may-weaken : {Are Weaker : List Event → Type 0} → MayHaveGrown left Are s fault
      → ((events : List Event) → Are events → Weaker events) → MayHaveGrown left Weaker s fault
  may-weaken g weaken = grind arith

  -- just the extended state is left
  pub may-just : {stood : State → Type 0} {Before Are : List Event → Type 0} {n : ℕ} (t : Grew stood Before s n) → Are t.events
      → left (with_events s t.events) (with_events s t.events) → MayHaveGrown left Are s fault
  may-just t are here = grind (arith, append-nil)

-- there are no more journeys than events
pub journeys-fewer : (l : List Event) → length (journeys l) ≤ length l
journeys-fewer [] = omega arith
journeys-fewer (e ∷ l) = grind (arith, journeys-fewer l)
