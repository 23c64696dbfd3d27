-- The first pass over one journey after another. For `turn_back`.
use Rattle.std.proofs.Common.{◌≡◌, ℕ, ◌+◌, ◌<◌, ◌≤◌, List, [], ◌∷◌, ◌++◌, length, ap, sym, ◌∙◌, arith, append-nil, length-append, subst, Bool, true, false, Some, None, option_map}
use Rattle.std.proofs.lemmas.Bool.{false_from_ne_true}
use Rattle.std.specs.Prelude.{unwrap_or}
use Rattle.commands.specs.declared.replies.Fault.{Fault}
use Rattle.commands.specs.declared.items.Phase.{Phase}
use Rattle.ledger.specs.Answer.{State, most_events}
use Rattle.ledger.specs.History.{is_running, is_open}
use Rattle.ledger.specs.Ledger.{Event, journeys, is_in}
use Rattle.saga_core.specs.Views.{first_unfinished}
use Rattle.saga_core.specs.declared.records.Brief.{Brief}
use Rattle.recovery.specs.Asking.{stop_of, Stops, StopsOrNot, IsAtMost, none, one}
use Rattle.recovery.specs.Growing.{with_events, Grew, GrewFull, MayHaveGrown}
use Rattle.recovery.specs.Passes.{AreStops, AreFirstStops}
use Rattle.saga_core.proofs.FirstLemmas.{IsFirst, first-found, first-none}
use Rattle.recovery.proofs.PassLemmas.{grew-as, grew-full, grew-one, may-join, may-just, journeys-fewer}
use Rattle.recovery.proofs.TellLemmas.{is_there}
use Rattle.recovery.proofs.TurnLemmas.{Turning, turning-more, turning-further, turns-none, turns_above, phase-same}

-- the book represents the state with the turns up to this number appended
pub record TurnedSoFar (stands : State → Type 0) (s : State) (after made rounds : ℕ) : Type 0 where
  pub grew : Grew stands (Turning s.ledger after) s made
  pub treated : rounds ≤ after
  pub below : after ≤ length (journeys s.ledger)

-- the turns so far are a prefix of all turns
firsts : (l : List Event) (after : ℕ) (events : List Event) → Turning l after events → AreFirstStops l events
firsts l after events t = record { rest = turns_above l after; all = t.all }

-- a running journey is open
run-open : (p : Phase) → is_running p ≡ true → is_open p ≡ true
run-open p e = grind arith

-- so a journey that is not open does not run
not_running : (m : List Event) (k : ℕ) → is_in is_open m k ≡ false → is_in is_running m k ≡ false
not_running m k closed = grind (arith, false_from_ne_true, is_there, run-open)

-- a test of the first open journey is a test of the reported phase
pub first-in : (passes : Phase → Bool) (m : List Event) (after : ℕ) (b : Brief) → IsFirst m after b
    → is_in passes m b.id ≡ passes b.cursor.phase
first-in passes m after b f = ap (λ o. unwrap_or (option_map passes o) false) f.phase_is

-- no journey between runs in the old ledger
between : (l events : List Event) (after : ℕ) (b : Brief) → Turning l after events
    → IsFirst (l ++ events) after b
    → (k : ℕ) → after < k → k < b.id → is_in is_running l k ≡ false
between l events after b t f k above below =
    sym (phase-same is_running after k l (l ++ events) t.same above)
    ∙ not_running (l ++ events) k (f.between k above below)

module _ {stood : State → Type 0} {s : State} {after made rounds : ℕ} (t : TurnedSoFar stood s after made rounds) where
  -- the same of a book that represents that state now
  abbrev pub turned-now : (stands : State → Type 0) → stands (with_events s t.grew.events) → TurnedSoFar stands s after made rounds
  turned-now stands here = record { grew = grew-as t.grew t.grew.are here; treated = t.treated; below = t.below }

  -- no journey is left: these are all turns
  pub turned-all : {stands : State → Type 0} → None ≡ first_unfinished (s.ledger ++ t.grew.events) after → stands (with_events s t.grew.events)
      → Grew stands (AreStops s.ledger) s made
  turned-all is here =
      let m = s.ledger ++ t.grew.events in
      let left = turns-none s.ledger after (λ k above.
      sym (phase-same is_running after k s.ledger m t.grew.are.same above) ∙ not_running m k (first-none m after is k above)) in
      grew-as t.grew (sym (t.grew.are.all ∙ ap (λ r. t.grew.events ++ r) left ∙ append-nil t.grew.events)) here

  -- all rounds are over: then the ledger has more events than it may have
  pub turned-over : {stands : State → Type 0} → most_events ≤ rounds → stands (with_events s t.grew.events) → GrewFull stands (AreFirstStops s.ledger) s made
  turned-over over here = grind (arith, length-append, journeys-fewer, grew-full, firsts)

  -- a read of the book met a fault
  pub turned-look : {left : State → State → Type 0} {fault : Fault} → left (with_events s t.grew.events) (with_events s t.grew.events)
      → MayHaveGrown left (AreFirstStops s.ledger) s fault
  turned-look here = may-just t.grew (firsts s.ledger after t.grew.events t.grew.are) here

  -- the next open journey
  module _ (b : Brief) (is : Some b ≡ first_unfinished (s.ledger ++ t.grew.events) after) where
    found : IsFirst (s.ledger ++ t.grew.events) after b
    found = first-found (s.ledger ++ t.grew.events) after b is

    within : b.id ≤ length (journeys s.ledger)
    within = grind (arith, found)

    here_now : (v : Bool) → is_running b.cursor.phase ≡ v → is_in is_running (s.ledger ++ t.grew.events) b.id ≡ v
    here_now v e = first-in is_running (s.ledger ++ t.grew.events) after b found ∙ e

    was : (v : Bool) → is_running b.cursor.phase ≡ v → is_in is_running s.ledger b.id ≡ v
    was v e =
        sym (phase-same is_running after b.id s.ledger (s.ledger ++ t.grew.events) t.grew.are.same found.above) ∙ here_now v e

    turns : is_running b.cursor.phase ≡ true → Turning s.ledger b.id (t.grew.events ++ stop_of (s.ledger ++ t.grew.events) b.id ∷ [])
    turns runs =
        turning-more s.ledger after b.id t.grew.events t.grew.are found.above within
        (between s.ledger t.grew.events after b t.grew.are found) (was true runs)

    -- it runs, and turned
    pub turned-more : {stands : State → Type 0} → is_running b.cursor.phase ≡ true → Stops stood stands b.id true
        → TurnedSoFar stands s b.id (made + 1) (rounds + 1)
    turned-more runs stopped =
        let went = stopped (with_events s t.grew.events) t.grew.stands_there (here_now true runs) in
        let higher = found.above in
        let treated = t.treated in
        record {
          grew = grew-one t.grew (stop_of (s.ledger ++ t.grew.events) b.id) went.0 (turns runs) went.1;
          treated = omega (arith, higher, treated);
          below = within;
        }

    -- it does not run
    pub turned-further : {stands : State → Type 0} → is_running b.cursor.phase ≡ false → stands (with_events s t.grew.events)
        → TurnedSoFar stands s b.id made (rounds + 1)
    turned-further rests here =
        let higher = found.above in
        let treated = t.treated in
        record {
          grew = grew-as t.grew (turning-further s.ledger after b.id t.grew.events t.grew.are found.above within
              (between s.ledger t.grew.events after b t.grew.are found) (was false rests)) here;
          treated = omega (arith, higher, treated);
          below = within;
        }

    -- the stop found the ledger full
    pub turned-refused : {stands : State → Type 0} → is_running b.cursor.phase ≡ true → Stops stood stands b.id false
        → GrewFull stands (AreFirstStops s.ledger) s made
    turned-refused runs stopped =
        let stayed = stopped (with_events s t.grew.events) t.grew.stands_there (here_now true runs) in
        grew-full t.grew (firsts s.ledger after t.grew.events t.grew.are) stayed.1 stayed.0

    -- the stop met a fault
    pub turned-fault : {left : State → State → Type 0} {fault : Fault} → is_running b.cursor.phase ≡ true → StopsOrNot stood left b.id fault
        → MayHaveGrown left (AreFirstStops s.ledger) s fault
    turned-fault runs stopped = may-join t.grew (stopped (with_events s t.grew.events) t.grew.stands_there (here_now true runs)) go
      where
        go : (more : List Event) → IsAtMost (stop_of (s.ledger ++ t.grew.events) b.id) more → AreFirstStops s.ledger (t.grew.events ++ more)
        go _ none = subst (AreFirstStops s.ledger) (sym (append-nil t.grew.events)) (firsts s.ledger after t.grew.events t.grew.are)
        go _ one = firsts s.ledger b.id (t.grew.events ++ stop_of (s.ledger ++ t.grew.events) b.id ∷ []) (turns runs)
