-- A pass over one journey after another. For `carry`.
use Rattle.std.proofs.Common.{◌≡◌, ℕ, suc, ◌+◌, ◌≤◌, List, ◌++◌, length, refl, ap, sym, ◌∙◌, arith, append_assoc, length-append, Bool, true, false, nat_lt, Some, None}
use Rattle.std.proofs.lemmas.Grind.{common_steps}
use Rattle.std.proofs.lemmas.Bool.{false_from_ne_true, not_from_false, ltb-true, ltb-false}
use Rattle.commands.specs.declared.replies.Fault.{Fault}
use Rattle.ledger.specs.Answer.{State, most_events}
use Rattle.ledger.specs.History.{is_open}
use Rattle.ledger.specs.Ledger.{Event, journeys, is_in}
use Rattle.ledger.specs.Recovery.{HasReached}
use Rattle.ledger.proofs.Recoverable.{none-pass}
use Rattle.saga_core.specs.Views.{first_unfinished}
use Rattle.saga_core.specs.declared.records.Brief.{Brief}
use Rattle.recovery.specs.Growing.{with_events, Grew, GrewFull, MayHaveGrown}
use Rattle.recovery.specs.Passes.{goes_on, makes, Carry, CarryOut, IsUnderWay, IsThrough}
use Rattle.recovery.specs.declared.passes.Pass.{Pass}
use Rattle.recovery.proofs.CarryLemmas.{in-open}
use Rattle.saga_core.proofs.FirstLemmas.{IsFirst, first-found, first-none}
use Rattle.recovery.proofs.PassLemmas.{grew-as, grew-full, grew-join, full-join, may-join, may-just, journeys-fewer}
use Rattle.ledger.proofs.Reaching.{reached-further, reached-carried, reached-past}
use Rattle.recovery.proofs.TurnedLemmas.{first-in}

-- the pass is done with the journeys up to this number
abbrev pub IsDoneTo : Pass → List Event → ℕ → List Event → Type 0
IsDoneTo p l after events = HasReached (makes p) (goes_on p) l events (suc after)

-- the book represents the state with so many items of the pass appended, and the pass is done with the journeys up to
-- this number
pub record CarriedSoFar (p : Pass) (stands : State → Type 0) (s : State) (after made rounds : ℕ) : Type 0 where
  pub grew : Grew stands (IsDoneTo p s.ledger after) s made
  pub treated : rounds ≤ after
  pub below : after ≤ length (s.ledger ++ grew.events)

-- the pass does not go on with a journey that is not open
closed : (p : Pass) (m : List Event) (k : ℕ) → is_in is_open m k ≡ false
    → is_in (goes_on p) m k ≡ false
closed p m k shut = grind (arith, false_from_ne_true, in-open)

-- the pass goes on with the first open journey
pub goes-first : (p : Pass) (m : List Event) (after : ℕ) (b : Brief) → Some b ≡ first_unfinished m after → goes_on p b.cursor.phase ≡ true
    → is_in (goes_on p) m b.id ≡ true
goes-first p m after b is goes = first-in (goes_on p) m after b (first-found m after b is) ∙ goes

module _ {p : Pass} {stood : State → Type 0} {s : State} {after made rounds : ℕ} (t : CarriedSoFar p stood s after made rounds) where
  -- no journey is left: the pass is complete
  pub carried-all : {stands : State → Type 0} → None ≡ first_unfinished (s.ledger ++ t.grew.events) after → stands (with_events s t.grew.events)
      → Grew stands (IsThrough p s.ledger) s made
  carried-all is here =
      let m = s.ledger ++ t.grew.events in
      grew-as t.grew (record {
        under_way = record { number = suc after; reached = t.grew.are };
        done = not_from_false _ (none-pass (is_in (goes_on p) m) (length (journeys m)) 1 (λ j low high. each j (nat_lt after j) refl));
      }) here
    where
      each : (j : ℕ) → (v : Bool) → nat_lt after j ≡ v → is_in (goes_on p) (s.ledger ++ t.grew.events) j ≡ false
      each j true e = closed p (s.ledger ++ t.grew.events) j (first-none (s.ledger ++ t.grew.events) after is j (ltb-true _ _ e))
      each j false e = let low = ltb-false _ _ e in t.grew.are.done j (omega (arith, low))

  -- all rounds are over: then the ledger has more events than it may have
  pub carried-over : {stands : State → Type 0} → most_events ≤ rounds → stands (with_events s t.grew.events) → GrewFull stands (IsUnderWay p s.ledger) s made
  carried-over over here = grind (arith, common_steps, grew-full)

  -- a read of the book met a fault
  pub carried-look : {left : State → State → Type 0} {fault : Fault} → left (with_events s t.grew.events) (with_events s t.grew.events)
      → MayHaveGrown left (IsUnderWay p s.ledger) s fault
  carried-look here = may-just t.grew (record { number = suc after; reached = t.grew.are }) here

  -- the next open journey
  module _ (b : Brief) (is : Some b ≡ first_unfinished (s.ledger ++ t.grew.events) after) where
    found : IsFirst (s.ledger ++ t.grew.events) after b
    found = first-found (s.ledger ++ t.grew.events) after b is

    -- the pass has reached it
    come-to : HasReached (makes p) (goes_on p) s.ledger t.grew.events b.id
    come-to =
        let above = found.above in
        reached-further (makes p) (goes_on p) s.ledger t.grew.events (suc after) b.id t.grew.are (omega (arith, above))
        (λ k low below. closed p (s.ledger ++ t.grew.events) k (found.between k (omega (arith, low)) below))

    -- the items of the pass, with those of the journey
    under-more : (more : List Event) → Carry p b.id (s.ledger ++ t.grew.events) more
        → HasReached (makes p) (goes_on p) s.ledger (t.grew.events ++ more) b.id
    under-more more c =
        reached-carried (makes p) (goes_on p) s.ledger t.grew.events more b.id come-to c.allowed c.items c.of_journey

    -- the pass has nothing to do with it
    pub carried-further : {stands : State → Type 0} → goes_on p b.cursor.phase ≡ false → stands (with_events s t.grew.events)
        → CarriedSoFar p stands s b.id made (rounds + 1)
    carried-further rests here =
        let treated = t.treated in
        record {
          grew = grew-as t.grew (reached-past (makes p) (goes_on p) s.ledger t.grew.events b.id come-to
              (first-in (goes_on p) (s.ledger ++ t.grew.events) after b found ∙ rests)) here;
          treated = grind (arith, found, treated);
          below = grind (arith, found, journeys-fewer);
        }

    -- the pass is done with it
    pub carried-more : {stands : State → Type 0} {more total : ℕ}
        → Grew stands (CarryOut p b.id (s.ledger ++ t.grew.events)) (with_events s t.grew.events) more
        → total ≡ made + more → CarriedSoFar p stands s b.id total (rounds + 1)
    carried-more g sum =
        let treated = t.treated in
        record {
          grew = grew-join t.grew g (reached-past (makes p) (goes_on p) s.ledger (t.grew.events ++ g.events) b.id
              (under-more g.events g.are.carry)
              (ap (λ m. is_in (goes_on p) m b.id) (sym (append_assoc s.ledger t.grew.events g.events)) ∙ g.are.done)) sum;
          treated = grind (arith, found, treated);
          below = grind (arith, found, journeys-fewer, length-append);
        }

    -- the ledger was full within it
    pub carried-cut : {stands : State → Type 0} {more total : ℕ}
        → GrewFull stands (Carry p b.id (s.ledger ++ t.grew.events)) (with_events s t.grew.events) more
        → total ≡ made + more → GrewFull stands (IsUnderWay p s.ledger) s total
    carried-cut g sum = full-join t.grew g (record { number = b.id; reached = under-more g.grew.events g.grew.are }) sum

    -- a fault within it
    pub carried-fault : {left : State → State → Type 0} {fault : Fault}
        → MayHaveGrown left (Carry p b.id (s.ledger ++ t.grew.events)) (with_events s t.grew.events) fault
        → MayHaveGrown left (IsUnderWay p s.ledger) s fault
    carried-fault g = may-join t.grew g (λ more c. record { number = b.id; reached = under-more more c })
