-- One pass after another, until all are complete, the ledger is full, or a fault comes. For `recover_all`.
use Rattle.std.proofs.Common.{◌≡◌, ℕ, ◌+◌, ◌≤◌, List, ◌++◌, append_assoc, subst, refl, arith}
use Rattle.std.specs.Prelude.{⊤}
use Rattle.commands.specs.declared.replies.Fault.{Fault}
use Rattle.ledger.specs.Recovery.{IsRecovered}
use Rattle.ledger.specs.Answer.{State}
use Rattle.ledger.specs.Ledger.{Event, IsLegal}
use Rattle.recovery.specs.Growing.{with_events, room_of, Grew, GrewFull, MayHaveGrown}
use Rattle.recovery.specs.Passes.{AreStops, AreFirstStops, IsUnderWay, IsThrough, Comes, made_by}
use Rattle.recovery.specs.Recovers.{AreRecovery, AreBeginning}
use Rattle.recovery.specs.declared.passes.Came.{Came}
use Rattle.recovery.specs.declared.passes.Came.TheVariants.{Through, Full}
use Rattle.recovery.specs.declared.passes.Pass.TheVariants.{Back, On}
use Rattle.recovery.proofs.PassLemmas.{grew-as, grew-join, full-join, may-join, may-weaken}
use Rattle.recovery.proofs.RecoverLemmas.{turns-begin, back-begins, on-begins, on-recovers, recovery-whole, recovery-full}

-- a pass has made no more events than there was room for
pub came-within : (stands : State → Type 0) (s : State) (All Some : List Event → Type 0) (came : Came)
    → Comes stands s All Some came → made_by came ≤ room_of s
came-within stands s All Some came g = grind arith

module _ {s : State} where
  -- a prefix of the recovered ledger that fills the ledger is recovery, as far as there is room
  cut-recovers : {stands : State → Type 0} {made : ℕ} → GrewFull stands (AreBeginning s.ledger) s made → Grew stands (AreRecovery s.ledger) s made
  cut-recovers {made = made} g =
      grew-as g.grew (recovery-full s g.grew.events made g.grew.are g.grew.counted g.grew.within g.full) g.grew.stands_there

  module _ (legal : IsLegal s.ledger) where
    -- the turns filled the ledger
    pub turns-cut : {stands : State → Type 0} {made : ℕ} → GrewFull stands (AreFirstStops s.ledger) s made → Grew stands (AreRecovery s.ledger) s made
    turns-cut g =
        cut-recovers (record { grew = grew-as g.grew (turns-begin s.ledger g.grew.events legal g.grew.are) g.grew.stands_there; full = g.full })

    -- a fault in the turns
    pub turns-fault : {left : State → State → Type 0} {fault : Fault} → MayHaveGrown left (AreFirstStops s.ledger) s fault
        → MayHaveGrown left (AreBeginning s.ledger) s fault
    turns-fault g = may-weaken g (λ events first. turns-begin s.ledger events legal first)

    module _ {turned : State → Type 0} {n : ℕ} (t : Grew turned (AreStops s.ledger) s n) where
      -- the way back filled the ledger
      pub back-cut : {stands : State → Type 0} {m total : ℕ} → GrewFull stands (IsUnderWay Back (s.ledger ++ t.events)) (with_events s t.events) m
          → total ≡ n + m → Grew stands (AreRecovery s.ledger) s total
      back-cut g sum = cut-recovers (full-join t g (back-begins s.ledger t.events g.grew.events legal t.are g.grew.are) sum)

      -- a fault on the way back
      pub back-fault : {left : State → State → Type 0} {fault : Fault}
          → MayHaveGrown left (IsUnderWay Back (s.ledger ++ t.events)) (with_events s t.events) fault
          → MayHaveGrown left (AreBeginning s.ledger) s fault
      back-fault g = may-join t g (λ more under. back-begins s.ledger t.events more legal t.are under)

      module _ {back : State → Type 0} {m : ℕ} (b : Grew back (IsThrough Back (s.ledger ++ t.events)) (with_events s t.events) m) where
        -- what is begun after the way back
        begun : (more : List Event) → IsUnderWay On ((s.ledger ++ t.events) ++ b.events) more
            → AreBeginning s.ledger (t.events ++ (b.events ++ more))
        begun more under =
            subst (AreBeginning s.ledger) (append_assoc t.events b.events more)
            (on-begins s.ledger t.events b.events more legal t.are b.are under)

        -- the way on completed, or filled the ledger
        pub on-came : {stands : State → Type 0} {total : ℕ} (came : Came) → ((u : State) → stands u → IsLegal u.ledger)
            → Comes stands (with_events (with_events s t.events) b.events) (IsThrough On ((s.ledger ++ t.events) ++ b.events))
            (IsUnderWay On ((s.ledger ++ t.events) ++ b.events)) came
            → total ≡ n + (m + made_by came) → Grew stands (AreRecovery s.ledger) s total
        on-came {stands = stands} {total = total} (Through k) all_legal g sum =
            let rest : Grew stands (λ e. ⊤) (with_events s t.events) (m + k) = grew-join b g tt refl in
            let all : Grew stands (λ e. ⊤) s total = grew-join t rest tt sum in
            grew-as all (recovery-whole s all.events total
            (subst (λ e. IsRecovered s.ledger (s.ledger ++ e)) (append_assoc t.events b.events g.events)
            (on-recovers s.ledger t.events b.events g.events t.are b.are g.are (all_legal _ g.stands_there)))
            all.counted all.within) all.stands_there
        on-came {stands = stands} (Full k) all_legal g sum =
            let rest : GrewFull stands (λ e. AreBeginning s.ledger (t.events ++ e)) (with_events s t.events) (m + k) =
            full-join b g (begun g.grew.events g.grew.are) refl in
            cut-recovers (full-join t rest rest.grew.are sum)

        -- a fault on the way on
        pub on-fault : {left : State → State → Type 0} {fault : Fault}
            → MayHaveGrown left (IsUnderWay On ((s.ledger ++ t.events) ++ b.events)) (with_events (with_events s t.events) b.events) fault
            → MayHaveGrown left (AreBeginning s.ledger) s fault
        on-fault {left = left} {fault = fault} g =
            let rest : MayHaveGrown left (λ e. AreBeginning s.ledger (t.events ++ e)) (with_events s t.events) fault = may-join b g begun in
            may-join t rest (λ more first. first)
