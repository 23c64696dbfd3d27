-- The three passes make recovery: all of it, or a prefix of it. For `recover`.
use Rattle.std.proofs.Common.{◌≡◌, ℕ, ◌+◌, ◌≤◌, List, [], ◌∷◌, ◌++◌, length, refl, ap, sym, ◌∙◌, arith, append_assoc, append-nil, length-append, subst, IsTrue}
use Rattle.std.proofs.lemmas.List.{take_all, take-append-le}
use Rattle.ledger.specs.Answer.{State, most_events}
use Rattle.ledger.specs.History.{is_open}
use Rattle.ledger.specs.Laws.{IsRecoverable}
use Rattle.ledger.specs.Ledger.{Event, IsLegal}
use Rattle.ledger.specs.Recovery.{stops, has_none, IsRecovered, turning, going_back, going_on, BeginsRecovered, bound}
use Rattle.ledger.proofs.Recovering.{recovered-unique}
use Rattle.ledger.proofs.UnderWay.{recovered-exists, recovery-goes_on}
use Rattle.recovery.specs.Growing.{room_of}
use Rattle.recovery.specs.Passes.{AreFirstStops, IsUnderWay, IsThrough}
use Rattle.recovery.specs.Recovers.{AreRecovery, AreBeginning}
use Rattle.recovery.specs.declared.passes.Pass.TheVariants.{Back, On}

-- Prefixes.

-- a prefix of the turns is a prefix of recovery
pub turns-begin : (l events : List Event) → IsLegal l → AreFirstStops l events
    → AreBeginning l events
turns-begin l events legal first =
    recovery-goes_on l legal (l ++ events) (turning events first.rest first.all)

-- so are all turns, and a part of the way back
pub back-begins : (l turned back : List Event) → IsLegal l → turned ≡ stops l
    → IsUnderWay Back (l ++ turned) back → AreBeginning l (turned ++ back)
back-begins l turned back legal is under =
    let u : IsUnderWay Back (l ++ stops l) back = rw is at under in
    rw is (subst (BeginsRecovered l) (append_assoc l (stops l) back)
    (recovery-goes_on l legal ((l ++ stops l) ++ back) (going_back back u.number u.reached)))

-- so are all turns, the whole way back, and a part of the way on
pub on-begins : (l turned back on : List Event) → IsLegal l → turned ≡ stops l
    → IsThrough Back (l ++ turned) back → IsUnderWay On ((l ++ turned) ++ back) on
    → AreBeginning l ((turned ++ back) ++ on)
on-begins l turned back on legal is through under =
    let b : IsThrough Back (l ++ stops l) back = rw is at through in
    let u : IsUnderWay On ((l ++ stops l) ++ back) on = rw is at under in
    rw is (subst (BeginsRecovered l)
    (ap (λ m. m ++ on) (append_assoc l (stops l) back) ∙ append_assoc l (stops l ++ back) on)
    (recovery-goes_on l legal (((l ++ stops l) ++ back) ++ on)
    (going_on back on b.under_way.number u.number b.under_way.reached b.done u.reached)))

-- all three passes together are recovery
pub on-recovers : (l turned back on : List Event) → turned ≡ stops l
    → IsThrough Back (l ++ turned) back → IsThrough On ((l ++ turned) ++ back) on
    → IsLegal (((l ++ turned) ++ back) ++ on) → IsRecovered l (l ++ ((turned ++ back) ++ on))
on-recovers l turned back on is through forth legal =
    let b : IsThrough Back (l ++ stops l) back = rw is at through in
    let u : IsThrough On ((l ++ stops l) ++ back) on = rw is at forth in
    rw is (subst (IsRecovered l)
    (ap (λ m. m ++ on) (append_assoc l (stops l) back) ∙ append_assoc l (stops l ++ back) on)
    (record {
      backward = back;
      forward = on;
      whole = refl;
      legal = rw is at legal;
      compensations = b.under_way.reached.items;
      by_number = b.under_way.reached.by_number;
      none_back = b.done;
      steps = u.under_way.reached.items;
      in_order = u.under_way.reached.by_number;
      all_finished = u.done;
    }))

-- Recovery, as far as there is room.

-- a ledger that is recovered is its recovery, and keeps the limit of events where the old ledger kept it
pub recovery-whole : (s : State) (events : List Event) (n : ℕ)
    → IsRecovered s.ledger (s.ledger ++ events) → length events ≡ n → n ≤ room_of s
    → AreRecovery s.ledger events
recovery-whole s events n recovered counted within =
    let longer = length-append s.ledger events in
    record {
      recovered = s.ledger ++ events;
      is_recovered = recovered;
      rest = [];
      beginning = sym (append-nil (s.ledger ++ events));
      whole = λ fits. refl;
      cut_off = λ fits. sym (take_all most_events (s.ledger ++ events) (omega arith));
    }

-- where nothing fits after a list, nothing comes after it
no_rest : (l rest : List Event) → length (l ++ rest) ≤ length l → l ++ rest ≡ l
no_rest l [] fits = append-nil l
no_rest l (e ∷ rest) fits = let longer = length-append l (e ∷ rest) in absurd (omega arith)

-- a prefix of the recovered ledger that is full is all that there is room for
pub recovery-full : (s : State) (events : List Event) (n : ℕ) → AreBeginning s.ledger events
    → length events ≡ n → n ≤ room_of s → most_events ≤ length s.ledger + n
    → AreRecovery s.ledger events
recovery-full s events n begins counted within full =
    let m = s.ledger ++ events in
    let longer : length m ≡ length s.ledger + length events = length-append s.ledger events in
    record {
      recovered = m ++ begins.rest;
      is_recovered = begins.recovered;
      rest = begins.rest;
      beginning = refl;
      whole = λ fits. sym (no_rest m begins.rest (omega arith));
      cut_off = λ fits.
          let just : most_events ≡ length m = omega arith in
          sym (take-append-le most_events m begins.rest (omega arith)
          ∙ take_all most_events m (omega arith));
    }

-- Consequences.

-- no journey is unfinished where there is room for the recovered ledger
pub recovery-finishes : (l events r : List Event) → AreRecovery l events → IsRecovered l r
    → length r ≤ most_events → IsTrue (has_none is_open (l ++ events))
recovery-finishes l events r a is fits =
    let same : a.recovered ≡ r = recovered-unique l a.recovered r a.is_recovered is in
    let short : length a.recovered ≤ most_events = omega (arith, ap length same) in
    subst (λ m. IsTrue (has_none is_open m)) (sym (a.whole short)) a.is_recovered.all_finished

-- recovery makes no more events than the bound
pub recovery-within : (l events : List Event) → IsLegal l → AreRecovery l events
    → length events ≤ bound l
recovery-within l events legal a =
    let some : IsRecoverable l = recovered-exists l legal in
    let same : a.recovered ≡ some.recovered =
    recovered-unique l a.recovered some.recovered a.is_recovered some.is_recovered in
    let within = some.within in
    let shorter = length-append (l ++ events) a.rest in
    let longer = length-append l events in
    omega (arith, ap length same, ap length a.beginning)
