-- The turns that the first pass has made: those of the running journeys up to some number. For `turn_back`.
use Rattle.std.proofs.Common.{◌≡◌, ℕ, zero, suc, ◌+◌, ◌-◌, ◌<◌, ◌≤◌, List, [], ◌∷◌, ◌++◌, length, map, cond, refl, ap, sym, ◌∙◌, arith, append_assoc, append-nil, Bool, true, false, filter, option_map}
use Rattle.std.proofs.lemmas.Bool.{ne_eqb}
use Rattle.std.specs.Prelude.{unwrap_or}
use Rattle.allotment.specs.Cells.{numbers_from}
use Rattle.plan.specs.PlanModel.{numbered}
use Rattle.commands.specs.declared.items.Item.{Item}
use Rattle.commands.specs.declared.items.Item.TheVariants.{Turn}
use Rattle.commands.specs.declared.items.Cause.TheVariants.{Stop}
use Rattle.commands.specs.declared.items.Phase.{Phase}
use Rattle.ledger.specs.History.{is_running, last_save}
use Rattle.ledger.specs.Ledger.{Event, Did, Journey, journeys, journey_at, history, is_in}
use Rattle.ledger.specs.Recovery.{stops, last_save_of}
use Rattle.ledger.proofs.Growing.{journeys-did, history-did_other}
use Rattle.ledger.proofs.Numbers.{numbers_between-join}
use Rattle.ledger.proofs.Phases.{passing}
use Rattle.recovery.specs.Asking.{stop_of}

-- the turns of the running journeys above a number
abbrev pub turns_above : List Event → ℕ → List Event
turns_above l a =
    map (stop_of l) (filter (is_in is_running l) (numbers_from (suc a) (length (journeys l) - a)))

-- numbers that fail a test are left out
filter-skip : (test : ℕ → Bool) (n first : ℕ) (ys : List ℕ)
    → ((k : ℕ) → first ≤ k → k < first + n → test k ≡ false)
    → filter test (numbers_from first n ++ ys) ≡ filter test ys
filter-skip test zero first ys each = refl
filter-skip test (suc n) first ys each =
    ap (λ v. cond v (first ∷ filter test (numbers_from (suc first) n ++ ys))
    (filter test (numbers_from (suc first) n ++ ys)))
    (each first (omega arith) (omega arith))
    ∙ filter-skip test n (suc first) ys (λ k low high. each k (omega arith) (omega arith))

-- where no journey between runs, this one is the next to turn, if it runs
turns-next : (l : List Event) (a i : ℕ) → a < suc i → suc i ≤ length (journeys l)
    → ((k : ℕ) → a < k → k < suc i → is_in is_running l k ≡ false)
    → turns_above l a ≡ cond (is_in is_running l (suc i)) (stop_of l (suc i) ∷ turns_above l (suc i)) (turns_above l (suc i))
turns-next l a i above within between =
    ap (λ ns. map (stop_of l) (filter (is_in is_running l) ns))
    (numbers_between-join a i (length (journeys l)) (omega arith) (omega arith))
    ∙ ap (map (stop_of l))
    (filter-skip (is_in is_running l) (i - a) (suc a)
    (numbers_from (suc i) (length (journeys l) - i))
    (λ k low high. between k (omega arith) (omega arith)))
    ∙ ap (λ n. map (stop_of l) (filter (is_in is_running l) (numbers_from (suc i) n)))
    (let e : length (journeys l) - i ≡ suc (length (journeys l) - suc i) = omega arith in e)
    ∙ go (is_in is_running l (suc i)) (filter (is_in is_running l) (numbers_from (suc (suc i)) (length (journeys l) - suc i)))
  where
    go : (v : Bool) (ns : List ℕ) → map (stop_of l) (cond v (suc i ∷ ns) ns) ≡ cond v (stop_of l (suc i) ∷ map (stop_of l) ns) (map (stop_of l) ns)
    go true ns = refl
    go false ns = refl

-- the same by whether it runs
pub turns-at : (l : List Event) (a j : ℕ) (v : Bool) → a < j → j ≤ length (journeys l)
    → ((k : ℕ) → a < k → k < j → is_in is_running l k ≡ false) → is_in is_running l j ≡ v
    → turns_above l a ≡ cond v (stop_of l j ∷ turns_above l j) (turns_above l j)
turns-at l a zero v above within between is = absurd (omega arith)
turns-at l a (suc i) v above within between is =
    turns-next l a i above within between
    ∙ ap (λ w. cond w (stop_of l (suc i) ∷ turns_above l (suc i)) (turns_above l (suc i))) is

-- where no journey above the number runs, no turn is left
pub turns-none : (l : List Event) (a : ℕ) → ((k : ℕ) → a < k → is_in is_running l k ≡ false)
    → turns_above l a ≡ []
turns-none l a none =
    ap (λ ns. map (stop_of l) (filter (is_in is_running l) ns))
    (sym (append-nil (numbers_from (suc a) (length (journeys l) - a))))
    ∙ ap (map (stop_of l))
    (filter-skip (is_in is_running l) (length (journeys l) - a) (suc a) []
    (λ k low high. none k (omega arith)))

-- Journeys that the pass has not reached.

-- the ledgers have the same journeys, and above this number the same histories
pub record IsSameAbove (a : ℕ) (l m : List Event) : Type 0 where
  pub begun : journeys m ≡ journeys l
  pub of : (j : ℕ) → a < j → history m j ≡ history l j

-- an item leaves the journeys above its own the same
pub same-did : (a j : ℕ) (l m : List Event) (item : Item) → IsSameAbove a l m → a < j
    → IsSameAbove j l (m ++ Did j item ∷ [])
same-did a j l m item same above = record {
  begun = journeys-did m j item ∙ same.begun;
  of = λ k higher.
      history-did_other m j item k (ne_eqb k j (λ e. omega arith)) ∙ same.of k (omega arith);
}

-- what is the same above a number is the same above a higher one
pub same-further : (a j : ℕ) (l m : List Event) → IsSameAbove a l m → a < j → IsSameAbove j l m
same-further a j l m same above =
    record { begun = same.begun; of = λ k higher. same.of k (omega arith) }

-- the phase of a journey above the number is the same
pub phase-same : (passes : Phase → Bool) (a k : ℕ) (l m : List Event) → IsSameAbove a l m → a < k
    → is_in passes m k ≡ is_in passes l k
phase-same passes a k l m same above =
    ap (λ h. passing passes h (journey_at m k)) (same.of k above)
    ∙ ap (λ js. passing passes (history l k) (numbered js k)) same.begun

-- its last save-point is the same
pub stop-same : (a k : ℕ) (l m : List Event) → IsSameAbove a l m → a < k
    → stop_of m k ≡ stop_of l k
stop-same a k l m same above =
    ap (λ p. Did k (Turn p Stop))
    (ap (λ h. unwrap_or (option_map (λ (b : Journey). last_save b.plan h) (journey_at m k)) 0)
    (same.of k above)
    ∙ ap (λ js. unwrap_or (option_map (λ (b : Journey). last_save b.plan (history l k))
    (numbered js k)) 0) same.begun)

-- Turning.

-- these are the turns up to this number
pub record Turning (l : List Event) (a : ℕ) (events : List Event) : Type 0 where
  pub all : stops l ≡ events ++ turns_above l a
  pub same : IsSameAbove a l (l ++ events)

-- the next running journey turns
pub turning-more : (l : List Event) (a j : ℕ) (events : List Event) → Turning l a events → a < j
    → j ≤ length (journeys l) → ((k : ℕ) → a < k → k < j → is_in is_running l k ≡ false)
    → is_in is_running l j ≡ true
    → Turning l j (events ++ stop_of (l ++ events) j ∷ [])
turning-more l a j events t above within between runs =
    let same = stop-same a j l (l ++ events) t.same above in
    record {
      all =
          t.all ∙ ap (λ r. events ++ r) (turns-at l a j true above within between runs)
          ∙ ap (λ e. events ++ (e ∷ turns_above l j)) (sym same)
          ∙ sym (append_assoc events (stop_of (l ++ events) j ∷ []) (turns_above l j));
      same =
          rw (sym (append_assoc l events (stop_of (l ++ events) j ∷ [])))
          (same-did a j l (l ++ events) (Turn (last_save_of (l ++ events) j) Stop) t.same above);
    }

-- a journey that does not run makes no turn
pub turning-further : (l : List Event) (a j : ℕ) (events : List Event) → Turning l a events
    → a < j → j ≤ length (journeys l)
    → ((k : ℕ) → a < k → k < j → is_in is_running l k ≡ false) → is_in is_running l j ≡ false
    → Turning l j events
turning-further l a j events t above within between rests = record {
  all = t.all ∙ ap (λ r. events ++ r) (turns-at l a j false above within between rests);
  same = same-further a j l (l ++ events) t.same above;
}
