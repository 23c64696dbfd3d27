-- A ledger has at most one recovered ledger. For the law of recovery.
use Rattle.std.proofs.Common.{◌≡◌, ℕ, ◌<◌, List, [], ◌∷◌, ◌++◌, refl, sym, arith, append_assoc, append-nil, subst, Bool, true, nat_le, nat_lt, inl, inr}
use Rattle.std.proofs.lemmas.Bool.{and_parts, and_from, leb-true, lt-ltb, cases_order}
use Rattle.std.specs.List.{list_all}
use Rattle.commands.specs.declared.items.Item.{Item}
use Rattle.commands.specs.declared.items.Phase.{Phase}
use Rattle.ledger.specs.History.{is_compensation, is_going_back, is_open}
use Rattle.ledger.specs.Laws.{AtMostOneIsRecovered}
use Rattle.ledger.specs.Ledger.{Event, Did, is_in, is_item_allowed, AreAllowedAfter, IsLegal}
use Rattle.ledger.specs.Recovery.{stops, is_by_number, journey_of, are_items, has_none, is_forward, IsRecovered}
use Rattle.allotment.proofs.TestLemmas.{list_all_weaker}
use Rattle.ledger.proofs.Coming.{compensation-comes}
use Rattle.ledger.proofs.Deciding.{each_open_has_one, no_finished_goes_on}
use Rattle.ledger.proofs.Growing.{IsLegal-append, is_item_allowed-may_do, absurd_item}
use Rattle.ledger.proofs.Phases.{passing, is_in-later, has_none-at}

-- A part of what recovery adds.

-- events of some kind of item, by rising number, after which no journey is in some kind of phase
pub record IsPart (test : Item → Bool) (passes : Phase → Bool) (l p : List Event) : Type 0 where
  pub allowed : AreAllowedAfter l p
  pub items : list_all (are_items test) p ≡ true
  pub sorted : is_by_number p ≡ true
  pub none : has_none passes (l ++ p) ≡ true

-- in a journey no two such items may come
abbrev IsAlone : (Item → Bool) → Type 0
IsAlone test = (l : List Event) (j : ℕ) (x y : Item) → IsLegal l → test x ≡ true → test y ≡ true
    → is_item_allowed l j x ≡ true → is_item_allowed l j y ≡ true → x ≡ y

-- such an item may come only in such a phase
abbrev NeedsPhase : (Item → Bool) → (Phase → Bool) → Type 0
NeedsPhase test passes = (l : List Event) (j : ℕ) (x : Item) → test x ≡ true
    → is_item_allowed l j x ≡ true → is_in passes l j ≡ true

-- what is not below k is above j, if j is below k
pub above-lower : (j k : ℕ) (p : List Event) → j < k → list_all (λ d. nat_le k (journey_of d)) p ≡ true
    → list_all (λ d. nat_lt j (journey_of d)) p ≡ true
above-lower j k p lower = grind (arith, list_all_weaker, leb-true, lt-ltb)

module _ (test : Item → Bool) (passes : Phase → Bool) where
  -- a part that begins with a later journey leaves this one as it is, so this one cannot be in such a phase
  not_passed : {X : Type 0} (l : List Event) (j k : ℕ) (y : Item) (q : List Event) → j < k
      → IsPart test passes l (Did k y ∷ q) → is_in passes l j ≡ true → X
  not_passed l j k y q lower part in_it =
      let sorted = and_parts (list_all (λ d. nat_le k (journey_of d)) q) (is_by_number q) part.sorted in
      let later = and_from _ _ (lt-ltb j k lower) (above-lower j k q lower sorted.0) in
      let same = is_in-later passes test j l (Did k y ∷ q) part.items later in
      let none = has_none-at passes (l ++ Did k y ∷ q) j part.none in
      cc

  -- where nothing follows, this journey is not in such a phase either
  not_left : {X : Type 0} (l : List Event) (j : ℕ) → IsPart test passes l [] → is_in passes l j ≡ true → X
  not_left l j part in_it = grind (arith, has_none-at, append-nil)

  -- a part without its first event is a part of what follows that event
  rest-part : (l : List Event) (e : Event) (p : List Event) → IsPart test passes l (e ∷ p)
      → IsPart test passes (l ++ e ∷ []) p
  rest-part l e p part = grind (arith, and_parts, append_assoc)

  module _ (alone : IsAlone test) (needs : NeedsPhase test passes) where
    -- the first event of a part is such an item, and its journey is in such a phase
    first-in : (l : List Event) (k : ℕ) (y : Item) (q : List Event) → IsPart test passes l (Did k y ∷ q)
        → (test y ≡ true) × (is_in passes l k ≡ true)
    first-in l k y q part =
        let is = (and_parts (test y) (list_all (are_items test) q) part.items).0 in (is, needs l k y is part.allowed.0)

    -- the first events of two parts are the same: neither can skip the journey of the other
    first-same : (l : List Event) (j k : ℕ) (x y : Item) (p q : List Event) → IsLegal l
        → IsPart test passes l (Did j x ∷ p) → IsPart test passes l (Did k y ∷ q) → Did k y ≡ Did j x
    first-same l j k x y p q legal first second =
        let this = first-in l j x p first in
        let that = first-in l k y q second in
        elim (cases_order j k) [
          | inl same ↦ grind arith
          | inr (inl lower) ↦ not_passed l j k y q lower second this.1
          | inr (inr higher) ↦ not_passed l k j x p higher first that.1
        ]

    -- two parts are the same, event by event
    part-unique : (p q l : List Event) → IsLegal l → IsPart test passes l p → IsPart test passes l q → p ≡ q
    part-unique [] [] l legal first second = refl
    part-unique [] (Did k y ∷ q) l legal first second = not_left l k first (first-in l k y q second).1
    part-unique (Did j x ∷ p) [] l legal first second = not_left l j second (first-in l j x p first).1
    part-unique (Did j x ∷ p) (Did k y ∷ q) l legal first second =
        let same = first-same l j k x y p q legal first second in
        let rest = part-unique p q (l ++ Did j x ∷ []) (IsLegal-append l (Did j x) legal first.allowed.0)
        (rest-part l (Did j x) p first)
        (rest-part l (Did j x) q (subst (λ e. IsPart test passes l (e ∷ q)) same second)) in
        cc
    part-unique (Did j x ∷ p) (_ ∷ q) l legal first second = cc second.items
    part-unique (_ ∷ p) q l legal first second = cc first.items
    part-unique [] (_ ∷ q) l legal first second = cc second.items

-- The two parts of recovery.

-- a step may come in an open journey alone
step-needs_open : NeedsPhase is_forward is_open
step-needs_open l j x forward may = search (arith, no_finished_goes_on, passing, absurd_item)

-- in an open journey only one step may come
step-alone : IsAlone is_forward
step-alone l j x y legal x_is y_is x_may y_may =
    grind (arith, each_open_has_one l legal j (step-needs_open l j x x_is x_may), step-needs_open l j x x_is)

-- a compensation is a step
pub compensation-forward : (x : Item) → is_compensation x ≡ true → is_forward x ≡ true
compensation-forward x e = grind arith

-- only one compensation may come
compensation-alone : IsAlone is_compensation
compensation-alone l j x y legal x_is y_is x_may y_may = grind (arith, step-alone, compensation-forward)

-- a compensation may come only in a journey that goes back
compensation-needs_back : NeedsPhase is_compensation is_going_back
compensation-needs_back l j x is may = grind (arith, absurd_item, passing, compensation-comes, is_item_allowed-may_do)

-- Recovery.

-- events that are allowed are allowed as a prefix and the suffix after it
pub AreAllowedAfter-split : (before xs ys : List Event) → AreAllowedAfter before (xs ++ ys)
    → AreAllowedAfter before xs × AreAllowedAfter (before ++ xs) ys
AreAllowedAfter-split before [] ys all = grind (arith, append-nil)
AreAllowedAfter-split before (e ∷ xs) ys all = grind (arith, append_assoc, AreAllowedAfter-split (before ++ e ∷ []) xs ys all.1)

-- the parts of a recovered ledger, after its turns
pub record Parts (l r : List Event) : Type 0 where
  pub backward : List Event
  pub forward : List Event
  pub whole : r ≡ ((l ++ stops l) ++ backward) ++ forward
  pub turned : IsLegal (l ++ stops l)
  pub back : IsPart is_compensation is_going_back (l ++ stops l) backward
  pub returned : IsLegal ((l ++ stops l) ++ backward)
  pub on : IsPart is_forward is_open ((l ++ stops l) ++ backward) forward

-- each recovered ledger has these parts
pub parts : (l r : List Event) → IsRecovered l r → Parts l r
parts l r e = grind (arith, AreAllowedAfter-split)

-- the turns are determined, the compensations are the only ones, and so are the steps
pub recovered-unique : (l : List Event) → AtMostOneIsRecovered l
recovered-unique l r s first second =
    let p = parts l r first in
    let q = parts l s second in
    let same_back = part-unique is_compensation is_going_back compensation-alone compensation-needs_back
    p.backward q.backward (l ++ stops l) p.turned p.back q.back in
    let same_on = part-unique is_forward is_open step-alone step-needs_open p.forward q.forward
    ((l ++ stops l) ++ p.backward) p.returned p.on
    (subst (λ b. IsPart is_forward is_open ((l ++ stops l) ++ b) q.forward) (sym same_back) q.on) in
    cc
