-- How far a part of recovery has come, by items of some kind, and that it comes to its end: one journey after another goes
-- on until none of them is in some kind of phase. For the law of recovery, and for its passes.
use Rattle.std.proofs.Common.{◌≡◌, ℕ, zero, suc, ◌+◌, ◌<◌, ◌≤◌, List, [], ◌∷◌, ◌++◌, length, refl, ap, sym, ◌∙◌, arith, append_assoc, append-nil, subst, eq-eqb, Bool, true, false, not, ◌==◌, nat_le, nat_lt, inl, inr}
use Rattle.std.proofs.lemmas.Bool.{and_from, not_from_false, cases_lt, cases_Bool}
use Rattle.std.proofs.lemmas.Bool.Decides.{nat_tests}
use Rattle.std.proofs.lemmas.List.Folds.{list_all-append}
use Rattle.std.specs.List.{list_all, list_any}
use Rattle.allotment.specs.Cells.{numbers_from}
use Rattle.commands.specs.declared.items.Item.{Item}
use Rattle.commands.specs.declared.items.Phase.{Phase}
use Rattle.ledger.specs.Ledger.{Event, Did, journeys, is_in, AreAllowedAfter, IsLegal}
use Rattle.ledger.specs.Recovery.{journey_of, is_by_number, are_items, HasReached}
use Rattle.allotment.proofs.TestLemmas.{list_all_weaker}
use Rattle.ledger.proofs.Growing.{AreAllowedAfter-join}
use Rattle.ledger.proofs.Phases.{is_in-later}
use Rattle.ledger.proofs.Recoverable.{IsStage, journeys-items, none-pass}
use Rattle.ledger.proofs.Recovering.{IsPart}
use Rattle.ledger.proofs.Working.{work, work-fewer}

-- the part has come to a later journey where it has nothing to do with those between
pub reached-further : (test : Item → Bool) (passes : Phase → Bool) (before part : List Event)
    (a b : ℕ) → HasReached test passes before part a → a ≤ b
    → ((k : ℕ) → a ≤ k → k < b → is_in passes (before ++ part) k ≡ false)
    → HasReached test passes before part b
reached-further test passes before part a b r low between = record {
  allowed = r.allowed;
  items = r.items;
  by_number = r.by_number;
  up_to = list_all_weaker (λ e. nat_le (journey_of e) a) (λ e. nat_le (journey_of e) b) (λ e up. grind (arith, nat_tests)) part r.up_to;
  done = λ k below. elim (cases_lt k a) [ inl lower ↦ r.done k lower | inr high ↦ between k high below ];
}

-- the part is past the journey when it is done with it
pub reached-past : (test : Item → Bool) (passes : Phase → Bool) (before part : List Event) (j : ℕ)
    → HasReached test passes before part j → is_in passes (before ++ part) j ≡ false
    → HasReached test passes before part (suc j)
reached-past test passes before part j r out =
    reached-further test passes before part j (suc j) r (omega arith)
    (λ k low below. let same : k ≡ j = omega arith in ap (is_in passes (before ++ part)) same ∙ out)

-- before its first event a part has come to the first journey
pub reached-none : (test : Item → Bool) (passes : Phase → Bool) (before : List Event)
    → HasReached test passes before [] 0
reached-none test passes before = grind arith

-- Items of one journey.

-- events that are all of this journey
abbrev pub AreOf : ℕ → List Event → Type 0
AreOf j p = list_all (λ e. journey_of e == j) p ≡ true

-- they are of a journey that passes a test if this one does
of-passing : (test : ℕ → Bool) (j : ℕ) (p : List Event) → AreOf j p → test j ≡ true
    → list_all (λ d. test (journey_of d)) p ≡ true
of-passing test j p all here = grind (arith, list_all_weaker, nat_tests)

-- they are ordered by number
of-by_number : (j : ℕ) (p : List Event) → AreOf j p → is_by_number p ≡ true
of-by_number j [] all = refl
of-by_number j (e ∷ p) all =
    let rest = of-by_number j p in let low = of-passing (nat_le (journey_of e)) j p in grind (arith, nat_tests)

-- events up to a journey, followed by events of that journey, are ordered by number
by_number-join : (j : ℕ) (p q : List Event) → is_by_number p ≡ true
    → list_all (λ e. nat_le (journey_of e) j) p ≡ true → AreOf j q → is_by_number (p ++ q) ≡ true
by_number-join j [] q sorted low all = of-by_number j q all
by_number-join j (e ∷ p) q sorted low all =
    let rest = by_number-join j p q in let high = of-passing (nat_le (journey_of e)) j q all in
    grind (arith, list_all-append)

-- these items of the journey that the part has reached are among the items of the part
pub reached-carried : (test : Item → Bool) (passes : Phase → Bool) (before part more : List Event)
    (j : ℕ) → HasReached test passes before part j → AreAllowedAfter (before ++ part) more
    → list_all (are_items test) more ≡ true → list_all (λ e. journey_of e == j) more ≡ true
    → HasReached test passes before (part ++ more) j
reached-carried test passes before part more j r allowed items of_journey = record {
  allowed = AreAllowedAfter-join before part more r.allowed allowed;
  items = list_all-append (are_items test) part more ∙ and_from _ _ r.items items;
  by_number = by_number-join j part more r.by_number r.up_to of_journey;
  up_to =
      list_all-append (λ e. nat_le (journey_of e) j) part more
      ∙ and_from _ _ r.up_to (of-passing (λ k. nat_le k j) j more of_journey (grind (arith, nat_tests)));
  done = λ k below.
      ap (λ l. is_in passes l k) (sym (append_assoc before part more))
      ∙ is_in-later passes test k (before ++ part) more items (of-passing (nat_lt k) j more of_journey (grind (arith, nat_tests)))
      ∙ r.done k below;
}

-- The end of a part.

-- the events that are left of a part of recovery, with which it is whole
pub record Completes (test : Item → Bool) (passes : Phase → Bool) (before part : List Event) : Type 0 where
  pub rest : List Event
  pub whole : IsPart test passes before (part ++ rest)

module _ (test : Item → Bool) (passes : Phase → Bool) (stage : IsStage test passes) (before : List Event)
    (legal : IsLegal before) where
  -- a part that is past all journeys is whole
  complete-none : (part : List Event) (number : ℕ) → length (journeys before) < number
      → HasReached test passes before part number → Completes test passes before part
  complete-none part number past r = record {
    rest = [];
    whole = subst (IsPart test passes before) (sym (append-nil part)) (record {
      allowed = r.allowed;
      items = r.items;
      sorted = r.by_number;
      none =
          ap (λ js. not (list_any (is_in passes (before ++ part)) (numbers_from 1 (length js)))) (journeys-items test part before r.items)
          ∙ not_from_false _ (none-pass (is_in passes (before ++ part)) (length (journeys before)) 1 (λ j low high. r.done j (omega arith)));
    });
  }

  -- a part that has come to a journey is completed from there on: that journey makes a step, after which less work is left, or
  -- the part is past it
  complete-from : (most : ℕ) (part : List Event) (number : ℕ) → HasReached test passes before part number
      → suc (length (journeys before)) + work (before ++ part) ≤ number + most → Completes test passes before part
  complete-from zero part number r low = complete-none part number (omega arith) r
  complete-from (suc most) part number r low = elim (cases_Bool (is_in passes (before ++ part) number)) [
    | inr out ↦ complete-from most part (suc number) (reached-past test passes before part number r out) (omega arith)
    | inl in_it ↦
        (let so_far = AreAllowedAfter-join [] before part legal r.allowed in
        let step = stage.has (before ++ part) number so_far in_it in
        let fewer = work-fewer (before ++ part) number step.0 so_far (stage.steps step.0 step.1) step.2 in
        let same = ap work (append_assoc before part (Did number step.0 ∷ [])) in
        let c = complete-from most (part ++ Did number step.0 ∷ []) number
        (reached-carried test passes before part (Did number step.0 ∷ []) number r (step.2, tt)
        (and_from _ _ step.1 refl) (and_from _ _ (eq-eqb number number refl) refl)) (omega arith) in
        record {
          rest = Did number step.0 ∷ c.rest;
          whole = subst (IsPart test passes before) (append_assoc part (Did number step.0 ∷ []) c.rest) c.whole;
        })
  ]

  -- each part that has come to a journey is completed
  pub completes : (part : List Event) (number : ℕ) → HasReached test passes before part number
      → Completes test passes before part
  completes part number r = complete-from (suc (length (journeys before)) + work (before ++ part)) part number r (omega arith)
