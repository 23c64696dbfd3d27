-- What is promised of the ledger after a world, by the laws of the ledger. For `promises`.
use Rattle.std.proofs.Common.{◌≡◌, ◌⊎◌, ℕ, zero, suc, ◌+◌, ◌-◌, ◌<◌, ◌≤◌, ◌==◌, Bool, true, false, not, List, length, refl, sym, ap, subst, ◌∙◌, arith, inl, inr, eqb-true, ltb-true, ltb-false, Option, Some, None, option_map, nat_lt, slice_get, ◌||◌}
use Rattle.std.specs.Prelude.{unwrap_or}
use Rattle.std.specs.List.{list_any}
use Rattle.std.proofs.lemmas.Bool.{eqb-false}
use Rattle.std.proofs.lemmas.Option.{slice_get_past}
use Rattle.allotment.specs.Cells.{numbers_from}
use Rattle.plan.specs.PlanModel.{Planned}
use Rattle.commands.specs.declared.items.Item.{Item}
use Rattle.commands.specs.declared.items.Phase.{Phase}
use Rattle.commands.specs.declared.items.Phase.TheVariants.{Ended, Undone}
use Rattle.ledger.specs.Answer.{start}
use Rattle.ledger.specs.History.{is_open, phase}
use Rattle.ledger.specs.Laws.{IsSound, NoCellIsOverfull, EveryJourneyIsUpAndDown, EachPlainJourneyIsAllOrNothing, IsUpAndDownSoFar, HasNoSavePoint, IsAllOrNothing}
use Rattle.ledger.specs.Ledger.{Event, Journey, IsLegal, allotment, held, history, is_in, journey_at, journeys}
use Rattle.ledger.specs.Recovery.{has_none, IsRecovered}
use Rattle.ledger.specs.World.{Moment, after, IsWorld}
use Rattle.saga_core.specs.Views.{Places}
use Rattle.program_jobs.specs.Promises.{FreeAndHeldAreAllotted, IsWhole, EachJourneyIsWhole, IsKeptPromise}

-- Places.

abbrev places_with : ℕ → Option ℕ → Option Places
places_with held o = option_map (λ (n : ℕ). record { allot = n; free = n - held }) o

adds_up : (o : Option ℕ) (held : ℕ) (p : Places) → held ≤ unwrap_or o 0 → places_with held o ≡ Some p
    → p.free + held ≡ p.allot
adds_up None held p within is = cc
adds_up (Some n) held p within is =
    let same : record { allot = n; free = n - held } ≡ p = cc in
    subst (λ (q : Places). q.free + held ≡ q.allot) same (omega (arith, within))

free_and_held : (l : List Event) → NoCellIsOverfull l → FreeAndHeldAreAllotted l
free_and_held l within x p is = adds_up (allotment l x) (held l x) p (within x) is

-- Journeys of a recovered ledger.

or_none : (a b : Bool) → (a || b) ≡ false → (a ≡ false) × (b ≡ false)
or_none a b e = grind arith

-- a test that none of consecutive numbers passes fails at each of them
none_numbered : (test : ℕ → Bool) (first n j : ℕ) → list_any test (numbers_from first n) ≡ false → first ≤ j
    → j < first + n → test j ≡ false
none_numbered test first zero j none low high = absurd (omega arith)
none_numbered test first (suc n) j none low high =
    let both = or_none (test first) (list_any test (numbers_from (suc first) n)) none in
    go both.0 (λ above. none_numbered test (suc first) n j both.1 above (omega arith)) (first == j) refl
  where
    go : test first ≡ false → (suc first ≤ j → test j ≡ false) → (v : Bool) → (first == j) ≡ v → test j ≡ false
    go fails rest true e = ap test (sym (eqb-true _ _ e)) ∙ fails
    go fails rest false e = let ne = eqb-false _ _ e in rest (omega arith)

not_true : (b : Bool) → not b ≡ true → b ≡ false
not_true b e = grind arith

-- where no journey is open, this one is not
not_open : (r : List Event) (j : ℕ) (a : Journey) → journey_at r j ≡ Some a → has_none is_open r ≡ true
    → is_open (phase a.plan (history r j)) ≡ false
not_open r zero a is none = cc
not_open r (suc i) a is none = go (nat_lt i (length (journeys r))) refl
  where
    go : (v : Bool) → nat_lt i (length (journeys r)) ≡ v → is_open (phase a.plan (history r (suc i))) ≡ false
    go true e =
        let within = ltb-true _ _ e in
        sym (ap (λ o. unwrap_or (option_map is_open (option_map (λ (b : Journey). phase b.plan (history r (suc i))) o)) false) is)
        ∙ none_numbered (is_in is_open r) 1 (length (journeys r)) (suc i) (not_true _ none) (omega arith) (omega arith)
    go false e = let past : slice_get (journeys r) i ≡ None = slice_get_past (journeys r) i (ltb-false _ _ e) in cc

-- it has ended or is undone
is_done : (p : Phase) → is_open p ≡ false → (p ≡ Ended) ⊎ (p ≡ Undone)
is_done p e = grind arith

whole_if_done : (plan : Planned) (h : List Item) → IsUpAndDownSoFar plan h
    → (HasNoSavePoint plan h → IsAllOrNothing plan h) → (phase plan h ≡ Ended) ⊎ (phase plan h ≡ Undone)
    → IsWhole plan h
whole_if_done plan h so_far plain (inl e) =
    record { word = inl (so_far.ended e); plain = λ none. inl ((plain none).ended e) }
whole_if_done plan h so_far plain (inr e) =
    record { word = inr (so_far.undone e); plain = λ none. inr ((plain none).undone e) }

module _ (words : (l : List Event) → IsLegal l → EveryJourneyIsUpAndDown l)
    (plain : (l : List Event) → IsLegal l → EachPlainJourneyIsAllOrNothing l) where
  each_whole : (l r : List Event) → IsRecovered l r → EachJourneyIsWhole r
  each_whole l r is j a here =
      whole_if_done a.plan (history r j) (words r is.legal j a here) (plain r is.legal j a here)
      (is_done (phase a.plan (history r j)) (not_open r j a here is.all_finished))

  -- after each world
  pub kept_promise : ((l : List Event) → IsLegal l → NoCellIsOverfull l)
      → ((w : List Moment) → IsWorld w → IsSound w) → (w : List Moment) → IsWorld w → IsKeptPromise w
  kept_promise places sound w world =
      let s = sound w world in
      let l = (after start w).ledger in
      record {
        sound = s;
        places = free_and_held l (places l s.legal);
        words = words l s.legal;
        recovered = λ r is. each_whole l r is;
      }
