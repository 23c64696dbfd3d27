-- How many journeys are unfinished after one more event. For CountLemmas.
use Rattle.std.proofs.Common.{◌≡◌, ℕ, zero, suc, ◌+◌, ◌<◌, ◌≤◌, List, [], ◌∷◌, ◌++◌, length, cond, inl, inr, refl, ap, sym, ◌∙◌, arith, length-append, IsTrue, Bool, true, false, not, if◌then◌else◌, Option, Some, None, filter, filter_map, option_map}
use Rattle.std.proofs.lemmas.Bool.{cases_eq}
use Rattle.std.proofs.lemmas.Bool.Decides.{nat_tests}
use Rattle.std.proofs.lemmas.List.Elements.{filter-append}
use Rattle.std.proofs.lemmas.Option.{slice_get_past}
use Rattle.std.specs.Prelude.{unwrap_or}
use Rattle.std.specs.List.{cons_option}
use Rattle.allotment.specs.Cells.{numbers_from}
use Rattle.allotment.specs.declared.cells.Row.{Row}
use Rattle.commands.specs.declared.items.Item.{Item}
use Rattle.commands.specs.declared.items.Phase.{Phase}
use Rattle.plan.specs.PlanModel.{Planned, is_plan}
use Rattle.ledger.specs.History.{phase, is_finished, is_open}
use Rattle.ledger.specs.Ledger.{Event, Loaded, Began, Did, Journey, journeys, journey_at, history, is_in, is_allowed, numbers, IsLegal}
use Rattle.ledger.proofs.Phases.{passing}
use Rattle.ledger.proofs.Events.{journey_at-loaded, journey_at-did, journey_at-began_other, journey_at-began_new, history-loaded, history-began, history-began_new, history-did_same, history-did_other, numbers-loaded, numbers-did, numbers-began}
use Rattle.saga_core.specs.Views.{brief_of, unfinished_of}
use Rattle.saga_core.specs.declared.records.Brief.{Brief}
use Rattle.saga_core.proofs.FirstLemmas.{tells, untold}
use Rattle.sql_model.proofs.Beginning.{has_step, start_phase}
use Rattle.tables.proofs.FinishedLemmas.{closed_refuses}

-- how many journeys of the ledger are unfinished
abbrev pub unfinished_in : List Event → ℕ
unfinished_in l = length (unfinished_of l)

-- Journeys by their numbers.

abbrev goes_on : Brief → Bool
goes_on b = not (is_finished b.cursor.phase)

-- as many briefs are unfinished as numbers have an open journey
open_numbers : (l : List Event) (js : List ℕ)
    → length (filter goes_on (filter_map (brief_of l) js)) ≡ length (filter (is_in is_open l) js)
open_numbers l [] = refl
open_numbers l (j ∷ js) = go (brief_of l j) refl (open_numbers l js)
  where
    go : (o : Option Brief) → brief_of l j ≡ o
        → length (filter goes_on (filter_map (brief_of l) js)) ≡ length (filter (is_in is_open l) js)
        → length (filter goes_on (cons_option o (filter_map (brief_of l) js)))
        ≡ length (cond (is_in is_open l j) (j ∷ filter (is_in is_open l) js) (filter (is_in is_open l) js))
    go None at rest = let shut = untold l j at in grind (arith, rest, shut)
    go (Some b) at rest =
        let same : is_in is_open l j ≡ goes_on b = ap (λ (o : Option Phase). unwrap_or (option_map is_open o) false) (tells l j b at).phase_is in
        grind (arith, rest, same)

by_numbers : (l : List Event) → unfinished_in l ≡ length (filter (is_in is_open l) (numbers l))
by_numbers l = open_numbers l (numbers l)

-- two tests that agree on these numbers count the same
count-same : (f g : ℕ → Bool) (first n : ℕ) → ((j : ℕ) → first ≤ j → j < first + n → f j ≡ g j)
    → length (filter f (numbers_from first n)) ≡ length (filter g (numbers_from first n))
count-same f g first zero agree = refl
count-same f g first (suc n) agree =
    let here = agree first (omega arith) (omega arith) in
    let rest = count-same f g (suc first) n (λ j low high. agree j (omega arith) (omega arith)) in
    grind (arith, here, rest)

-- how much one journey that finishes, or does not, takes from the number
abbrev pub taken_if : Bool → ℕ
taken_if v = if v then 1 else 0

-- two tests that agree but on one of these numbers count the same, but for that one
count-but_one : (f g : ℕ → Bool) (first n k : ℕ) (v : Bool) → first ≤ k → k < first + n
    → ((j : ℕ) → ¬ (j ≡ k) → f j ≡ g j) → f k ≡ true → g k ≡ not v
    → length (filter f (numbers_from first n)) ≡ length (filter g (numbers_from first n)) + taken_if v
count-but_one f g first zero k v low high agree here there = absurd (omega (arith, low, high))
count-but_one f g first (suc n) k v low high agree here there = elim (cases_eq first k) [
  | inl same ↦ (
      let rest = count-same f g (suc first) n (λ j above below. agree j (λ is. omega (arith, is, same, above))) in
      let one : f first ≡ true = ap f same ∙ here in
      let other : g first ≡ not v = ap g same ∙ there in
      grind (arith, rest, one, other))
  | inr other ↦ (
      let rest = count-but_one f g (suc first) n k v (omega (arith, other, low)) (omega (arith, high)) agree here there in
      let one = agree first other in
      grind (arith, rest, one))
]

-- the number of a journey is one of the ledger's numbers
in_range : (l : List Event) (k : ℕ) (a : Journey) → journey_at l k ≡ Some a → (1 ≤ k) × (k ≤ length (journeys l))
in_range l zero a at = cc
in_range l (suc i) a at = grind (arith, nat_tests, slice_get_past)

-- One more event.

pub unfinished-loaded : (l : List Event) (name : List ℕ) (rows : List Row)
    → unfinished_in (l ++ Loaded name rows ∷ []) ≡ unfinished_in l
unfinished-loaded l name rows =
    by_numbers (l ++ Loaded name rows ∷ [])
    ∙ ap (λ js. length (filter (is_in is_open (l ++ Loaded name rows ∷ [])) js)) (numbers-loaded l name rows)
    ∙ count-same (is_in is_open (l ++ Loaded name rows ∷ [])) (is_in is_open l) 1 (length (journeys l))
    (λ j low high.
    ap (λ h. passing is_open h (journey_at (l ++ Loaded name rows ∷ []) j)) (history-loaded l name rows j)
    ∙ ap (passing is_open (history l j)) (journey_at-loaded l name rows j))
    ∙ sym (by_numbers l)

module _ (l : List Event) (agent : List ℕ) (plan : Planned) where
  abbrev with_begin : List Event
  with_begin = l ++ Began agent plan ∷ []

  -- the number of the new journey
  abbrev begun : ℕ
  begun = length (journeys l) + 1

  old_stay : length (filter (is_in is_open with_begin) (numbers l)) ≡ length (filter (is_in is_open l) (numbers l))
  old_stay =
      count-same (is_in is_open with_begin) (is_in is_open l) 1 (length (journeys l))
      (λ j low high.
      ap (λ h. passing is_open h (journey_at with_begin j)) (history-began l agent plan j)
      ∙ ap (passing is_open (history l j)) (journey_at-began_other l agent plan j (λ e. omega (arith, e, high))))

  new_runs : IsLegal l → IsTrue (is_plan plan) → is_in is_open with_begin begun ≡ true
  new_runs legal good =
      ap (λ h. passing is_open h (journey_at with_begin begun)) (history-began_new l agent plan legal)
      ∙ ap (passing is_open []) (journey_at-began_new l agent plan)
      ∙ ap is_open (start_phase _ (has_step plan good))

  -- a journey that is begun runs, and no other one changes
  pub unfinished-began : IsLegal l → IsTrue (is_plan plan) → unfinished_in with_begin ≡ unfinished_in l + 1
  unfinished-began legal good =
      by_numbers with_begin
      ∙ ap (λ js. length (filter (is_in is_open with_begin) js)) (numbers-began l agent plan)
      ∙ ap length (filter-append (is_in is_open with_begin) (numbers l) (begun ∷ []))
      ∙ length-append (filter (is_in is_open with_begin) (numbers l)) (filter (is_in is_open with_begin) (begun ∷ []))
      ∙ ap (λ n. n + length (filter (is_in is_open with_begin) (begun ∷ []))) (old_stay ∙ sym (by_numbers l))
      ∙ ap (λ v. unfinished_in l + length (cond v (begun ∷ []) [])) (new_runs legal good)

module _ (l : List Event) (k : ℕ) (item : Item) where
  abbrev with_item : List Event
  with_item = l ++ Did k item ∷ []

  was_open : IsTrue (is_allowed l (Did k item)) → (v : Bool) → is_in is_open l k ≡ v → is_in is_open l k ≡ true
  was_open may true e = e
  was_open may false e = let refused = closed_refuses l k item e in let bad : true ≡ false = sym may ∙ refused in cc

  others_stay : (j : ℕ) → ¬ (j ≡ k) → is_in is_open l j ≡ is_in is_open with_item j
  others_stay j other =
      sym (ap (λ h. passing is_open h (journey_at with_item j)) (history-did_other l k item j other)
      ∙ ap (passing is_open (history l j)) (journey_at-did l k item j))

  then_phase : (a : Journey) → journey_at l k ≡ Some a
      → is_in is_open with_item k ≡ is_open (phase a.plan (history l k ++ item ∷ []))
  then_phase a at =
      ap (λ h. passing is_open h (journey_at with_item k)) (history-did_same l k item)
      ∙ ap (passing is_open (history l k ++ item ∷ [])) (journey_at-did l k item k ∙ at)

  -- an item may finish its journey, which was open, and no other one changes
  pub unfinished-did : (a : Journey) → journey_at l k ≡ Some a → IsTrue (is_allowed l (Did k item))
      → unfinished_in l ≡ unfinished_in with_item + taken_if (is_finished (phase a.plan (history l k ++ item ∷ [])))
  unfinished-did a at may =
      let range = in_range l k a at in
      by_numbers l
      ∙ count-but_one (is_in is_open l) (is_in is_open with_item) 1 (length (journeys l)) k
      (is_finished (phase a.plan (history l k ++ item ∷ []))) range.0 (let low = range.1 in omega (arith, low))
      others_stay (was_open may (is_in is_open l k) refl) (then_phase a at)
      ∙ ap (λ n. n + taken_if (is_finished (phase a.plan (history l k ++ item ∷ []))))
      (sym (by_numbers with_item ∙ ap (λ js. length (filter (is_in is_open with_item) js)) (numbers-did l k item)))
