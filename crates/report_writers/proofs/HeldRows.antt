-- The rows of options that hold places of a cell, of a legal ledger, are its holders. For `holder_rows`.
use Rattle.std.proofs.Common.{◌≡◌, ◌≢◌, ℕ, zero, suc, ◌+◌, ◌<◌, ◌≤◌, ◌==◌, ◌&&◌, ◌||◌, List, [], ◌∷◌, ◌++◌, map, filter, cond, length, if◌then◌else◌, Bool, true, false, Option, Some, None, refl, sym, ap, ◌∙◌, arith, eq-eqb, eqb-true, bytes_eq, filter_map, flat_map, slice_get, option_map}
use Rattle.std.specs.Prelude.{unwrap_or}
use Rattle.std.specs.List.{cons_option, list_any}
use Rattle.std.proofs.lemmas.Bool.{and_from, and_parts, cases_Bool, eqb-false, ne_eqb, or_cases}
use Rattle.std.proofs.lemmas.Bool.Decides.{nat_tests}
use Rattle.std.proofs.lemmas.List.{map-append}
use Rattle.std.proofs.lemmas.List.Elements.{filter-append}
use Rattle.std.proofs.lemmas.Slice.Eq.{bytes_eq-Decides}
use Rattle.allotment.specs.Want.{Wanted}
use Rattle.allotment.specs.Cells.{cell_at, is_cell, kind_number, numbers_from, wants_cell}
use Rattle.allotment.specs.declared.cells.Cell.{Cell}
use Rattle.plan.specs.PlanModel.{Planned, StepPlan, numbered, want_at}
use Rattle.commands.specs.declared.items.Item.{Item}
use Rattle.ledger.specs.Ledger.{Event, IsLegal, Journey, history, journey_at, journeys}
use Rattle.ledger.proofs.Histories.{Follows, follows}
use Rattle.desk_sql.specs.Rows.{StepRow}
use Rattle.sql_lists.specs.HolderLists.{holder_of, is_night_of, is_row_held}
use Rattle.sql_lists.specs.declared.holders.HolderFound.{HolderFound}
use Rattle.sql_model.specs.ExpectedRows.{counted_from, is_standing, option_row, option_rows, step_rows, steps_called}
use Rattle.reports.specs.Holders.{holder_if, holders_by, holders_in_journey, holders_of}
use Rattle.reports.specs.declared.holders.Holder.{Holder}
use Rattle.report_writers.specs.HoldersLeft.{found_of}

-- The test of a row is that of its want.

-- two tests that imply each other are equal
same_test : (a b : Bool) → (a ≡ true → b ≡ true) → (b ≡ true → a ≡ true) → a ≡ b
same_test a b forth back = grind (arith, forth)

eqb_turned : (a b : ℕ) → (a == b) ≡ (b == a)
eqb_turned a b = grind (arith, nat_tests)

bytes_turned : (a b : List ℕ) → bytes_eq a b ≡ bytes_eq b a
bytes_turned a b = grind (arith, same_test, bytes_eq-Decides)

-- a night is one of the numbers from the first on
night_among : (first nights night : ℕ) → list_any (λ n. night == n) (numbers_from first nights) ≡ is_night_of first nights night
night_among first zero night = grind (arith, same_test, and_parts, nat_tests)
night_among first (suc more) night =
    grind (
      arith,
      same_test,
      or_cases,
      eqb-true,
      and_from,
      nat_tests,
      and_parts,
      cases_Bool,
      eqb-false,
      night_among (suc first) more night,
    )

-- a test that does not depend on the element stands before all of them
any_before : (p : Bool) (x : Cell) (w : Wanted) (ns : List ℕ)
    → ((n : ℕ) → is_cell x (cell_at w n) ≡ (p && (x.night == n)))
    → list_any (is_cell x) (map (cell_at w) ns) ≡ (p && list_any (λ n. x.night == n) ns)
any_before p x w [] each = grind arith
any_before p x w (n ∷ ns) each = grind (arith, any_before p x w ns each, each)

row_wants : (x : Cell) (w : Wanted)
    → ((kind_number w.kind == kind_number x.kind)
    && (bytes_eq w.supplier x.supplier && (bytes_eq w.product x.product && is_night_of w.first w.nights x.night)))
    ≡ wants_cell w x
row_wants x w =
    let p = kind_number x.kind == kind_number w.kind && (bytes_eq x.supplier w.supplier && bytes_eq x.product w.product) in
    let among = any_before p x w (numbers_from w.first w.nights) (λ n. grind arith) in
    grind (
      arith,
      eqb_turned (kind_number w.kind) (kind_number x.kind),
      bytes_turned w.supplier x.supplier,
      bytes_turned w.product x.product,
      night_among w.first w.nights x.night,
      among,
    )

row_held : (x : Cell) (id step : ℕ) (m : Bool) (c : ℕ) (taken : Bool) (w : Wanted)
    → is_row_held x (option_row id step m c taken w) ≡ (taken && wants_cell w x)
row_held x id step m c taken w = grind (arith, row_wants)

-- The options of a step.

module _ (x : Cell) (id k : ℕ) (m : Bool) (taken : ℕ → Bool) where
  -- the rows of options from this number on
  abbrev row_at : ℕ × Wanted → StepRow
  row_at w = option_row id k m w.0 (taken w.0) w.1

  abbrev held : ℕ → List Wanted → List HolderFound
  held n ws = map holder_of (filter (is_row_held x) (map row_at (counted_from n ws)))

  -- a row that is not held is left out
  left_out : (n : ℕ) (w : Wanted) (ws : List Wanted) → taken n ≡ false → held n (w ∷ ws) ≡ held (suc n) ws
  left_out n w ws off = grind (arith, row_held)

  none_held : (n : ℕ) (ws : List Wanted) → ((c : ℕ) → n ≤ c → taken c ≡ false) → held n ws ≡ []
  none_held n [] off = refl
  none_held n (w ∷ ws) off =
      left_out n w ws (off n (omega arith)) ∙ none_held (suc n) ws (λ c above. off c (omega arith))

  -- just the option that was taken is held, if its want has the cell
  one_held : (n i c : ℕ) (ws : List Wanted) → n + i ≡ c → taken c ≡ true → ((d : ℕ) → d ≢ c → taken d ≡ false)
      → held n ws ≡ map found_of (cons_option (holder_if x id (k, c) (slice_get ws i)) [])
  one_held n i c [] is on off = refl
  one_held n (suc i) c (w ∷ ws) is on off = grind (arith, left_out, one_held (suc n) i c ws (omega arith) on off, off)
  one_held n zero c (w ∷ ws) is on off =
      let here : n ≡ c = omega arith in
      let test : is_row_held x (row_at (n, w)) ≡ wants_cell w x
      = row_held x id k m n (taken n) w ∙ ap (λ b. b && wants_cell w x) (ap taken here ∙ on) in
      ap (λ b. map holder_of (cond b (row_at (n, w) ∷ filter (is_row_held x) (map row_at (counted_from (suc n) ws)))
      (filter (is_row_held x) (map row_at (counted_from (suc n) ws))))) test
      ∙ go (wants_cell w x) here (none_held (suc n) ws (λ d above. off d (λ e. omega arith)))
    where
      go : (v : Bool) → n ≡ c → held (suc n) ws ≡ []
          → map holder_of (cond v (row_at (n, w) ∷ filter (is_row_held x) (map row_at (counted_from (suc n) ws)))
          (filter (is_row_held x) (map row_at (counted_from (suc n) ws))))
          ≡ map found_of (cons_option (if v then Some (record { journey = id; step = k; option = c; places = w.count }) else None) [])
      go v here none = grind arith

-- The steps of a plan.

-- the transactions stand in these steps with these options
abbrev stands_in : List (ℕ × ℕ) → ℕ → ℕ → Bool
stands_in ts i c = list_any (λ (t : ℕ × ℕ). (t.0 == i) && (t.1 == c)) ts

-- none of those after a step is of that step
none_stands : (n k c : ℕ) (ts : List (ℕ × ℕ)) → map (λ (t : ℕ × ℕ). t.0) ts ≡ numbers_from n (length ts) → k < n → stands_in ts k c ≡ false
none_stands n k c [] are above = refl
none_stands n k c (t ∷ ts) are above = grind (arith, ne_eqb, none_stands (suc n) k c ts)

cons_apart : (o : Option Holder) (rest : List Holder)
    → map found_of (cons_option o rest) ≡ map found_of (cons_option o []) ++ map found_of rest
cons_apart o rest = grind arith

module _ (x : Cell) (id : ℕ) (plan : Planned) (taken : ℕ → ℕ → Bool) where
  -- the rows of the steps from this number on, and those that are held
  abbrev rows_from : ℕ → List StepPlan → List StepRow
  rows_from k steps = flat_map (λ (s : ℕ × StepPlan). option_rows taken id s.0 s.1) (counted_from k steps)

  abbrev held_from : ℕ → List StepPlan → List HolderFound
  held_from k steps = map holder_of (filter (is_row_held x) (rows_from k steps))

  held_cut : (k : ℕ) (s : StepPlan) (steps : List StepPlan)
      → held_from k (s ∷ steps) ≡ held x id k s.is_marked (taken k) 1 s.options ++ held_from (suc k) steps
  held_cut k s steps = grind (arith, filter-append, map-append)

  abbrev holders_among : List (ℕ × ℕ) → List Holder
  holders_among ts = filter_map (λ (t : ℕ × ℕ). holder_if x id t (want_at plan t.0 t.1)) ts

  -- the option of the first step that was taken
  first_held : (k : ℕ) (s : StepPlan) (c : ℕ) → numbered plan.steps k ≡ Some s → taken k c ≡ true
      → ((d : ℕ) → d ≢ c → taken k d ≡ false)
      → held x id k s.is_marked (taken k) 1 s.options ≡ map found_of (cons_option (holder_if x id (k, c) (want_at plan k c)) [])
  first_held k s c at on off = grind (arith, none_held, one_held)

  told_from : (k : ℕ) (steps : List StepPlan) (ts : List (ℕ × ℕ))
      → map (λ (t : ℕ × ℕ). t.0) ts ≡ numbers_from k (length ts)
      → ((i c : ℕ) → k ≤ i → taken i c ≡ stands_in ts i c)
      → length ts ≤ length steps
      → ((i : ℕ) → numbered plan.steps (k + i) ≡ slice_get steps i)
      → map found_of (holders_among ts) ≡ held_from k steps
  told_from k [] [] are stand few at = refl
  told_from k [] (t ∷ ts) are stand few at = absurd (omega (arith, few))
  told_from k (s ∷ steps) [] are stand few at =
      let none = none_held x id k s.is_marked (taken k) 1 s.options (λ c above. stand k c (omega arith)) in
      grind (
        arith,
        none,
        held_cut,
        told_from (suc k) steps [] refl (λ i c above. stand i c (omega arith)) (omega arith)
            (λ i. ap (numbered plan.steps) (let e : suc k + i ≡ k + suc i = omega arith in e) ∙ at (suc i)),
      )
  told_from k (s ∷ steps) (t ∷ ts) are stand few at =
      let both : t.0 ∷ map (λ (u : ℕ × ℕ). u.0) ts ≡ k ∷ numbers_from (suc k) (length ts) = are in
      let first : t.0 ≡ k = cc in
      let rest : map (λ (u : ℕ × ℕ). u.0) ts ≡ numbers_from (suc k) (length ts) = cc in
      let here : numbered plan.steps k ≡ Some s = ap (numbered plan.steps) (let e : k ≡ k + 0 = omega arith in e) ∙ at 0 in
      let chosen : (c : ℕ) → taken k c ≡ (t.1 == c) = λ c. (let none = none_stands (suc k) k c ts rest (omega arith) in
      let stood = stand k c (omega arith) in grind (arith, none, stood, eq-eqb t.0 k first)) in
      let one = first_held k s t.1 here (chosen t.1 ∙ eq-eqb t.1 t.1 refl)
      (λ d other. chosen d ∙ ne_eqb t.1 d (λ e. other (sym e))) in
      let later = told_from (suc k) steps ts rest
      (λ i c above. stand i c (omega arith)
      ∙ ap (λ b. (b && (t.1 == c)) || stands_in ts i c) (ne_eqb t.0 i (λ e. omega (arith, first, e, above))))
      (omega (arith, few))
      (λ i. ap (numbered plan.steps) (let e : suc k + i ≡ k + suc i = omega arith in e) ∙ at (suc i)) in
      grind (arith, first, one, later, cons_apart, held_cut)

-- the rows of a journey that are held are its holders
journey_told : (x : Cell) (id : ℕ) (plan : Planned) (h : List Item) → Follows plan h
    → map found_of (holders_by plan h x id) ≡ map holder_of (filter (is_row_held x) (step_rows (is_standing h) id plan))
journey_told x id plan h f = grind (arith, told_from)

-- All journeys.

module _ (l : List Event) (legal : IsLegal l) (x : Cell) where
  abbrev rows_in : ℕ × Journey → List StepRow
  rows_in a = step_rows (is_standing (history l a.0)) a.0 a.1.plan

  told_of : (n : ℕ) (js : List Journey) → ((i : ℕ) (a : Journey) → slice_get js i ≡ Some a → journey_at l (n + i) ≡ Some a)
      → map found_of (flat_map (holders_in_journey l x) (numbers_from n (length js)))
      ≡ map holder_of (filter (is_row_held x) (flat_map rows_in (counted_from n js)))
  told_of n [] at = refl
  told_of n (a ∷ js) at =
      let here : journey_at l n ≡ Some a = ap (journey_at l) (let e : n ≡ n + 0 = omega arith in e) ∙ at 0 a refl in
      let own : holders_in_journey l x n ≡ holders_by a.plan (history l n) x n
      = ap (λ (o : Option Journey). unwrap_or (option_map (λ (b : Journey). holders_by b.plan (history l n) x n) o) []) here in
      let later = told_of (suc n) js
      (λ i b e. ap (journey_at l) (let k : suc n + i ≡ n + suc i = omega arith in k) ∙ at (suc i) b e) in
      grind (arith, map-append, filter-append, own, later, journey_told x n a.plan (history l n) (follows l legal n a here))

  -- the rows that are held are the holders
  pub held_told : map found_of (holders_of l x) ≡ map holder_of (filter (is_row_held x) (steps_called l))
  held_told = told_of 1 (journeys l) (λ i a e. ap (journey_at l) (let k : 1 + i ≡ suc i = omega arith in k) ∙ e)
