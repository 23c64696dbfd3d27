-- The rows of the holders of a cell, in their only order. For `holder_rows`.
use Rattle.std.proofs.Common.{◌≡◌, ◌≢◌, ◌⊎◌, inl, inr, ℕ, suc, ◌<◌, ◌≤◌, List, [], ◌∷◌, map, filter, Bool, sym, ap, ◌∙◌, arith, flat_map}
use Rattle.std.specs.List.{AllByRecursion}
use Rattle.std.specs.List.Sorted.{IsPermutation}
use Rattle.sqlite_trees.specs.Tree.{IsAscending}
use Rattle.sqlite_trees.proofs.ListLemmas.{IsPermutation-filter, all-append, all-flat_map, all-map, all_of, all_weaker, ascending-append, ascending-filter, ascending-map, ascending_weaker}
use Rattle.sqlite_rules.proofs.ListLemmas.{all_has}
use Rattle.allotment.specs.declared.cells.Cell.{Cell}
use Rattle.plan.specs.PlanModel.{Planned, StepPlan}
use Rattle.ledger.specs.Ledger.{Event, IsLegal, Journey, history, journeys}
use Rattle.desk_sql.specs.Rows.{StepRow, Tables}
use Rattle.desk_sql.specs.RemainingRows.{IsOnlyOrder}
use Rattle.desk_sql.proofs.Members.{permutation_from, permutation_to}
use Rattle.sql_lists.specs.HolderLists.{IsByStep, ListsHolders, is_row_held}
use Rattle.sql_model.specs.ExpectedRows.{counted_from, is_standing, option_rows, step_rows, steps_called}
use Rattle.sql_model.proofs.Numbering.{counted_rises}
use Rattle.sql_model.proofs.Orders.{ascending_where, pairs-permutation}
use Rattle.reports.specs.Holders.{holders_of}
use Rattle.reports.specs.declared.holders.Holder.{Holder}
use Rattle.report_writers.specs.HoldersLeft.{found_of}
use Rattle.report_writers.proofs.HeldRows.{held_told}
use Rattle.report_writers.proofs.OneOrder.{only_order}

-- A list of lists, each under its number.

module _ {A X : Type 0} (R : X → X → Type 0) (key : X → ℕ) (lower : (a b : X) → key a < key b → R a b) (f : ℕ × A → List X)
    (own : (p : ℕ × A) → AllByRecursion (λ x. key x ≡ p.0) (f p)) (each : (p : ℕ × A) → IsAscending R (f p)) where
  above : (n : ℕ) (ps : List A) → AllByRecursion (λ x. n ≤ key x) (flat_map f (counted_from n ps))
  above n [] = tt
  above n (p ∷ ps) = grind (arith, all-append, all_weaker, above (suc n) ps)

  -- elements that ascend under each number ascend in all
  rise : (n : ℕ) (ps : List A) → IsAscending R (flat_map f (counted_from n ps))
  rise n [] = tt
  rise n (p ∷ ps) = grind (arith, ascending-append, all_weaker, above, rise (suc n) ps)

-- The rows of all plans.

-- an earlier step, or the same one and an earlier option
abbrev pub IsPlacedBefore : StepRow → StepRow → Type 0
IsPlacedBefore a b = (a.place < b.place) ⊎ ((a.place ≡ b.place) × (a.opt < b.opt))

-- an earlier journey, or the same one and an earlier place in it
abbrev pub IsBefore : StepRow → StepRow → Type 0
IsBefore a b = (a.journey < b.journey) ⊎ ((a.journey ≡ b.journey) × IsPlacedBefore a b)

module _ (taken : ℕ → ℕ → Bool) (id : ℕ) where
  options_rise : (s : ℕ × StepPlan) → IsAscending IsPlacedBefore (option_rows taken id s.0 s.1)
  options_rise s = grind (arith, ascending-map, ascending_weaker, counted_rises)

  options_placed : (s : ℕ × StepPlan) → AllByRecursion (λ (r : StepRow). r.place ≡ s.0) (option_rows taken id s.0 s.1)
  options_placed s = grind (arith, all-map, all_of)

  steps_own : (plan : Planned) → AllByRecursion (λ (r : StepRow). r.journey ≡ id) (step_rows taken id plan)
  steps_own plan = grind (arith, all-flat_map, all_of, all-map)

  steps_rise : (plan : Planned) → IsAscending IsBefore (step_rows taken id plan)
  steps_rise plan =
      ascending_where IsPlacedBefore IsBefore (step_rows taken id plan)
      (λ a b h k before. inr (all_has _ (step_rows taken id plan) a (steps_own plan) h ∙ sym (all_has _ (step_rows taken id plan) b (steps_own plan) k), before))
      (rise IsPlacedBefore (λ (r : StepRow). r.place) (λ a b low. inl low) (λ (s : ℕ × StepPlan). option_rows taken id s.0 s.1)
      options_placed options_rise 1 plan.steps)

-- the rows that a ledger calls for ascend
pub called_rise : (l : List Event) → IsAscending IsBefore (steps_called l)
called_rise l =
    rise IsBefore (λ (r : StepRow). r.journey) (λ a b low. inl low)
    (λ (a : ℕ × Journey). step_rows (is_standing (history l a.0)) a.0 a.1.plan)
    (λ a. steps_own (is_standing (history l a.0)) a.0 a.1.plan)
    (λ a. steps_rise (is_standing (history l a.0)) a.0 a.1.plan) 1 (journeys l)

-- One order.

not_both : (a b : StepRow) → IsBefore a b → IsByStep b a → ⊥
not_both a b before behind = grind arith

never_before : (a : StepRow) → IsBefore a a → ⊥
never_before a before = grind arith

pub steps_apart : (rows : List StepRow) → IsAscending IsBefore rows → IsAscending ◌≢◌ rows
steps_apart rows up = grind (arith, ascending_weaker, never_before)

module _ (x : Cell) (l : List Event) (t : Tables) (called : IsPermutation (steps_called l) t.step) where
  abbrev held_rows : List StepRow
  held_rows = filter (is_row_held x) (steps_called l)

  -- the rows that are held have one order
  held_in_order : IsOnlyOrder IsByStep (filter (is_row_held x) t.step) held_rows
  held_in_order =
      let some = filter (is_row_held x) t.step in
      let found : IsPermutation held_rows some = IsPermutation-filter (is_row_held x) (steps_called l) t.step called in
      let up = ascending-filter IsBefore (is_row_held x) (steps_called l) (called_rise l) in
      only_order IsByStep IsBefore not_both never_before some held_rows
      (pairs-permutation ◌≢◌ (λ a b differ e. differ (sym e)) held_rows some found (steps_apart held_rows up)) up
      (λ r h. permutation_from held_rows some r found h) (λ r h. permutation_to held_rows some r found h)

  -- the rows that will be returned are those of the holders
  pub lists_holders : IsLegal l → (holders : List Holder) → holders ≡ holders_of l x → ListsHolders x t (map found_of holders)
  lists_holders legal holders is = (held_rows, held_in_order, ap (map found_of) is ∙ held_told l legal x)

-- a row determines its holder
pub holder_same : (h k : Holder) → found_of h ≡ found_of k → h ≡ k
holder_same h k e = grind arith
