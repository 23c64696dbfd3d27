-- The rows found of a journey's steps give the wants of its plan, and the taken options. For the choice of an option.
use Rattle.std.proofs.Common.{◌≡◌, ℕ, suc, ◌≤◌, List, [], ◌∷◌, length, map, Bool, true, Option, Some, None, refl, arith, eqb-true, eq-eqb, option_and_then, rules}
use Rattle.std.proofs.lemmas.Bool.{and_parts, and_from}
use Rattle.sqlite_rules.specs.Lists.{Has}
use Rattle.sqlite_rules.proofs.ListLemmas.{has_last, some_has, some_from, test_has}
use Rattle.sqlite_rules.proofs.ProbeLemmas.{has_mapped, mapped_has}
use Rattle.allotment.specs.Want.{Wanted}
use Rattle.allotment.specs.Cells.{numbers_from}
use Rattle.plan.specs.PlanModel.{Planned, StepPlan, numbered, is_marked_at, want_at}
use Rattle.commands.specs.declared.items.Item.{Item}
use Rattle.ledger.specs.History.{last_of, net}
use Rattle.ledger.proofs.Lists.{last_of-is}
use Rattle.ledger.proofs.Histories.{Follows, is_option_of}
use Rattle.desk_sql.specs.Rows.{StepRow}
use Rattle.sql_model.specs.ExpectedRows.{counted_from, is_standing, option_row, option_rows, step_rows}
use Rattle.sql_model.proofs.Numbering.{has_flat_map, flat_map_has, counted_numbered, numbered_counted}
use Rattle.sql_model.proofs.Plans.{option_wanted}

-- the row is that of a want of the plan, with the mark of its step, and taken as `taken` says
pub record IsRowOf (taken : ℕ → ℕ → Bool) (id : ℕ) (plan : Planned) (r : StepRow) : Type 0 where
  pub want : Wanted
  pub wanted : want_at plan r.place r.opt ≡ Some want
  pub is : r ≡ option_row id r.place (is_marked_at plan r.place) r.opt (taken r.place r.opt) want

module _ (taken : ℕ → ℕ → Bool) (id : ℕ) (plan : Planned) where
  -- the row of an option of a step is that of its want
  row_of : (i c : ℕ) (s : StepPlan) (w : Wanted) → numbered plan.steps i ≡ Some s → numbered s.options c ≡ Some w
      → IsRowOf taken id plan (option_row id i s.is_marked c (taken i c) w)
  row_of i c s w there among = record { want = w; wanted = rw there among; is = rw there refl }

  -- each row of a plan is that of one of its wants
  pub row_told : (r : StepRow) → Has (step_rows taken id plan) r → IsRowOf taken id plan r
  row_told r h = search (rules, arith, flat_map_has, has_mapped, row_of, counted_numbered)

  -- each want of a plan has its row
  pub row_there : (i c : ℕ) (w : Wanted) → want_at plan i c ≡ Some w
      → Has (step_rows taken id plan) (option_row id i (is_marked_at plan i) c (taken i c) w)
  row_there i c w e = go (numbered plan.steps i) refl e
    where
      go : (o : Option StepPlan) → numbered plan.steps i ≡ o
          → option_and_then (λ (s : StepPlan). numbered s.options c) o ≡ Some w
          → Has (step_rows taken id plan) (option_row id i (is_marked_at plan i) c (taken i c) w)
      go None f g = cc
      go (Some s) f g =
          rw f
          (has_flat_map (λ (x : ℕ × StepPlan). option_rows taken id x.0 x.1) (counted_from 1 plan.steps) (i, s)
          (option_row id i s.is_marked c (taken i c) w) (numbered_counted plan.steps i s f)
          (mapped_has (λ (v : ℕ × Wanted). option_row id i s.is_marked v.0 (taken i v.0) v.1)
          (counted_from 1 s.options) (c, w) (numbered_counted s.options c w g)))

-- The taken options.

-- the last element is one of the list
pub last_has : {X : Type 0} (xs : List X) (x : X) → last_of xs ≡ Some x → Has xs x
last_has xs x last = let cut = last_of-is xs x last in has_last xs cut.0 x cut.1

-- of transactions whose steps have consecutive numbers, the last has the greatest number
last_above : (ts : List (ℕ × ℕ)) (first : ℕ) (last : ℕ × ℕ)
    → map (λ s. s.0) ts ≡ numbers_from first (length ts) → last_of ts ≡ Some last → first ≤ last.0
last_above [] first last stands is = cc
last_above (x ∷ []) first last stands is = search (rules, arith, arith)
last_above (x ∷ y ∷ ts) first last stands is = search (rules, arith, last_above (y ∷ ts) (suc first) last)

-- the last transaction is the only one of its step
last_of_step : (ts : List (ℕ × ℕ)) (first : ℕ) (last : ℕ × ℕ) (t : ℕ × ℕ)
    → map (λ s. s.0) ts ≡ numbers_from first (length ts) → last_of ts ≡ Some last → Has ts t
    → t.0 ≡ last.0 → t.1 ≡ last.1
last_of_step [] first last t stands is h same = absurd h
last_of_step (x ∷ []) first last t stands is h same = search (rules, arith, arith)
last_of_step (x ∷ y ∷ ts) first last t stands is h same =
    search (rules, arith, last_above, last_of_step (y ∷ ts) (suc first) last t)

-- of the last step that stands, no option but its own is taken
pub taken_option : (plan : Planned) (h : List Item) (i c option : ℕ) → Follows plan h
    → last_of (net h) ≡ Some (i, c) → is_standing h i option ≡ true → option ≡ c
taken_option plan h i c option f last on = search (rules, arith, some_has, and_parts, eqb-true, last_of_step)

-- of the last step that stands, its own option is taken
option_taken : (h : List Item) (i c : ℕ) → last_of (net h) ≡ Some (i, c) → is_standing h i c ≡ true
option_taken h i c last = search (rules, arith, some_from, last_has, and_from, eq-eqb)

-- a row of the last step that is marked as taken has its option
pub taken_row : (plan : Planned) (h : List Item) (id i c : ℕ) (r : StepRow) → Follows plan h
    → last_of (net h) ≡ Some (i, c) → Has (step_rows (is_standing h) id plan) r → r.place ≡ i
    → r.taken ≡ 1 → r.opt ≡ c
taken_row plan h id i c r f last there place taken = search (rules, arith, row_told, taken_option)

-- the last step has a row that is marked as taken
pub taken_row_there : (plan : Planned) (h : List Item) (id i c : ℕ) (w : Wanted)
    → last_of (net h) ≡ Some (i, c) → want_at plan i c ≡ Some w
    → Has (step_rows (is_standing h) id plan) (option_row id i (is_marked_at plan i) c true w)
taken_row_there plan h id i c w last want = rw (option_taken h i c last) at (row_there (is_standing h) id plan i c w want)

-- the option of the last step is one of the step's options
pub last_wanted : (plan : Planned) (h : List Item) (i c : ℕ) → Follows plan h
    → last_of (net h) ≡ Some (i, c) → (w : Wanted) × (want_at plan i c ≡ Some w)
last_wanted plan h i c f last =
    option_wanted plan i c (test_has (is_option_of plan) (net h) (i, c) f.options (last_has (net h) (i, c) last))
