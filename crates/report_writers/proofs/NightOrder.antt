-- Rows that are joined of three tables, night by night: they differ, and they have one order. For the holders of cells.
use Rattle.std.proofs.Common.{◌≡◌, ◌≢◌, inl, inr, ℕ, ◌<◌, ◌==◌, List, [], ◌∷◌, map, filter, Bool, true, Ordering, Less, Equal, is_lt, refl, sym, ap, subst, ◌∙◌, arith, eqb-true, flat_map, nat_cmp}
use Rattle.std.specs.Ordering.{ordering_reverse, ordering_then}
use Rattle.std.specs.Cmp.{IsTotalOrder}
use Rattle.std.proofs.lemmas.Bool.Decides.{nat_tests}
use Rattle.std.proofs.lemmas.Cmp.{on_total, then_total, nat_cmp_total, nat_list_cmp_total}
use Rattle.sqlite_trees.specs.Tree.{IsAscending}
use Rattle.sqlite_trees.proofs.ListLemmas.{ascending-append, ascending-filter, ascending-map, ascending_weaker}
use Rattle.sqlite_rules.specs.Lists.{Has}
use Rattle.sqlite_rules.proofs.ListLemmas.{all_from, all_has, has_either, has_filtered, has_left, has_right}
use Rattle.desk_sql.specs.Rows.{JourneyRow, StepRow, StockRow}
use Rattle.sql_lists.specs.HoldingLists.{Joined, join, joined, joined_cmp, night_cmp, step_cmp}
use Rattle.sql_model.proofs.Orders.{ascending_where}
use Rattle.report_writers.proofs.HandedHolders.{IsBefore}

-- Lists of lists.

-- an element of the lists is in one of them, and an element of one is in the lists
pub has_one_of : {X Y : Type 0} (f : X → List Y) (xs : List X) (y : Y) → Has (flat_map f xs) y → (x : X) × Has xs x × Has (f x) y
has_one_of f [] y h = absurd h
has_one_of f (x ∷ xs) y h = elim (has_either (f x) (flat_map f xs) y h) [
  | inl here ↦ (x, inl refl, here)
  | inr later ↦ (let it = has_one_of f xs y later in (it.0, inr it.1, it.2))
]

pub has_among : {X Y : Type 0} (f : X → List Y) (xs : List X) (x : X) (y : Y) → Has xs x → Has (f x) y → Has (flat_map f xs) y
has_among f [] x y h k = absurd h
has_among f (z ∷ xs) x y (inl same) k = has_left (f z) (flat_map f xs) y (subst (λ w. Has (f w) y) same k)
has_among f (z ∷ xs) x y (inr h) k = has_right (f z) (flat_map f xs) y (has_among f xs x y h k)

-- pairs of elements are related in all lists, if they are in each list, and if their keys are related in two
module _ {A X : Type 0} (Q : A → A → Type 0) (R : X → X → Type 0) (key : X → A) (f : A → List X)
    (own : (a : A) (x : X) → Has (f a) x → key x ≡ a) (each : (a : A) → IsAscending R (f a))
    (cross : (x y : X) → Q (key x) (key y) → R x y) where
  pub flat_pairs : (all : List A) → IsAscending Q all → IsAscending R (flat_map f all)
  flat_pairs [] up = tt
  flat_pairs (a ∷ all) up = grind (arith, ascending-append, all_from, has_one_of, all_has, flat_pairs all up.1)

-- The order of rows.

pub night_total : IsTotalOrder night_cmp
night_total =
    then_total (on_total (λ (r : StockRow). r.night) nat_cmp_total)
    (then_total (on_total (λ (r : StockRow). r.kind) nat_cmp_total)
    (then_total (on_total (λ (r : StockRow). r.supplier) nat_list_cmp_total) (on_total (λ (r : StockRow). r.product) nat_list_cmp_total)))

step_total : IsTotalOrder step_cmp
step_total =
    then_total (on_total (λ (s : StepRow). s.journey) nat_cmp_total)
    (then_total (on_total (λ (s : StepRow). s.place) nat_cmp_total) (on_total (λ (s : StepRow). s.opt) nat_cmp_total))

pub joined_total : IsTotalOrder joined_cmp
joined_total = then_total (on_total (λ (r : Joined). r.cell) night_total) (on_total (λ (r : Joined). r.step) step_total)

less_is : (o : Ordering) → is_lt o ≡ true → o ≡ Less
less_is o e = grind arith

pub number_less : (a b : ℕ) → a < b → nat_cmp a b ≡ Less
number_less a b low = grind (arith, nat_tests)

pub number_same : (a : ℕ) → nat_cmp a a ≡ Equal
number_same a = grind (arith, nat_tests)

cell_same : (c : StockRow) → night_cmp c c ≡ Equal
cell_same c = go (night_cmp c c) (night_total.antisymm c c)
  where
    go : (o : Ordering) → o ≡ ordering_reverse o → o ≡ Equal
    go o e = grind arith

-- an earlier option is before a later one
step_before : (a b : StepRow) → IsBefore a b → is_lt (step_cmp a b) ≡ true
step_before a b before = grind (arith, number_less, number_same)

abbrev pub IsNightBefore : StockRow → StockRow → Type 0
IsNightBefore a b = is_lt (night_cmp a b) ≡ true

abbrev pub IsJoinedBefore : Joined → Joined → Type 0
IsJoinedBefore a b = is_lt (joined_cmp a b) ≡ true

-- rows of an earlier cell are before those of a later one
cell_before : (a b : Joined) → IsNightBefore a.cell b.cell → IsJoinedBefore a b
cell_before a b e = ap (λ o. is_lt (ordering_then o (step_cmp a.step b.step))) (less_is (night_cmp a.cell b.cell) e)

-- of one cell those of an earlier option are
option_before : (c : StockRow) (a b : Joined) → a.cell ≡ c → b.cell ≡ c → IsBefore a.step b.step → IsJoinedBefore a b
option_before c a b first second before = grind (arith, cell_same, step_before)

-- The rows that are joined.

-- the rows of journeys that belong to an option, with the option and a cell
abbrev pub with_own : List JourneyRow → StockRow → StepRow → List Joined
with_own journeys c s = map (join c s) (filter (λ (j : JourneyRow). j.id == s.journey) journeys)

-- those of the options that hold places of a cell
abbrev pub with_held : (StockRow → StepRow → Bool) → List StepRow → List JourneyRow → StockRow → List Joined
with_held holds steps journeys c = flat_map (with_own journeys c) (filter (holds c) steps)

-- rows of a cell and an option have both
paired : (c : StockRow) (s : StepRow) (js : List JourneyRow) (x : Joined) → Has (map (join c s) js) x → x ≡ join c s x.journey
paired c s [] x h = absurd h
paired c s (j ∷ js) x (inl e) = e ∙ ap (λ (y : Joined). join c s y.journey) (sym e)
paired c s (j ∷ js) x (inr later) = paired c s js x later

-- cells, options and journeys that differ have rows that differ
module _ (test : StockRow → StepRow → JourneyRow → Bool) (steps : List StepRow) (journeys : List JourneyRow)
    (off : IsAscending ◌≢◌ steps) (unlike : IsAscending ◌≢◌ journeys) where
  abbrev of_option : StockRow → StepRow → List Joined
  of_option c s = map (join c s) (filter (test c s) journeys)

  abbrev of_cell : StockRow → List Joined
  of_cell c = flat_map (of_option c) steps

  has_cell : (c : StockRow) (x : Joined) → Has (of_cell c) x → x.cell ≡ c
  has_cell c x h = grind (arith, has_one_of, paired)

  pub joined_apart : (stock : List StockRow) → IsAscending ◌≢◌ stock → IsAscending ◌≢◌ (joined test stock steps journeys)
  joined_apart stock apart =
      flat_pairs ◌≢◌ ◌≢◌ (λ (x : Joined). x.cell) of_cell has_cell
      (λ c. flat_pairs ◌≢◌ ◌≢◌ (λ (x : Joined). x.step) (of_option c)
      (λ s x h. ap (λ (y : Joined). y.step) (paired c s (filter (test c s) journeys) x h))
      (λ s. ascending-map ◌≢◌ (join c s) (filter (test c s) journeys)
      (ascending_weaker ◌≢◌ (λ a b. join c s a ≢ join c s b) (λ a b other e. other (ap (λ (z : Joined). z.journey) e)) (filter (test c s) journeys)
      (ascending-filter ◌≢◌ (test c s) journeys unlike)))
      (λ x y other e. other (ap (λ (z : Joined). z.step) e)) steps off)
      (λ x y other e. other (ap (λ (z : Joined). z.cell) e)) stock apart

module _ (journeys : List JourneyRow) (rise : IsAscending (λ (a b : JourneyRow). a.id < b.id) journeys) where
  -- at most one journey belongs to an option
  own_once : (R : Joined → Joined → Type 0) (c : StockRow) (s : StepRow) → IsAscending R (with_own journeys c s)
  own_once R c s = grind (arith, ascending-map, ascending_where, eqb-true, has_filtered, ascending-filter)

  module _ (holds : StockRow → StepRow → Bool) (steps : List StepRow) where
    own_cell : (c : StockRow) (x : Joined) → Has (with_held holds steps journeys c) x → x.cell ≡ c
    own_cell c x h = grind (arith, has_one_of, paired, holds)

    -- pairs of them are related as the options are
    held_pairs : (R : Joined → Joined → Type 0) (Q : StepRow → StepRow → Type 0) (c : StockRow)
        → ((x y : Joined) → Q x.step y.step → R x y) → IsAscending Q steps → IsAscending R (with_held holds steps journeys c)
    held_pairs R Q c cross up =
        flat_pairs Q R (λ (x : Joined). x.step) (with_own journeys c)
        (λ s x h. ap (λ (y : Joined). y.step) (paired c s (filter (λ (j : JourneyRow). j.id == s.journey) journeys) x h)) (own_once R c) cross (filter (holds c) steps)
        (ascending-filter Q (holds c) steps up)

    -- cells in order, and options in order, have rows in order
    pub joined_rises : (stock : List StockRow) → IsAscending IsNightBefore stock → IsAscending IsBefore steps
        → IsAscending IsJoinedBefore (flat_map (with_held holds steps journeys) stock)
    joined_rises stock up rising =
        flat_pairs IsNightBefore IsJoinedBefore (λ (x : Joined). x.cell) (with_held holds steps journeys) own_cell
        (λ c. ascending_where (λ (x y : Joined). IsBefore x.step y.step) IsJoinedBefore (with_held holds steps journeys c)
        (λ x y h k before. option_before c x y (own_cell c x h) (own_cell c y k) before)
        (held_pairs (λ (x y : Joined). IsBefore x.step y.step) IsBefore c (λ x y before. before) rising))
        cell_before stock up
