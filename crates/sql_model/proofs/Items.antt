-- What an item of a journey changes in the rows that are expected of a ledger. For Moves.
use Rattle.std.proofs.Common.{◌≡◌, ℕ, ◌==◌, List, [], ◌∷◌, ◌++◌, map, Bool, true, false, if◌then◌else◌, IsTrue, Some, filter, refl, sym, ap, ◌∙◌, arith, append-nil, eqb-true, flat_map, ◌&&◌, ◌||◌, not, IsPermutation, rules}
use Rattle.std.specs.List.{list_any}
use Rattle.std.proofs.lemmas.Bool.{and_parts, false_from_ne_true}
use Rattle.std.proofs.lemmas.Bool.Decides.{nat_tests}
use Rattle.std.proofs.lemmas.List.Folds.{list_any-append}
use Rattle.std.proofs.lemmas.List.Sorted.{IsPermutation-map}
use Rattle.std.proofs.lemmas.Map.Views.{any-filter_same}
use Rattle.sqlite_trees.proofs.ListLemmas.{map-map, map-flat_map, flat_map_same_on, ascending-filter}
use Rattle.sqlite_rules.specs.Lists.{Has}
use Rattle.sqlite_rules.proofs.ListLemmas.{all_from, some_from}
use Rattle.allotment.specs.Want.{Wanted}
use Rattle.plan.specs.PlanModel.{Planned}
use Rattle.commands.specs.declared.items.Item.{Item}
use Rattle.commands.specs.declared.items.Item.TheVariants.{Transaction, Compensation}
use Rattle.ledger.specs.History.{net, is_taken, may_come}
use Rattle.ledger.specs.Ledger.{Event, Did, Journey, journeys, journey_at, history}
use Rattle.ledger.proofs.Growing.{journeys-did, history-did_same, history-did_other}
use Rattle.ledger.proofs.Histories.{Follows}
use Rattle.ledger.proofs.Items as items
use Rattle.ledger.proofs.Standing.{net-transaction, net-compensation}
use Rattle.saga_core.specs.Views.{cursor_of}
use Rattle.desk_sql.specs.Lists.{changed}
use Rattle.desk_sql.specs.FoundRows.{is_numbered, mark_at_pos}
use Rattle.desk_sql.specs.Rows.{JourneyRow, StepRow, MarkRow}
use Rattle.desk_sql.specs.Changes.{with_cursor, is_option, with_taken}
use Rattle.sql_model.specs.ExpectedRows.{counted_from, Begun, begun, journey_row_of, journeys_called, is_standing, flag, option_row, step_rows, steps_called}
use Rattle.sql_model.specs.Moving.{cursor_written}
use Rattle.sql_model.specs.Standing.{is_mark_at, is_same_mark, MarksStand}
use Rattle.sql_model.proofs.EventRows.{begun-more}
use Rattle.sql_model.proofs.Finding.{apart-last}
use Rattle.sql_model.proofs.JourneyRows.{row_in, begun_at}
use Rattle.sql_model.proofs.NextItems.{turned}
use Rattle.sql_model.proofs.Numbering.{counted_numbered}

-- two functions that agree on the elements of a list map it alike
map-same_on : {X Y : Type 0} (f g : X → Y) (xs : List X) → ((x : X) → Has xs x → f x ≡ g x)
    → map f xs ≡ map g xs
map-same_on f g [] same = refl
map-same_on f g (x ∷ xs) same = search (rules, arith, map-same_on f g xs)

-- a change of rows commutes with a change of their order
pub changed-permutation : {X : Type 0} (passes : X → Bool) (change : X → X) (xs ys : List X)
    → IsPermutation xs ys → IsPermutation (changed passes change xs) (changed passes change ys)
changed-permutation passes change xs ys same = search (rules, arith, IsPermutation-map)

-- rows of a plan of which one option of one journey was marked
module _ (j i c : ℕ) (v : Bool) where
  -- the row of that option, marked; each other row as it is
  abbrev marked : StepRow → StepRow
  marked r = if is_option j i c r then with_taken (flag v) r else r

  -- the row of an option by the changed rule is its old row, marked if it is that option
  one_option : (taken : Bool) (id step : ℕ) (is_marked : Bool) (option : ℕ) (want : Wanted)
      → option_row id step is_marked option
      (if (id == j) && ((step == i) && (option == c)) then v else taken) want
      ≡ marked (option_row id step is_marked option taken want)
  one_option taken id step is_marked option want = search (rules, arith)

  -- the rows of a plan by the changed rule are its old rows, the one of that option marked
  step_rows-marked : (taken after : ℕ → ℕ → Bool) (id : ℕ) (plan : Planned)
      → ((step option : ℕ) → after step option
      ≡ (if (id == j) && ((step == i) && (option == c)) then v else taken step option))
      → step_rows after id plan ≡ map marked (step_rows taken id plan)
  step_rows-marked taken after id plan same =
      search (rules, arith, flat_map_same_on, map-same_on, one_option, map-map, map-flat_map)

module _ (l : List Event) (j : ℕ) (item : Item) where
  -- the ledger with the item
  abbrev next : List Event
  next = l ++ Did j item ∷ []

  -- Journeys.

  -- the same journeys were begun
  begun-did : begun next ≡ begun l
  begun-did = begun-more l (Did j item) ∙ append-nil (begun l)

  module _ (a : Journey) (at : journey_at l j ≡ Some a) where
    -- the row of the journey at its new cursor; each other row as it is
    abbrev moved : JourneyRow → JourneyRow
    moved r =
        if is_numbered j r then with_cursor (cursor_written (cursor_of a.plan (history l j ++ item ∷ []))) r
        else r

    -- the journey with the item's number is this journey
    the_journey : (b : ℕ × Begun) → Has (counted_from 1 (begun l)) b → (b.0 == j) ≡ true → (b.0 ≡ j) × (b.1.journey ≡ a)
    the_journey b h e = search (rules, arith, eqb-true, counted_numbered, begun_at)

    -- the row of each journey follows its history
    moved_row : (b : ℕ × Begun) → Has (counted_from 1 (begun l)) b → row_in next b ≡ moved (row_in l b)
    moved_row b h = go (b.0 == j) refl
      where
        go : (v : Bool) → (b.0 == j) ≡ v
            → row_in next b ≡ (if v then with_cursor (cursor_written
            (cursor_of a.plan (history l j ++ item ∷ []))) (row_in l b) else row_in l b)
        go true e = let is = the_journey b h e in cc (history-did_same l j item b.0 e)
        go false e = ap (λ i. journey_row_of i b.0 b.1) (history-did_other l j item b.0 e)

    -- the journey stands at its new cursor, and each other journey stands where it stood
    pub journeys_called-did : journeys_called next ≡ changed (is_numbered j)
        (with_cursor (cursor_written (cursor_of a.plan (history l j ++ item ∷ [])))) (journeys_called l)
    journeys_called-did = search (rules, arith, begun-did, map-same_on, moved_row, map-map)

    -- an item that leaves the cursor leaves the rows of all journeys
    pub journeys_called-stays : cursor_of a.plan (history l j ++ item ∷ []) ≡ cursor_of a.plan (history l j)
        → journeys_called next ≡ journeys_called l
    journeys_called-stays same =
        ap (λ bs. map (row_in next) (counted_from 1 bs)) begun-did
        ∙ map-same_on (row_in next) (row_in l) (counted_from 1 (begun l)) (λ b h. go b h (b.0 == j) refl)
      where
        go : (b : ℕ × Begun) → Has (counted_from 1 (begun l)) b → (v : Bool) → (b.0 == j) ≡ v → row_in next b ≡ row_in l b
        go b h true e = let is = the_journey b h e in cc (history-did_same l j item b.0 e)
        go b h false e = ap (λ i. journey_row_of i b.0 b.1) (history-did_other l j item b.0 e)

  -- Steps.

  -- the rows of the plan of a journey of this ledger
  abbrev rows_in : List Event → ℕ × Journey → List StepRow
  rows_in m a = step_rows (is_standing (history m a.0)) a.0 a.1.plan

  module _ (i c : ℕ) (v : Bool)
      (taken : (step option : ℕ) → is_standing (history l j ++ item ∷ []) step option
      ≡ (if (step == i) && (option == c) then v else is_standing (history l j) step option)) where
    -- the row is that option of that journey
    one_journey : (k step option : ℕ)
        → is_standing (history next k) step option
        ≡ (if (k == j) && ((step == i) && (option == c)) then v else is_standing (history l k) step option)
    one_journey k step option = search (rules, arith, eqb-true, history-did_same, history-did_other)

    -- an item that takes one option, or gives it up, changes the row of that option alone
    steps_called-marked : steps_called next ≡ changed (is_option j i c) (with_taken (flag v)) (steps_called l)
    steps_called-marked =
        ap (λ js. flat_map (rows_in next) (counted_from 1 js)) (journeys-did l j item)
        ∙ flat_map_same_on (rows_in next) (λ a. map (marked j i c v) (rows_in l a))
        (λ a. step_rows-marked j i c v (is_standing (history l a.0)) (is_standing (history next a.0)) a.0 a.1.plan
        (one_journey a.0))
        (counted_from 1 (journeys l))
        ∙ sym (map-flat_map (marked j i c v) (rows_in l) (counted_from 1 (journeys l)))

    -- so it does in each order of the rows
    pub steps-mark : (rows : List StepRow) → IsPermutation (steps_called l) rows
        → IsPermutation (steps_called next) (changed (is_option j i c) (with_taken (flag v)) rows)
    steps-mark rows stand = search (rules, arith, steps_called-marked, changed-permutation)

  -- Save-points.

  module _ (rows : List MarkRow) (stand : MarksStand l rows) where
    -- a save-point that is taken where none stood appends its row
    pub marks-add : (p : ℕ) → is_taken (history l j) p ≡ false
        → ((q : ℕ) → is_taken (history l j ++ item ∷ []) q ≡ ((q == p) || is_taken (history l j) q))
        → MarksStand next (rows ++ mark_at_pos j p ∷ [])
    marks-add p none taken = record {
      each = λ k q. list_any-append (is_mark_at k q) rows (mark_at_pos j p ∷ []) ∙ go k q (k == j) refl;
      once = apart-last is_same_mark rows (mark_at_pos j p) stand.once (all_from _ rows other);
    }
      where
        go : (k q : ℕ) (v : Bool) → (k == j) ≡ v
            → (list_any (is_mark_at k q) rows || (((j == k) && (p == q)) || false))
            ≡ is_taken (history next k) q
        go k q v e = search (rules, arith, eqb-true, turned, history-did_same, history-did_other)

        other : (m : MarkRow) → Has rows m → is_same_mark m (mark_at_pos j p) ≡ false
        other m h =
            false_from_ne_true (is_same_mark m (mark_at_pos j p))
            (λ on. let here = some_from (is_mark_at j p) rows m h (search (rules, arith, nat_tests)) in cc (stand.each j p))

    -- a save-point that no longer stands loses its row
    pub marks-drop : (p : ℕ)
        → ((q : ℕ) → is_taken (history l j ++ item ∷ []) q ≡ (not (q == p) && is_taken (history l j) q))
        → MarksStand next (filter (λ m. not (is_mark_at j p m)) rows)
    marks-drop p taken = record {
      each =
          λ k q. any-filter_same (is_mark_at k q) (λ m. not (is_mark_at j p m)) (not ((k == j) && (q == p)))
          (at k q) rows
          ∙ ap (λ b. not ((k == j) && (q == p)) && b) (stand.each k q)
          ∙ go k q (k == j) refl;
      once = ascending-filter (λ m n. is_same_mark m n ≡ false) (λ m. not (is_mark_at j p m)) rows stand.once;
    }
      where
        at : (k q : ℕ) (m : MarkRow) → is_mark_at k q m ≡ true
            → not (is_mark_at j p m) ≡ not ((k == j) && (q == p))
        at k q m on = search (rules, arith, and_parts, eqb-true)

        go : (k q : ℕ) (v : Bool) → (k == j) ≡ v
            → (not (v && (q == p)) && is_taken (history l k) q) ≡ is_taken (history next k) q
        go k q v e = search (rules, arith, eqb-true, history-did_same, history-did_other)

-- What stands.

-- a standing transaction is of this step and option
abbrev is_of : ℕ → ℕ → ℕ × ℕ → Bool
is_of step option t = (t.0 == step) && (t.1 == option)

-- one more transaction takes its option
last_taken : (before now : Bool) → (before || (now || false)) ≡ (if now then true else before)
last_taken before now = search (rules, arith)

-- after a transaction its option is taken, and of the others those that were
pub standing-transaction : (h : List Item) (i c step option : ℕ)
    → is_standing (h ++ Transaction i c ∷ []) step option
    ≡ (if (step == i) && (option == c) then true else is_standing h step option)
standing-transaction h i c step option = search (rules, arith, net-transaction, list_any-append, last_taken, turned)

-- after a compensation its option is no longer taken, and of the others those that were
pub standing-compensation : (plan : Planned) (h : List Item) (may_fit : Bool) (i c : ℕ) → Follows plan h
    → IsTrue (may_come plan h may_fit (Compensation i c)) → (step option : ℕ)
    → is_standing (h ++ Compensation i c ∷ []) step option
    ≡ (if (step == i) && (option == c) then false else is_standing h step option)
standing-compensation plan h may_fit i c f may step option = go ((step == i) && (option == c)) refl
  where
    go : (v : Bool) → ((step == i) && (option == c)) ≡ v
        → is_standing (h ++ Compensation i c ∷ []) step option ≡ (if v then false else is_standing h step option)
    go true e =
        ap (list_any (is_of step option)) (net-compensation h i c)
        ∙ any-filter_same (is_of step option) (λ t. not (t.0 == i)) false (λ t on. search (rules, arith, nat_tests)) (net h)
    go false e =
        let cut = items.net-compensation plan h may_fit i c f may in
        search (rules, arith, nat_tests, cut, list_any-append)
