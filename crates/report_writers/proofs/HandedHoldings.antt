-- The rows of the holders of cells, night by night, in their only order. For `start_holdings`.
use Rattle.std.proofs.Common.{◌≡◌, ◌≢◌, ℕ, suc, ◌+◌, ◌<◌, ◌≤◌, ◌-◌, ◌^◌, ◌==◌, ◌&&◌, List, [], ◌∷◌, map, filter, Bool, true, Some, IsTrue, is_lt, refl, sym, ap, subst, ◌∙◌, arith, flat_map, nat_le}
use Rattle.std.specs.List.{AllByRecursion, list_all}
use Rattle.std.specs.List.Sorted.{IsPermutation}
use Rattle.std.proofs.lemmas.Bool.{and_from, and_parts, leb-true}
use Rattle.std.proofs.lemmas.List.{map-append}
use Rattle.sqlite_trees.specs.Tree.{IsAscending}
use Rattle.sqlite_trees.proofs.ListLemmas.{all-append, all-flat_map, ascending-filter, ascending-map, ascending_from_map, ascending_weaker, filter-map}
use Rattle.sqlite_rules.specs.Lists.{Has}
use Rattle.sqlite_rules.proofs.ListLemmas.{all_from, all_has, has_filtered, has_kept}
use Rattle.sqlite_rules.proofs.ProbeLemmas.{has_mapped, mapped_has}
use Rattle.allotment.specs.Limits.{are_nights, first_night, is_between, is_code, is_count, is_night, is_want, last_night, most_nights}
use Rattle.allotment.specs.Want.{Wanted}
use Rattle.plan.specs.PlanModel.{StepPlan, is_step}
use Rattle.plan.proofs.LimitLemmas.{limited, step_limited}
use Rattle.saga_core.specs.CellFilters.{is_cell_asked}
use Rattle.saga_core.specs.declared.cell_filters.CellFilter.{CellFilter}
use Rattle.ledger.specs.Answer.{State}
use Rattle.ledger.specs.Ledger.{Event, IsLegal, Journey, history, journey_at, journeys}
use Rattle.saga_core.specs.Views.{IsStock}
use Rattle.sqlite.specs.Store.{Ghosts}
use Rattle.sqlite.specs.Held.{Held}
use Rattle.commands.specs.Names.{is_agent}
use Rattle.commands.specs.declared.items.Phase.{Phase}
use Rattle.desk_sql.specs.Rows.{CursorRow, JourneyRow, StepRow, StockRow, Tables}
use Rattle.desk_sql.specs.Stock.{cell_cmp as stock_cmp}
use Rattle.desk_sql.specs.RemainingRows.{IsOnlyOrder}
use Rattle.desk_sql.specs.declared.versions.Version.{Version}
use Rattle.desk_sql.proofs.Members.{permutation_from, permutation_to}
use Rattle.sql_model.specs.ExpectedRows.{counted_from, is_standing, journeys_called, option_row, option_rows, phase_number, step_rows, steps_called}
use Rattle.sql_model.specs.Reading.{stock_row_of}
use Rattle.sql_model.specs.Standing.{IsDesk, StockStands}
use Rattle.sql_model.proofs.Numbering.{counted_stands}
use Rattle.sql_model.proofs.Orders.{one_order, pairs-permutation}
use Rattle.sql_model.proofs.RecordRows.{plan_good}
use Rattle.sql_lists.specs.HolderLists.{is_row_held}
use Rattle.sql_lists.specs.HoldingLists.{IsByNight, Joined, ListsHoldings, holding_of as row_shown, is_held_in, is_joined, is_stock_asked, join, joined, joined_cmp}
use Rattle.reports.specs.Holders.{holders_of}
use Rattle.reports.specs.Holdings.{cells_asked, holdings_in, holdings_of}
use Rattle.reports.specs.declared.holdings.Holding.{Holding}
use Rattle.sql_model.proofs.JourneyRows.{called_rises, journey_told}
use Rattle.sql_reads.proofs.GoodStock.{good_row}
use Rattle.sql_reads.proofs.HandedTold.{IsThere}
use Rattle.report_writers.specs.HoldingsLeft.{IsGoodHolding, holding_short, holding_told}
use Rattle.report_writers.proofs.HandedHolders.{called_rise, steps_apart}
use Rattle.report_writers.proofs.HandedStock.{in_order_strict, listed_row, row_listed, stock_apart}
use Rattle.report_writers.proofs.HeldRows.{held_told}
use Rattle.report_writers.proofs.NightOrder.{IsJoinedBefore, IsNightBefore, has_among, has_one_of, joined_apart, joined_rises, joined_total, with_held, with_own}
use Rattle.report_writers.proofs.OneOrder.{only_compared}
use Rattle.report_writers.proofs.NightlyStock.{Listed, nightly, nightly_same, has_nightly, nightly_has, IsCellBefore, nightly_rises}
use Rattle.report_writers.proofs.ToldHoldings.{all_told}

module _ (l : List Event) (legal : IsLegal l) where
  abbrev rows_of : StockRow → List Joined
  rows_of = with_held is_held_in (steps_called l) (journeys_called l)

  -- the rows of cells are shown as their holders
  cells_told : (cs : List Listed)
      → map holding_short (map row_shown (flat_map rows_of (map stock_row_of cs)))
      ≡ map holding_told (flat_map (holdings_of l) (map (λ (r : Listed). r.0) cs))
  cells_told [] = refl
  cells_told (c ∷ cs) =
      let own = all_told l c (holders_of l c.0) (filter (is_row_held c.0) (steps_called l)) (held_told l legal c.0) in
      grind (arith, map-append, own, cells_told cs)

  -- Numbers.

  abbrev IsSmall : StepRow → Type 0
  IsSmall s = s.night + s.nights < 2 ^ 63

  option_small : (taken : ℕ → Bool) (id k n : ℕ) (m : Bool) (ws : List Wanted) → list_all is_want ws ≡ true
      → AllByRecursion IsSmall (map (λ (w : ℕ × Wanted). option_row id k m w.0 (taken w.0) w.1) (counted_from n ws))
  option_small taken id k n m [] good = tt
  option_small taken id k n m (w ∷ ws) good =
      let both = and_parts (is_want w) (list_all is_want ws) good in
      let four = and_parts (is_code w.supplier && is_code w.product && is_night w.first && are_nights w.kind w.first w.nights) (is_count w.count) both.0 in
      let three = and_parts (is_code w.supplier && is_code w.product && is_night w.first) (are_nights w.kind w.first w.nights) four.0 in
      let nights = and_parts (is_between 1 (most_nights w.kind) w.nights) (is_night (w.first + w.nights - 1)) three.1 in
      let last = and_parts (nat_le first_night (w.first + w.nights - 1)) (nat_le (w.first + w.nights - 1) last_night) nights.1 in
      let low : w.first + w.nights - 1 ≤ 47481 = leb-true (w.first + w.nights - 1) last_night last.1 in
      let small : w.first + w.nights < 2 ^ 63 = omega (arith, low) in
      (small, option_small taken id k (suc n) m ws both.1)

  steps_small : (taken : ℕ → ℕ → Bool) (id k : ℕ) (steps : List StepPlan) → list_all is_step steps ≡ true
      → AllByRecursion IsSmall (flat_map (λ (s : ℕ × StepPlan). option_rows taken id s.0 s.1) (counted_from k steps))
  steps_small taken id k [] good = tt
  steps_small taken id k (s ∷ steps) good =
      let both = and_parts (is_step s) (list_all is_step steps) good in
      all-append IsSmall (option_rows taken id k s) (flat_map (λ (t : ℕ × StepPlan). option_rows taken id t.0 t.1) (counted_from (suc k) steps))
      (option_small (taken k) id k 1 s.is_marked s.options (step_limited s both.0).each_want) (steps_small taken id (suc k) steps both.1)

  -- the store can count the nights of each option
  called_small : AllByRecursion IsSmall (steps_called l)
  called_small =
      all-flat_map IsSmall (λ (a : ℕ × Journey). step_rows (is_standing (history l a.0)) a.0 a.1.plan) (counted_from 1 (journeys l))
      (all_from (λ (a : ℕ × Journey). AllByRecursion IsSmall (step_rows (is_standing (history l a.0)) a.0 a.1.plan)) (counted_from 1 (journeys l)) (λ a h.
      let at = counted_stands 1 (journeys l) a h in
      let number : a.0 ≡ suc at.place = at.number ∙ (let e : 1 + at.place ≡ suc at.place = omega arith in e) in
      let there : journey_at l a.0 ≡ Some a.1 = ap (journey_at l) number ∙ at.there in
      steps_small (is_standing (history l a.0)) a.0 1 a.1.plan.steps (limited a.1.plan (plan_good l a.0 a.1 legal there)).each_step))

-- the tables of a desk that a connection keeps
module _ {S : Type 0} {g : Ghosts S} {v : Version} {h : Held S} (desk : State) (is_desk : IsDesk desk) (there : IsThere v g h desk)
    (all : List Listed) (is : IsStock desk.ledger all) (f : CellFilter) where
  abbrev l : List Event
  l = desk.ledger

  abbrev legal : IsLegal l
  legal = is_desk.legal

  abbrev t : Tables
  t = there.tables

  abbrev stand : StockStands l t.stock
  stand = there.stands.stock

  abbrev called : IsPermutation (steps_called l) t.step
  called = there.stands.step

  abbrev rise : IsAscending (λ (a b : JourneyRow). a.id < b.id) t.journey
  rise = there.rows.journey.rise

  journeys_are : t.journey ≡ journeys_called l
  journeys_are = one_order (λ (j : JourneyRow). j.id) (journeys_called l) t.journey there.stands.journey (called_rises l) rise

  small : AllByRecursion (IsSmall l legal) t.step
  small = all_from (IsSmall l legal) t.step (λ s h. all_has (IsSmall l legal) (steps_called l) s (called_small l legal) (permutation_from (steps_called l) t.step s called h))

  abbrev chosen : List Listed
  chosen = nightly (filter (λ (r : Listed). is_cell_asked f r.0) all)

  -- the rows that will be returned
  abbrev pub expected : List Joined
  expected = flat_map (rows_of l legal) (map stock_row_of chosen)

  -- a row of stock is that of a chosen cell where it is asked for
  chosen_has : (c : StockRow) → Has t.stock c → is_stock_asked f c ≡ true → Has (map stock_row_of chosen) c
  chosen_has c h asked =
      let r = has_mapped stock_row_of all c (row_listed l t.stock stand all is c h) in
      subst (Has (map stock_row_of chosen)) (sym r.2)
      (mapped_has stock_row_of chosen r.0
      (nightly_has (filter (λ (x : Listed). is_cell_asked f x.0) all) r.0
      (has_kept (λ (x : Listed). is_cell_asked f x.0) all r.0 r.1 (subst (λ x. is_stock_asked f x ≡ true) r.2 asked))))

  has_chosen : (c : StockRow) → Has (map stock_row_of chosen) c → Has t.stock c × (is_stock_asked f c ≡ true)
  has_chosen c h =
      let r = has_mapped stock_row_of chosen c h in
      let kept = has_filtered (λ (x : Listed). is_cell_asked f x.0) all r.0 (has_nightly (filter (λ (x : Listed). is_cell_asked f x.0) all) r.0 r.1) in (
        subst (Has t.stock) (sym r.2) (listed_row l t.stock stand all is (stock_row_of r.0) (mapped_has stock_row_of all r.0 kept.0)),
        subst (λ x. is_stock_asked f x ≡ true) (sym r.2) kept.1,
      )

  abbrev passing : List Joined
  passing = joined (is_joined f) t.stock t.step t.journey

  own_here : (s : StepRow) (j : JourneyRow) → Has t.journey j → Has (journeys_called l) j
  own_here s j h = subst (λ js. Has js j) journeys_are h

  passes_expected : (x : Joined) → Has passing x → Has expected x
  passes_expected x h =
      let cell = has_one_of (λ c. flat_map (λ s. map (join c s) (filter (is_joined f c s) t.journey)) t.step) t.stock x h in
      let option = has_one_of (λ s. map (join cell.0 s) (filter (is_joined f cell.0 s) t.journey)) t.step x cell.2 in
      let own = has_mapped (join cell.0 option.0) (filter (is_joined f cell.0 option.0) t.journey) x option.2 in
      let kept = has_filtered (is_joined f cell.0 option.0) t.journey own.0 own.1 in
      let first = and_parts (is_stock_asked f cell.0) (is_held_in cell.0 option.0 && (own.0.id == option.0.journey)) kept.1 in
      let second = and_parts (is_held_in cell.0 option.0) (own.0.id == option.0.journey) first.1 in
      let step_here = permutation_from (steps_called l) t.step option.0 called option.1 in
      subst (Has expected) (sym own.2)
      (has_among (rows_of l legal) (map stock_row_of chosen) cell.0 (join cell.0 option.0 own.0) (chosen_has cell.0 cell.1 first.0)
      (has_among (with_own (journeys_called l) cell.0) (filter (is_held_in cell.0) (steps_called l)) option.0 (join cell.0 option.0 own.0)
      (has_kept (is_held_in cell.0) (steps_called l) option.0 step_here second.0)
      (mapped_has (join cell.0 option.0) (filter (λ (j : JourneyRow). j.id == option.0.journey) (journeys_called l)) own.0
      (has_kept (λ (j : JourneyRow). j.id == option.0.journey) (journeys_called l) own.0 (own_here option.0 own.0 kept.0) second.1))))

  expected_passes : (x : Joined) → Has expected x → Has passing x
  expected_passes x h =
      let cell = has_one_of (rows_of l legal) (map stock_row_of chosen) x h in
      let option = has_one_of (with_own (journeys_called l) cell.0) (filter (is_held_in cell.0) (steps_called l)) x cell.2 in
      let own = has_mapped (join cell.0 option.0) (filter (λ (j : JourneyRow). j.id == option.0.journey) (journeys_called l)) x option.2 in
      let kept = has_filtered (λ (j : JourneyRow). j.id == option.0.journey) (journeys_called l) own.0 own.1 in
      let held = has_filtered (is_held_in cell.0) (steps_called l) option.0 option.1 in
      let asked = has_chosen cell.0 cell.1 in
      let here : Has t.journey own.0 = subst (λ js. Has js own.0) (sym journeys_are) kept.0 in
      subst (Has passing) (sym own.2)
      (has_among (λ c. flat_map (λ s. map (join c s) (filter (is_joined f c s) t.journey)) t.step) t.stock cell.0 (join cell.0 option.0 own.0) asked.0
      (has_among (λ s. map (join cell.0 s) (filter (is_joined f cell.0 s) t.journey)) t.step option.0 (join cell.0 option.0 own.0)
      (permutation_to (steps_called l) t.step option.0 called held.0)
      (mapped_has (join cell.0 option.0) (filter (is_joined f cell.0 option.0) t.journey) own.0
      (has_kept (is_joined f cell.0 option.0) t.journey own.0 here (and_from _ _ asked.1 (and_from _ _ held.1 kept.1))))))

  -- Good rows.

  -- a phase has one of four numbers
  phase_low : (p : Phase) → phase_number p ≤ 3
  phase_low p = grind arith

  -- each row that will be returned keeps its limits, where the agents have the form of one
  pub expected_good : ((j : JourneyRow) → Has t.journey j → IsTrue (is_agent j.agent))
      → AllByRecursion IsGoodHolding (map row_shown expected)
  expected_good agents = all_from IsGoodHolding (map row_shown expected) (λ r h.
      let x = has_mapped row_shown expected r h in subst IsGoodHolding (sym x.2) (each x.0 (expected_passes x.0 x.1)))
    where
      each : (x : Joined) → Has passing x → IsGoodHolding (row_shown x)
      each x h =
          let cell = has_one_of (λ c. flat_map (λ s. map (join c s) (filter (is_joined f c s) t.journey)) t.step) t.stock x h in
          let option = has_one_of (λ s. map (join cell.0 s) (filter (is_joined f cell.0 s) t.journey)) t.step x cell.2 in
          let own = has_mapped (join cell.0 option.0) (filter (is_joined f cell.0 option.0) t.journey) x option.2 in
          let here = (has_filtered (is_joined f cell.0 option.0) t.journey own.0 own.1).0 in
          let told = journey_told l own.0 (own_here option.0 own.0 here) in
          subst (λ y. IsGoodHolding (row_shown y)) (sym own.2) (record {
            cell = good_row l legal t.stock stand cell.0 cell.1;
            agent = agents own.0 here;
            state = subst (λ n. n ≤ 3) (sym (ap (λ (p : CursorRow). p.phase) told.2.cursor)) (phase_low _);
          })

  -- The one order.

  options_apart : IsAscending ◌≢◌ t.step
  options_apart =
      pairs-permutation ◌≢◌ (λ a b differ e. differ (sym e)) (steps_called l) t.step called (steps_apart (steps_called l) (called_rise l))

  journeys_apart : IsAscending ◌≢◌ t.journey
  journeys_apart = grind (arith, ascending_weaker)

  expected_rises : IsAscending IsJoinedBefore expected
  expected_rises =
      joined_rises (journeys_called l) (subst (IsAscending (λ (a b : JourneyRow). a.id < b.id)) journeys_are rise) is_held_in (steps_called l)
      (map stock_row_of chosen)
      (ascending-map IsNightBefore stock_row_of chosen
      (nightly_rises (filter (λ (r : Listed). is_cell_asked f r.0) all)
      (ascending-filter IsCellBefore (λ (r : Listed). is_cell_asked f r.0) all
      (ascending_from_map (λ (r s : StockRow). is_lt (stock_cmp r s) ≡ true) stock_row_of all (in_order_strict all is.in_order)))))
      (called_rise l)

  holdings_in_order : IsOnlyOrder IsByNight passing expected
  holdings_in_order =
      only_compared joined_cmp joined_total passing expected
      (joined_apart (is_joined f) t.step t.journey options_apart journeys_apart t.stock (stock_apart t.stock stand.once))
      expected_rises passes_expected expected_passes

  -- they are shown as the holders of the cells that are asked for
  pub holdings_told : (holdings : List Holding) → holdings ≡ holdings_in l (cells_asked f all)
      → map holding_short (map row_shown expected) ≡ map holding_told holdings
  holdings_told holdings are = grind (arith, cells_told l legal, nightly_same, filter-map)

  -- they are the list of the statement
  pub lists_holdings : ListsHoldings f t (map row_shown expected)
  lists_holdings = (expected, holdings_in_order, refl, small)
