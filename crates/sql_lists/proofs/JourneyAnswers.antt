-- The journeys that a statement asks for are the only answer of its query. For `hand_unfinished`, `hand_owned` and `hand_journeys`.
use Rattle.std.proofs.Common.{◌≡◌, ℕ, ◌<◌, ◌^◌, ◌&&◌, List, [], ◌∷◌, ◌++◌, map, filter, Bool, Option, None, Some, refl, sym, ap, subst, ◌∙◌, arith, is_some, nat_le}
use Rattle.sqlite.specs.Order.{Row}
use Rattle.sqlite.specs.Term.{col}
use Rattle.sqlite.specs.Listing.{understood}
use Rattle.sqlite.specs.State.{State}
use Rattle.sqlite.specs.declared.types.Value.TheVariants.{Text}
use Rattle.sqlite_tied.specs.Compute.{everything}
use Rattle.sqlite_trees.proofs.ListLemmas.{ascending-filter, ascending_weaker}
use Rattle.saga_core.specs.CellFilters.{is_name_asked}
use Rattle.saga_core.specs.declared.journey_filters.JourneyFilter.{JourneyFilter}
use Rattle.saga_core.specs.declared.journey_filters.JourneyState.{JourneyState}
use Rattle.saga_core.specs.declared.journey_filters.Phases.{Phases}
use Rattle.desk_sql.specs.FoundRows.{is_owned_after, journey_of, nine_of, shows_journey}
use Rattle.desk_sql.specs.Lists.{IsListed}
use Rattle.desk_sql.specs.Meanings.{journey_project, rising}
use Rattle.desk_sql.specs.Rows.{whole, JourneyRow, journey_row}
use Rattle.desk_sql.specs.RemainingRows.{IsByNumber, journey_shown}
use Rattle.desk_sql.specs.declared.versions.Version.TheVariants.{One, Two}
use Rattle.desk_sql.specs.declared.journeys.JourneyFound.{JourneyFound}
use Rattle.desk_sql.proofs.Answering.{numbered_answers}
use Rattle.desk_sql.proofs.DeskQueries.{same_journey}
use Rattle.desk_sql.proofs.OneList.{one_list}
use Rattle.desk_sql.proofs.Ordered.{whole_last}
use Rattle.desk_sql.proofs.Reading.{passes}
use Rattle.desk_sql.proofs.Testing.{and_true, eq_text, ge_whole, gt_whole, le_whole}
use Rattle.sql_lists.specs.CellLists.{named}
use Rattle.sql_lists.specs.JourneyLists.{JourneyList, OwnedAbove, InPhases, ListsJourneys, journey_list, journey_list_tests, least_phase, most_phase, state_number}
use Rattle.sql_lists.proofs.HandedRows.{IsOnlyAnswer}
use Rattle.sql_lists.proofs.ListMeanings.{TakesEach}

-- the journeys that pass the tests of a statement, in order, are its answer
pub journeys_only : (s : JourneyList) (params : Row) (test : JourneyRow → Bool)
    → ((j : JourneyRow) → passes (journey_list_tests s) params (journey_row j) ≡ test j)
    → (seen : State) → IsOnlyAnswer journey_list s params (λ t later. IsListed IsByNumber (filter test t.journey) later) seen
journeys_only s params test test_is seen v t sees later is rows a =
    let table = sees.rows.journey in
    let some = filter test t.journey in
    let it = numbered_answers 6 (journey_list_tests s) journey_project ((col 1 0, rising) ∷ []) seen.now.trees
    params rows a refl (λ (j : JourneyRow). j.id) journey_row t.journey table test test_is in
    let rise = ascending-filter (λ (a b : JourneyRow). a.id < b.id) test t.journey table.rise in
    let values : it.values ≡ some = one_list (λ (j : JourneyRow). j.id) some it.values rise it.same
    (ascending_weaker _ _ (λ a b up. whole_last a.id b.id up) it.values it.rising) in
    let listed : later ≡ some = one_list (λ (j : JourneyRow). j.id) some later rise is.same is.rising in
    let shown : rows ≡ map journey_shown it.values = it.rows_are in
    shown ∙ ap (map journey_shown) (values ∙ sym listed)

-- the test of an agent's journeys above a number
pub owned_test : (agent : List ℕ) (after : ℕ) (j : JourneyRow)
    → passes (journey_list_tests OwnedAbove) (whole after ∷ Text agent ∷ []) (journey_row j) ≡ is_owned_after agent after j
owned_test agent after j = simp (gt_whole, eq_text) (simp and_true)

-- the numbers of phases fit the store's integers
state_small : (state : JourneyState) → state_number state < 2 ^ 63
state_small state = grind arith

pub least_small : (phases : Phases) → least_phase phases < 2 ^ 63
least_small phases = grind (arith, state_small)

pub most_small : (phases : Phases) → most_phase phases < 2 ^ 63
most_small phases = grind (arith, state_small)

module _ (least most : ℕ) where
  -- the test of a row of a filter, and the parameters
  abbrev pub asked : Option (List ℕ) → JourneyRow → Bool
  asked agent j = is_name_asked agent j.agent && (nat_le least j.cursor.phase && nat_le j.cursor.phase most)

  abbrev pub params : Option (List ℕ) → Row
  params agent = named agent ++ (whole least ∷ whole most ∷ [])

  asked_is : (agent : Option (List ℕ)) (j : JourneyRow)
      → passes (journey_list_tests (InPhases (is_some agent))) (params agent) (journey_row j) ≡ asked agent j
  asked_is None j = simp (ge_whole, le_whole) (simp and_true)
  asked_is (Some agent) j = simp (eq_text, ge_whole, le_whole) (simp and_true)

  pub journeys_take : (agent : Option (List ℕ)) → TakesEach (InPhases (is_some agent)) (params agent)
  unfolding understood everything
  journeys_take None One extra = record { whole = refl; typed = refl }
  journeys_take None Two extra = record { whole = refl; typed = refl }
  journeys_take (Some agent) One extra = record { whole = refl; typed = refl }
  journeys_take (Some agent) Two extra = record { whole = refl; typed = refl }

-- the journeys that a filter lets through are the answer of its statement
pub filter_only : (f : JourneyFilter) (agent : Option (List ℕ)) → f.agent ≡ agent → (seen : State)
    → IsOnlyAnswer journey_list (InPhases (is_some agent)) (params (least_phase f.phases) (most_phase f.phases) agent) (ListsJourneys f) seen
filter_only f agent one seen v t sees later is =
    let test = asked (least_phase f.phases) (most_phase f.phases) in
    journeys_only (InPhases (is_some agent)) (params (least_phase f.phases) (most_phase f.phases) agent) (test agent)
    (asked_is (least_phase f.phases) (most_phase f.phases) agent) seen v t sees later
    (subst (λ a. IsListed IsByNumber (filter (test a) t.journey) later) one is)

-- the journey that was read of a row is the one that the row shows
pub journey_back : (row : Row) (f : JourneyFound) (j : JourneyRow) → shows_journey f ≡ nine_of row → row ≡ journey_shown j
    → Some (journey_of f) ≡ Some j
journey_back row f j read is = ap Some (same_journey f j (read ∙ ap nine_of is))
