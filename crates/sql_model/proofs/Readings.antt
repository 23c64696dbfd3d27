-- What each read of the tables says of the state that they represent. For the functions that read.
use Rattle.std.proofs.Common.{◌≡◌, ℕ, ◌+◌, ◌≤◌, ◌==◌, List, [], map, filter, length, take, Option, Some, IsTrue, sym, ap, subst, ◌∙◌, option_map, arith, rules}
use Rattle.std.specs.List.{list_any}
use Rattle.std.specs.List.Sorted.{IsPermutation}
use Rattle.sqlite_trees.proofs.ListLemmas.{map-map, filter_same, all_of}
use Rattle.allotment.specs.Want.{Wanted}
use Rattle.plan.specs.PlanModel.{Planned, StepPlan, numbered, is_plan}
use Rattle.ledger.specs.History.{is_taken}
use Rattle.ledger.specs.Ledger.{Journey, journeys, journey_at, history}
use Rattle.ledger.specs.Answer.{State}
use Rattle.saga_core.specs.Views.{first_unfinished, places_shown}
use Rattle.desk_sql.specs.declared.versions.Version.{Version}
use Rattle.desk_sql.specs.Versions.{number_of}
use Rattle.desk_sql.specs.Rows.{Tables, JourneyRow, EntryRow}
use Rattle.desk_sql.specs.Changes.{AreJourneysBelow}
use Rattle.desk_sql.specs.FoundRows.{IsMeta, answer_of, FindsAnswer, journey_of, FindsJourney, FindsUnfinished, step_of, FindsSteps, FindsOptions, item_of, FindsItems, FindsNextItem, FindsMarks}
use Rattle.desk_sql.specs.Stock.{is_within, night_of, FindsNights}
use Rattle.desk_sql.specs.declared.meta.Meta.{Meta}
use Rattle.desk_sql.specs.declared.answers.KeptAnswer.{KeptAnswer}
use Rattle.desk_sql.specs.declared.journeys.JourneyFound.{JourneyFound}
use Rattle.desk_sql.specs.declared.steps.StepFound.{StepFound}
use Rattle.desk_sql.specs.declared.journeys.ItemFound.{ItemFound}
use Rattle.desk_sql.specs.declared.stock.NightRange.{NightRange}
use Rattle.desk_sql.specs.declared.stock.NightFound.{NightFound}
use Rattle.sql_model.specs.ExpectedRows.{is_standing, option_rows, step_rows, step_rows_of}
use Rattle.sql_model.specs.Standing.{StandsIn, IsDesk}
use Rattle.sql_model.specs.Reading.{Tells, IsAnswerOf, IsJourneyOf, IsBriefOf, item_in, not_taken, IsRangeOf, is_wanted_row, night_told, night_seen}
use Rattle.sql_model.proofs.Orders.{Rises}
use Rattle.sql_model.proofs.Answered.{answer_found}
use Rattle.sql_model.proofs.JourneyRows.{journey_found, journey_begins, next_above}
use Rattle.sql_model.proofs.BriefRows.{unfinished_found}
use Rattle.sql_model.proofs.StepRows.{steps_found_in_order}
use Rattle.sql_model.proofs.OptionRows.{is_at, step_rows_at, options_found_in_order}
use Rattle.sql_model.proofs.NextItems.{items_found, no_item_before, TellsIfNext, next_found, marks_found}
use Rattle.sql_model.proofs.StockRows.{nights_found}
use Rattle.sql_model.proofs.Ranges.{range_row}
use Rattle.sql_model.proofs.PlanReading.{step_rows-not_taken, steps_from_rows}
use Rattle.sql_model.proofs.RecordRows.{plan_good}

module _ {v : Version} (t : Tables) (s : State) (st : StandsIn v t s) (desk : IsDesk s) where
  -- the row of meta counts the events and the journeys
  pub meta_read : (m : Meta) → IsMeta t m
      → (m.version ≡ number_of v) × (m.events ≡ length s.ledger) × (m.journeys ≡ length (journeys s.ledger))
  meta_read m is = search (rules, arith)

  -- the next journey's number is above the number of each journey
  pub next_is_above : AreJourneysBelow (length (journeys s.ledger) + 1) t
  next_is_above = next_above s.ledger t.journey st.journey

  -- the row found under an agent's key matches the reply that is kept there
  pub answer_read : (agent key : List ℕ) (found : Option KeptAnswer) → FindsAnswer agent key t found
      → Tells IsAnswerOf (option_map (answer_of agent key) found) (s.kept agent key)
  answer_read agent key found finds = search (rules, arith, answer_found)

  -- the row found with a number matches the journey with that number
  pub journey_read : (id : ℕ) (found : Option JourneyFound) → FindsJourney id t found
      → Tells (λ (r : JourneyRow) a. (r.id ≡ id) × IsJourneyOf s.ledger r a) (option_map journey_of found) (journey_at s.ledger id)
  journey_read id found finds = search (rules, arith, journey_found)

  -- the row found above a number is that of the first unfinished journey there
  pub unfinished_read : (after : ℕ) (found : Option JourneyFound) → FindsUnfinished after t found
      → Tells IsBriefOf (option_map journey_of found) (first_unfinished s.ledger after)
  unfinished_read after found finds = search (rules, arith, unfinished_found)

  -- the event that began a found journey comes before all of its items
  pub begins_read : (id : ℕ) (found : JourneyFound) → FindsJourney id t (Some found)
      → history (take found.num s.ledger) id ≡ []
  begins_read id found finds =
      let begins = journey_begins s.ledger t.journey id (journey_of found) st.journey finds in
      ap (λ n. history (take n s.ledger) id) begins.2 ∙ no_item_before s.ledger id begins.0 desk.legal begins.1

  -- the items found of a journey are its history, if the search starts after events that are no items
  -- of it; the rows of the table are in order of number
  pub items_read : (id after : ℕ) (found : List ItemFound) → history (take after s.ledger) id ≡ []
      → Rises (λ (e : EntryRow). e.num) t.entries → FindsItems id after t found
      → map (λ (i : ItemFound). item_in (item_of id i)) found ≡ map Some (history s.ledger id)
  items_read id after found none up finds =
      sym (map-map item_in (item_of id) found) ∙ ap (map item_in) finds
      ∙ items_found s.ledger t.entries id after none st.entries up

  -- the row found after so many events is that of the journey's next item
  pub next_read : (id after : ℕ) (found : Option ItemFound) → FindsNextItem id after t found
      → TellsIfNext id 1 after s.ledger (option_map (item_of id) found)
  next_read id after found finds = search (rules, arith, next_found)

  -- the option rows found of a journey are the rows of its plan, in order
  pub steps_read : (id : ℕ) (a : Journey) (found : List StepFound) → journey_at s.ledger id ≡ Some a
      → FindsSteps id t found
      → map (step_of id) found ≡ step_rows (is_standing (history s.ledger id)) id a.plan
  steps_read id a found at finds = search (rules, arith, steps_found_in_order)

  -- the option rows found of a step are the rows of that step of the plan, in order
  pub options_read : (id place : ℕ) (a : Journey) (found : List StepFound) → journey_at s.ledger id ≡ Some a
      → FindsOptions id place t found
      → map (step_of id) found ≡ filter (is_at place) (step_rows (is_standing (history s.ledger id)) id a.plan)
  options_read id place a found at finds = search (rules, arith, options_found_in_order)

  -- the option rows found of a step are those of its options
  pub options_there : (id place : ℕ) (a : Journey) (found : List StepFound) (p : StepPlan) → journey_at s.ledger id ≡ Some a
      → numbered a.plan.steps place ≡ Some p → FindsOptions id place t found
      → map (step_of id) found ≡ option_rows (is_standing (history s.ledger id)) id place p
  options_there id place a found p at there finds =
      options_read id place a found at finds
      ∙ step_rows_at (is_standing (history s.ledger id)) id a.plan place p there

  -- a plan with just these option rows is the journey's
  pub plan_read : (id : ℕ) (a : Journey) (found : List StepFound) (plan : Planned)
      → journey_at s.ledger id ≡ Some a → FindsSteps id t found → IsTrue (is_plan plan)
      → step_rows_of id plan ≡ map not_taken (map (step_of id) found) → plan.tries ≡ a.plan.tries
      → plan ≡ a.plan
  plan_read id a found plan at finds good rows tries =
      let called = ap (map not_taken) (steps_read id a found at finds) in
      let one = rows ∙ called ∙ step_rows-not_taken (is_standing (history s.ledger id)) id a.plan in
      λ i. record { steps = steps_from_rows id plan a.plan good (plan_good s.ledger id a desk.legal at) one i; tries = tries i }

  -- the positions found of a journey are those at which a save-point stands that was taken at run
  -- time
  pub marks_read : (id : ℕ) (found : List ℕ) → FindsMarks id t found → (p : ℕ)
      → list_any (λ q. q == p) found ≡ is_taken (history s.ledger id) p
  marks_read id found finds p = marks_found s.ledger t.mark found id p st.mark finds.same

  -- the nights found of a want are those that the ledger shows of it
  pub nights_read : (r : NightRange) (w : Wanted) (found : List NightFound) → IsRangeOf r w
      → 1 ≤ w.nights → FindsNights r t found → map night_seen found ≡ places_shown s.ledger w
  nights_read r w found is some finds =
      sym (map-map night_told (night_of r) found) ∙ nights_found s.ledger t.stock (map (night_of r) found) w some st.stock
      (subst (λ rows. IsPermutation rows (map (night_of r) found))
      (filter_same (is_within r) (is_wanted_row w) t.stock (all_of _ (range_row r w is) t.stock)) finds.same) finds.rising
