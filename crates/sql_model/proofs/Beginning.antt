-- The rows that the begin of a journey writes represent its outcome. For the begin of a journey over tables.
use Rattle.std.proofs.Common.{◌≡◌, ℕ, ◌+◌, ◌<◌, ◌≤◌, List, [], ◌∷◌, ◌++◌, length, map, false, Option, None, IsTrue, refl, ap, ◌∙◌, arith, ◌==◌, flat_map, rules}
use Rattle.std.specs.Prelude.{unwrap_or}
use Rattle.std.proofs.lemmas.Bool.Decides.{nat_tests}
use Rattle.std.proofs.lemmas.List.Sorted.{IsPermutation-append_left}
use Rattle.plan.proofs.LimitLemmas.{limited}
use Rattle.allotment.specs.declared.cells.Cell.{Cell}
use Rattle.plan.specs.PlanModel.{Planned, is_plan, step_count}
use Rattle.commands.specs.Asks.{Asked}
use Rattle.commands.specs.Names.{house}
use Rattle.commands.specs.Request.{Begin}
use Rattle.commands.specs.declared.items.Phase.TheVariants.{Run}
use Rattle.commands.specs.declared.replies.Reply.TheVariants.{Begun as Begins}
use Rattle.ledger.specs.History.{phase_at, is_taken}
use Rattle.ledger.specs.Ledger.{Event, Began, Journey, journeys, history, IsLegal}
use Rattle.ledger.specs.Answer.{State, most_events, asker, kept_for, outcome}
use Rattle.ledger.proofs.Events.{journeys-began, journey_count-began, journey_at-next, history-began, history-none}
use Rattle.ledger.proofs.Allotments.{allotment-began}
use Rattle.ledger.proofs.PlacesMoved.{held-began}
use Rattle.saga_core.specs.Views.{places_of, cursor_of}
use Rattle.desk_sql.specs.Rows.{Tables}
use Rattle.desk_sql.specs.Changes.{at_start, begun as first_row, adds_journey}
use Rattle.sql_model.specs.ExpectedRows.{counted_from, Begun, begun, cursor_row, journey_row_of, journeys_called, is_standing, step_rows, step_rows_of, steps_called}
use Rattle.sql_model.specs.Standing.{StandsFor}
use Rattle.sql_model.specs.Beginning.{adds_steps, with_journey, with_answer}
use Rattle.sql_model.proofs.Numbering.{map_counted-last, flat_map_counted-last}
use Rattle.sql_model.proofs.EventRows.{begun-more, length-begun, event_stands, stock-stays, marks-stay}
use Rattle.sql_model.proofs.JourneyRows.{row_in}
use Rattle.sql_model.proofs.Keeping.{outcome-event}

-- a plan that keeps the limits has a step
pub has_step : (plan : Planned) → IsTrue (is_plan plan) → 1 ≤ step_count plan
has_step plan good = (limited plan good).some_steps

pub start_phase : (n : ℕ) → 1 ≤ n → phase_at n 0 false None ≡ Run
start_phase n some = let off : (0 == n) ≡ false = grind (arith, nat_tests) in rw off refl

-- a journey without items runs, at position 0
pub cursor-start : (plan : Planned) → 1 ≤ step_count plan
    → cursor_row (cursor_of plan []) ≡ at_start
cursor-start plan some = search (rules, arith, start_phase)

module _ (l : List Event) (legal : IsLegal l) (agent : List ℕ) (plan : Planned)
    (good : IsTrue (is_plan plan)) where
  -- the ledger with the new journey
  abbrev next : List Event
  next = l ++ Began agent plan ∷ []

  -- the number of the new journey
  abbrev id : ℕ
  id = length (journeys l) + 1

  -- the journey as it was begun
  abbrev one : Begun
  one = record { num = length l + 1; journey = record { agent = agent; plan = plan } }

  -- a journey that was never begun has no items
  none_yet : history l id ≡ []
  none_yet = history-none l id legal (journey_at-next l)

  -- the row of the new journey is appended
  journeys-begun : journeys_called next ≡ journeys_called l ++ first_row id (length l + 1) agent (step_count plan) plan.tries ∷ []
  journeys-begun =
      let size = length-begun l in
      (λ i. map (λ (b : ℕ × Begun). journey_row_of (history-began l agent plan b.0 i) b.0 b.1)
      (counted_from 1 (begun-more l (Began agent plan) i)))
      ∙ map_counted-last (row_in l) (begun l) one id (omega arith)
      ∙ ap (λ h. journeys_called l ++ journey_row_of h id one ∷ []) none_yet
      ∙ ap (λ c. journeys_called l ++ record (first_row id (length l + 1) agent (step_count plan) plan.tries) { cursor = c } ∷ [])
      (cursor-start plan (has_step plan good))

  -- the rows of the new plan are appended
  steps-begun : steps_called next ≡ steps_called l ++ step_rows_of id plan
  steps-begun =
      let rows = λ (m : List Event) (a : ℕ × Journey). step_rows (is_standing (history m a.0)) a.0 a.1.plan in
      ap (λ js. flat_map (rows next) (counted_from 1 js)) (journeys-began l agent plan)
      ∙ (λ i. flat_map (λ (a : ℕ × Journey). step_rows (is_standing (history-began l agent plan a.0 i)) a.0 a.1.plan)
      (counted_from 1 (journeys l ++ one.journey ∷ [])))
      ∙ flat_map_counted-last (rows l) (journeys l) one.journey id (omega arith)
      ∙ ap (λ h. steps_called l ++ step_rows (is_standing h) id plan) none_yet

  -- no places change
  places-begun : (x : Cell) → places_of next x ≡ places_of l x
  places-begun x = search (rules, arith, allotment-began, held-began)

-- a ledger has no more journeys than events
pub journeys-few : (l : List Event) → length (journeys l) ≤ length l
journeys-few [] = omega arith
journeys-few (e ∷ l) = search (rules, arith, journeys-few l)

-- the agent that begins a journey
abbrev pub beginner : Option Asked → List ℕ
beginner ask = unwrap_or (asker ask) house

-- the rows that a begin writes represent its outcome
pub begin_stands : (t : Tables) (s : State) (ask : Option Asked) (plan : Planned) → StandsFor t s
    → IsLegal s.ledger → IsTrue (is_plan plan) → length s.ledger < most_events
    → kept_for s ask ≡ None
    → StandsFor (with_answer ask (Begins (length (journeys s.ledger) + 1)) (with_journey (length (journeys s.ledger) + 1) (length s.ledger + 1) (beginner ask) plan t)) (outcome s ask (Begin plan)).state
begin_stands t s ask plan st legal good room new =
    let l = s.ledger in
    let id = length (journeys l) + 1 in
    let agent = beginner ask in
    let row = first_row id (length l + 1) agent (step_count plan) plan.tries in
    rw (outcome-event s ask (Begin plan) new (Began agent plan) good room refl).1
    (event_stands t (adds_steps (step_rows_of id plan) (adds_journey row t)) s ask (Begins id) (Began agent plan) id st new
    (journey_count-began l agent plan)
    (record {
      stock = stock-stays l (next l legal agent plan good) t.stock (places-begun l legal agent plan good) st.stock;
      journey =
          rw (journeys-begun l legal agent plan good)
          (IsPermutation-append_left (row ∷ []) (journeys_called l) t.journey st.journey);
      step =
          rw (steps-begun l legal agent plan good)
          (IsPermutation-append_left (step_rows_of id plan) (steps_called l) t.step st.step);
      mark =
          marks-stay l (next l legal agent plan good) t.mark (λ j p. ap (λ h. is_taken h p) (history-began l agent plan j)) st.mark;
    }))
