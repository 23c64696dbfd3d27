-- The texts in the rows of a plan that keeps its limits can be read. For `reads::read_plan`.
use Rattle.std.proofs.Common.{◌≡◌, ℕ, suc, List, [], ◌∷◌, map, filter, Bool, true, Some, IsTrue, sym, ap, ◌∙◌, ◌&&◌, flat_map}
use Rattle.std.specs.List.{AllByRecursion, list_all}
use Rattle.std.proofs.lemmas.Bool.{and_parts}
use Rattle.sqlite_trees.proofs.ListLemmas.{all-append}
use Rattle.sqlite_rules.proofs.ListLemmas.{all_has}
use Rattle.allotment.specs.Limits.{is_code, is_night, are_nights, is_count, is_want}
use Rattle.allotment.specs.Want.{Wanted}
use Rattle.plan.specs.PlanModel.{Planned, StepPlan, is_plan, is_step}
use Rattle.plan.proofs.LimitLemmas.{limited, step_limited}
use Rattle.ledger.specs.Answer.{State}
use Rattle.ledger.specs.Ledger.{Journey, journey_at, history}
use Rattle.desk_sql.specs.FoundRows.{FindsSteps, is_step_of}
use Rattle.desk_sql.specs.Readable.{AreWantTexts, HaveWantTexts}
use Rattle.desk_sql.specs.Rows.{Tables}
use Rattle.desk_sql.specs.declared.steps.StepFound.{StepFound}
use Rattle.desk_sql.specs.declared.versions.Version.{Version}
use Rattle.desk_sql.proofs.Members.{permutation_from}
use Rattle.sql_model.specs.ExpectedRows.{counted_from, is_standing, option_row, option_rows, step_rows}
use Rattle.sql_model.specs.Reading.{not_taken}
use Rattle.sql_model.specs.Standing.{IsDesk, StandsIn}
use Rattle.sql_model.proofs.PlanReading.{step_rows-not_taken}
use Rattle.sql_model.proofs.Readings.{steps_read}
use Rattle.sql_model.proofs.RecordRows.{plan_good}
use Rattle.sql_model.proofs.StepRows.{steps_found}
use Rattle.sql_reads.specs.PlanRows.{AreRowsOf}
use Rattle.sql_reads.proofs.GoodStock.{code_text}

module _ (taken : ℕ → ℕ → Bool) (id : ℕ) where
  option_texts : (k n : ℕ) (m : Bool) (ws : List Wanted) → list_all is_want ws ≡ true
      → AllByRecursion AreWantTexts (map (λ (w : ℕ × Wanted). option_row id k m w.0 (taken k w.0) w.1) (counted_from n ws))
  option_texts k n m [] good = tt
  option_texts k n m (w ∷ ws) good =
      let both = and_parts (is_want w) (list_all is_want ws) good in
      let four = and_parts (is_code w.supplier && is_code w.product && is_night w.first && are_nights w.kind w.first w.nights) (is_count w.count) both.0 in
      let three = and_parts (is_code w.supplier && is_code w.product && is_night w.first) (are_nights w.kind w.first w.nights) four.0 in
      let two = and_parts (is_code w.supplier && is_code w.product) (is_night w.first) three.0 in
      let codes = and_parts (is_code w.supplier) (is_code w.product) two.0 in
      ((code_text w.supplier codes.0, code_text w.product codes.1), option_texts k (suc n) m ws both.1)

  step_texts : (k : ℕ) (steps : List StepPlan) → list_all is_step steps ≡ true
      → AllByRecursion AreWantTexts (flat_map (λ (s : ℕ × StepPlan). option_rows taken id s.0 s.1) (counted_from k steps))
  step_texts k [] good = tt
  step_texts k (s ∷ steps) good =
      let both = and_parts (is_step s) (list_all is_step steps) good in
      all-append AreWantTexts (option_rows taken id k s) (flat_map (λ (t : ℕ × StepPlan). option_rows taken id t.0 t.1) (counted_from (suc k) steps))
      (option_texts k 1 s.is_marked s.options (step_limited s both.0).each_want) (step_texts (suc k) steps both.1)

  pub plan_texts : (plan : Planned) → IsTrue (is_plan plan) → AllByRecursion AreWantTexts (step_rows taken id plan)
  plan_texts plan good = step_texts 1 plan.steps (limited plan good).each_step

-- the texts of the options of a journey can be read
pub want_texts : {v : Version} (t : Tables) (s : State) → StandsIn v t s → IsDesk s → (id : ℕ) (a : Journey) → journey_at s.ledger id ≡ Some a
    → HaveWantTexts id t
want_texts t s st desk id a at x has =
    let called = step_rows (is_standing (history s.ledger id)) id a.plan in
    let there = permutation_from called (filter (is_step_of id) t.step) x (steps_found s.ledger t.step id a st.step at) has in
    all_has AreWantTexts called x (plan_texts (is_standing (history s.ledger id)) id a.plan (plan_good s.ledger id a desk.legal at)) there

-- the rows that are found are those of the journey's plan
pub plan_rows : {v : Version} (t : Tables) (s : State) → StandsIn v t s → IsDesk s → (id : ℕ) (a : Journey) (found : List StepFound)
    → journey_at s.ledger id ≡ Some a → FindsSteps id t found → AreRowsOf id a.plan found
plan_rows t s st desk id a found at finds = record {
  good = plan_good s.ledger id a desk.legal at;
  rows_are = sym (ap (map not_taken) (steps_read t s st desk id a found at finds) ∙ step_rows-not_taken (is_standing (history s.ledger id)) id a.plan);
}
