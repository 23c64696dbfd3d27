-- What the rows of a step imply for its options. For `options`.
use Rattle.std.proofs.Common.{◌≡◌, ℕ, ◌+◌, ◌-◌, ◌≤◌, ◌==◌, zero, suc, List, length, min, Some, sym, ap, subst, ◌∙◌, arith, eqb-true, option_map, option_and_then, unwrap_or}
use Rattle.plan.specs.PlanModel.{StepPlan, numbered, option_count, want_at}
use Rattle.ledger.specs.Answer.{State}
use Rattle.ledger.specs.Ledger.{history}
use Rattle.ledger.proofs.Lists.{find-passes}
use Rattle.ledger.proofs.Histories.{follows}
use Rattle.sqlite_rules.specs.Lists.{Has}
use Rattle.sqlite_rules.proofs.ListLemmas.{has_found, has_filtered}
use Rattle.sqlite_rules.proofs.ProbeLemmas.{mapped_has}
use Rattle.desk_sql.specs.Rows.{Tables, StepRow}
use Rattle.desk_sql.specs.FoundRows.{FindsOptions, step_of}
use Rattle.desk_sql.specs.declared.steps.StepFound.{StepFound}
use Rattle.sql_model.specs.ExpectedRows.{is_standing, step_rows}
use Rattle.sql_model.specs.Standing.{StandsFor, IsDesk}
use Rattle.sql_model.proofs.Readings.{options_read, options_there}
use Rattle.sql_model.proofs.OptionRows.{option_row_at}
use Rattle.sql_model.proofs.Taken.{taken_row, row_told}
use Rattle.sql_reads.proofs.GoodPlans.{some_within}
use Rattle.sql_reads.proofs.ReadPlans.{want_one}
use Rattle.sql_reads.specs.OptionChoice.{IsRowChosen, IsTakenChosen, IsNextChoice, IsLastChoice, is_taken_row}
use Rattle.sql_reads.specs.declared.plan_rows.Choice.{Choice}

-- each number of a list has its element
pub numbered_there : {X : Type 0} (xs : List X) (n : ℕ) → 1 ≤ n → n ≤ length xs → (x : X) × (numbered xs n ≡ Some x)
numbered_there xs zero one low = absurd (omega arith)
numbered_there xs (suc i) one low = some_within xs i (omega arith)

module _ (t : Tables) (s : State) (st : StandsFor t s) (desk : IsDesk s) (id step : ℕ) (found : List StepFound)
    (finds : FindsOptions id step t found) (choice : Choice) where
  -- the row with the chosen number is that of the next option
  pub next_told : (used : ℕ) → IsRowChosen found (min (used + 1) (length found)) choice → IsNextChoice id step used s choice
  next_told used chosen a at one within =
      let p = numbered_there a.plan.steps step one within in
      let rows = options_there t s st desk id step a found p.0 at p.1 finds in
      let told = option_row_at id step (is_standing (history s.ledger id)) p.0 found rows in
      let count : option_count a.plan step ≡ length p.0.options =
      ap (λ o. unwrap_or (option_map (λ (x : StepPlan). length x.options) o) 0) p.1 in
      let many : choice.option ≡ min (used + 1) (option_count a.plan step) =
      chosen.is.option_is ∙ ap (min (used + 1)) (told.0 ∙ sym count) in
      let row = told.1 (min (used + 1) (length found) - 1) chosen.row chosen.there in
      let number : min (used + 1) (length found) - 1 + 1 ≡ choice.option =
      (let e : min (used + 1) (length found) - 1 + 1 ≡ min (used + 1) (length found) = omega arith in e ∙ sym chosen.is.option_is) in
      let same : choice.want ≡ row.0 = want_one id step _ _ _ chosen.row choice.want row.0 chosen.is.want row.2 in (
        many,
        ap (option_and_then (λ (x : StepPlan). numbered x.options choice.option)) p.1
            ∙ ap (numbered p.0.options) (sym number) ∙ row.1 ∙ ap Some (sym same),
      )

  -- the row that is marked as taken is that of the option that was taken last
  pub last_told : IsTakenChosen found choice → IsLastChoice id step s choice
  last_told chosen a c at last =
      let row = chosen.row in
      let taken : row.taken ≡ 1 = eqb-true row.taken 1 (find-passes is_taken_row found row chosen.there) in
      let called = step_rows (is_standing (history s.ledger id)) id a.plan in
      let some = subst (λ rows. Has rows (step_of id row)) (options_read t s st desk id step a found at finds)
      (mapped_has (step_of id) found row (has_found is_taken_row found row chosen.there).0) in
      let own = has_filtered (λ (r : StepRow). r.place == step) called (step_of id row) some in
      let place : row.place ≡ step = eqb-true row.place step own.1 in
      let opt : row.opt ≡ c = taken_row a.plan (history s.ledger id) id step c (step_of id row)
      (follows s.ledger desk.legal id a at) last own.0 place taken in
      let told = row_told (is_standing (history s.ledger id)) id a.plan (step_of id row) own.0 in
      let same : choice.want ≡ told.want = want_one id row.place row.opt _ _ row choice.want told.want chosen.is.want told.is in (
        chosen.is.option_is ∙ opt,
        ap (λ n. want_at a.plan n c) (sym place) ∙ ap (want_at a.plan row.place) (sym opt) ∙ told.wanted ∙ ap Some (sym same),
      )
