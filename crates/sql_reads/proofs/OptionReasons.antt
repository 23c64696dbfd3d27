-- An option of a step of a journey can be chosen by the rows of the step. For `options`.
use Rattle.std.proofs.Common.{◌≡◌, ℕ, zero, suc, ◌==◌, List, [], ◌∷◌, Bool, true, Some, inl, inr, refl, sym, ap, subst, ◌∙◌, arith, eqb-true, eq-eqb, nat_le, leb-true, find, slice_get, rules, false}
use Rattle.std.specs.List.{list_all}
use Rattle.std.proofs.lemmas.Bool.{and_parts, cases_Bool}
use Rattle.sqlite_rules.specs.Lists.{Has}
use Rattle.sqlite_rules.proofs.ListLemmas.{all_from, has_filtered, has_found, has_kept, has_right, test_has}
use Rattle.sqlite_rules.proofs.ProbeLemmas.{has_mapped, mapped_has}
use Rattle.allotment.specs.Want.{Wanted}
use Rattle.plan.specs.PlanModel.{is_step, is_marked_at, numbered, option_count}
use Rattle.plan.proofs.LimitLemmas.{few_options, limited, step_limited}
use Rattle.ledger.specs.Answer.{State}
use Rattle.ledger.specs.History.{net}
use Rattle.ledger.specs.Ledger.{Journey, journey_at, history}
use Rattle.ledger.proofs.Lists.{find-passes, last_of-is}
use Rattle.ledger.proofs.Histories.{follows, is_option_of}
use Rattle.desk_sql.specs.Rows.{Tables, StepRow}
use Rattle.desk_sql.specs.FoundRows.{FindsOptions, is_option_of as is_of_option, is_step_of, step_of}
use Rattle.desk_sql.specs.Readable.{HaveOptionTexts}
use Rattle.desk_sql.specs.declared.steps.StepFound.{StepFound}
use Rattle.sql_model.specs.ExpectedRows.{is_standing, option_row, step_rows}
use Rattle.sql_model.specs.Standing.{StandsFor, IsDesk}
use Rattle.sql_model.proofs.OptionRows.{option_row_at}
use Rattle.sql_model.proofs.Readings.{options_read, options_there}
use Rattle.sql_model.proofs.RecordRows.{plan_good}
use Rattle.sql_model.proofs.Plans.{want_good}
use Rattle.sql_model.proofs.Taken.{last_wanted, row_told, taken_row, taken_row_there}
use Rattle.sql_reads.specs.PlanRows.{TellsWant}
use Rattle.sql_reads.proofs.GoodTexts.{want_texts}
use Rattle.sql_reads.specs.OptionChoice.{AreOfStep, HasStep, HasTaken, IsOfOption, TakesLast, is_taken_row}
use Rattle.sql_reads.proofs.ChoiceLemmas.{numbered_there}

-- where each element passes, so does the one with a number
numbered_passes : {X : Type 0} (p : X → Bool) (xs : List X) (n : ℕ) (x : X) → numbered xs n ≡ Some x → list_all p xs ≡ true → p x ≡ true
numbered_passes p xs zero x e all = cc
numbered_passes {X} p xs (suc i) x e all = go xs i e all
  where
    go : (ys : List X) (k : ℕ) → slice_get ys k ≡ Some x → list_all p ys ≡ true → p x ≡ true
    go [] k there each = cc
    go (y ∷ ys) zero there each = let is : y ≡ x = cc in ap p (sym is) ∙ (and_parts (p y) (list_all p ys) each).0
    go (y ∷ ys) (suc k) there each = go ys k there (and_parts (p y) (list_all p ys) each).1

-- where an element passes, the first that passes is found
found_first : {X : Type 0} (p : X → Bool) (xs : List X) (x : X) → Has xs x → p x ≡ true → (y : X) × (find p xs ≡ Some y)
found_first p [] x h passes = absurd h
found_first p (z ∷ xs) x h passes = elim (cases_Bool (p z)) [
  | inl on ↦ (z, rw on refl)
  | inr off ↦ elim h [
    | inl same ↦ absurd (let bad : true ≡ false = sym passes ∙ ap p same ∙ off in cc)
    | inr later ↦ (let it = found_first p xs x later passes in (it.0, rw off it.1))
  ]
]

-- the row of an option tells its want
tells_of : (id k o : ℕ) (m t : Bool) (row : StepFound) (w : Wanted) → step_of id row ≡ option_row id k m o t w → TellsWant row w
tells_of id k o m t row w e = search (rules, arith)

-- the texts of the options of a step can be read
pub option_texts : (t : Tables) (s : State) → StandsFor t s → IsDesk s → (id step : ℕ) (a : Journey) → journey_at s.ledger id ≡ Some a
    → HaveOptionTexts id step t
option_texts t s st desk id step a at x has =
    let both = has_filtered (is_of_option id step) t.step x has in
    let own = (and_parts (is_step_of id x) (x.place == step) both.1).0 in
    want_texts t s st desk id a at x (has_kept (is_step_of id) t.step x both.0 own)

module _ (t : Tables) (s : State) (st : StandsFor t s) (desk : IsDesk s) (id step : ℕ) (found : List StepFound)
    (finds : FindsOptions id step t found) where
  -- each row that is found is that of a want of the plan
  row_of : (a : Journey) → journey_at s.ledger id ≡ Some a → (row : StepFound) → Has found row
      → Has (step_rows (is_standing (history s.ledger id)) id a.plan) (step_of id row) × (row.place ≡ step)
  row_of a at row h =
      let called = step_rows (is_standing (history s.ledger id)) id a.plan in
      let some = subst (λ rows. Has rows (step_of id row)) (options_read t s st desk id step a found at finds)
      (mapped_has (step_of id) found row h) in
      let own = has_filtered (λ (r : StepRow). r.place == step) called (step_of id row) some in
      (own.0, eqb-true row.place step own.1)

  of_option : (a : Journey) → journey_at s.ledger id ≡ Some a → (row : StepFound) → Has found row → IsOfOption row
  of_option a at row h =
      let taken = is_standing (history s.ledger id) in
      let told = row_told taken id a.plan (step_of id row) (row_of a at row h).0 in
      record {
        want = told.want;
        good = want_good a.plan row.place row.opt told.want (plan_good s.ledger id a desk.legal at) told.wanted;
        told = tells_of id row.place row.opt (is_marked_at a.plan row.place) (taken row.place row.opt) row told.want told.is;
      }

  -- the rows of a step that a journey has
  pub of_step : HasStep id step s → AreOfStep found
  of_step has =
      let a = has.journey in
      let at = has.at in
      let p = numbered_there a.plan.steps step has.from_one has.within in
      let rows = options_there t s st desk id step a found p.0 at p.1 finds in
      let many = (option_row_at id step (is_standing (history s.ledger id)) p.0 found rows).0 in
      let good = plan_good s.ledger id a desk.legal at in
      let limits = step_limited p.0 (numbered_passes is_step a.plan.steps step p.0 p.1 (limited a.plan good).each_step) in
      record {
        some = omega (arith, many, limits.some_options);
        few = omega (arith, many, limits.few_options);
        wants = all_from IsOfOption found (λ row h. of_option a at row h);
      }

  -- the last step that stands has a row that is marked as taken
  pub has_taken : TakesLast id step s → HasTaken found
  has_taken last =
      let a = last.journey in
      let at = last.at in
      let c = last.option in
      let h = history s.ledger id in
      let f = follows s.ledger desk.legal id a at in
      let w = last_wanted a.plan h step c f last.last in
      let called = step_rows (is_standing h) id a.plan in
      let row = option_row id step (is_marked_at a.plan step) c true w.0 in
      let there = taken_row_there a.plan h id step c w.0 last.last w.1 in
      let kept = has_kept (λ (r : StepRow). r.place == step) called row there (eq-eqb step step refl) in
      let some = has_mapped (step_of id) found row
      (subst (λ rows. Has rows row) (sym (options_read t s st desk id step a found at finds)) kept) in
      let taken : some.0.taken ≡ 1 = sym (ap (λ (r : StepRow). r.taken) some.2) in
      let first = found_first is_taken_row found some.0 some.1 (eq-eqb some.0.taken 1 taken) in
      let y = first.0 in
      let has = (has_found is_taken_row found y first.1).0 in
      let own = row_of a at y has in
      let opt : y.opt ≡ c = taken_row a.plan h id step c (step_of id y) f last.last own.0 own.1
      (eqb-true y.taken 1 (find-passes is_taken_row found y first.1)) in
      let cut = last_of-is (net h) (step, c) last.last in
      let stands = subst (λ ts. Has ts (step, c)) (sym cut.1) (has_right cut.0 ((step, c) ∷ []) (step, c) (inl refl)) in
      let within = test_has (is_option_of a.plan) (net h) (step, c) f.options stands in
      let low = leb-true c (option_count a.plan step) (and_parts (nat_le 1 c) (nat_le c (option_count a.plan step)) within).1 in
      let few = few_options a.plan step (plan_good s.ledger id a desk.legal at) in
      record {
        row = y;
        there = first.1;
        few = omega (arith, opt, low, few);
        want = of_option a at y has;
      }
