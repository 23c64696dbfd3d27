-- The rows of a desk keep the limits of what a write asks of them: each journey has its row, texts are short, and no row has
-- the number of the next event or of the next journey. For the events that a desk permits.
use Rattle.std.proofs.Common.{◌≡◌, ◌==◌, ◌+◌, ◌<◌, ◌≤◌, ℕ, suc, List, length, true, false, Bool, IsTrue, inl, inr, [], ◌∷◌, ◌∙◌, sym, ap, subst, arith, eqb-true, leb-true, ◌&&◌, nat_le, filter_map, IfSome, Some}
use Rattle.std.specs.List.{AllByRecursion, list_all}
use Rattle.std.proofs.lemmas.Bool.{and_parts, false_from_ne_true}
use Rattle.sqlite_trees.proofs.ListLemmas.{all-flat_map, all-permutation}
use Rattle.sqlite_rules.specs.Lists.{Has}
use Rattle.sqlite_rules.proofs.ListLemmas.{all_from, has_kept}
use Rattle.sqlite_rules.proofs.ProbeLemmas.{has_mapped}
use Rattle.allotment.specs.Limits.{is_between, is_code, is_count, is_night, is_want, is_word, are_nights, longest_code}
use Rattle.allotment.specs.Want.{Wanted}
use Rattle.plan.specs.PlanModel.{Planned, is_plan}
use Rattle.commands.specs.Limits.{longest_agent}
use Rattle.commands.specs.Names.{is_agent, is_agent_byte}
use Rattle.ledger.specs.Answer.{State}
use Rattle.ledger.specs.Ledger.{Event, Loaded, Began, Did, Journey, batches_named, history, journey_at, journeys}
use Rattle.ledger.proofs.PlacesMoved.{number_within}
use Rattle.desk_sql.specs.FoundRows.{is_named}
use Rattle.desk_sql.specs.Rows.{Tables, BatchRow, JourneyRow, StepRow}
use Rattle.desk_sql.specs.Writable.{HasJourney, IsShort}
use Rattle.desk_sql.proofs.Members.{permutation_from, permutation_to}
use Rattle.sql_model.specs.ExpectedRows.{batch_row_of, batches_called, begun, counted_from, is_standing, journeys_called, step_rows, steps_called}
use Rattle.sql_model.specs.Spelling.{IsSpelled}
use Rattle.sql_model.specs.Standing.{IsDesk, StandsFor}
use Rattle.sql_model.proofs.JourneyRows.{journey_has, journey_told, row_in}
use Rattle.sql_model.proofs.Numbering.{counted_stands}
use Rattle.sql_model.proofs.RecordRows.{plan_good}
use Rattle.sql_reads.proofs.GoodStock.{good_row}
use Rattle.sql_reads.proofs.ReadReasons.{number_low}
use Rattle.sql_model.proofs.Batches.{batch_found}
use Rattle.sql_model.proofs.Plans.{want_good}
use Rattle.sql_model.proofs.Taken.{row_told}
use Rattle.sql_writes.specs.Permits.{HasNoOptions, HaveShortAgents, HaveShortCells, HaveShortOptions}

-- Texts.

-- a word has at most so many bytes
pub word_within : (passes : ℕ → Bool) (most : ℕ) (text : List ℕ) → is_word passes most text ≡ true → length text ≤ most
word_within passes most text word =
    let parts = and_parts (is_between 1 most (length text)) (list_all passes text) word in
    leb-true (length text) most (and_parts (nat_le 1 (length text)) (nat_le (length text) most) parts.0).1

-- a supplier or a product has at most 8
pub code_within : (text : List ℕ) → is_code text ≡ true → length text ≤ longest_code
code_within text good = word_within _ longest_code text good

-- both names of a want are codes
pub record HasCodes (w : Wanted) : Type 0 where
  pub supplier : is_code w.supplier ≡ true
  pub product : is_code w.product ≡ true

pub want_codes : (w : Wanted) → is_want w ≡ true → HasCodes w
want_codes w good =
    let four = (and_parts (is_code w.supplier && is_code w.product && is_night w.first && are_nights w.kind w.first w.nights) (is_count w.count) good).0 in
    let three = (and_parts (is_code w.supplier && is_code w.product && is_night w.first) (are_nights w.kind w.first w.nights) four).0 in
    let two = (and_parts (is_code w.supplier && is_code w.product) (is_night w.first) three).0 in
    let codes = and_parts (is_code w.supplier) (is_code w.product) two in
    record { supplier = codes.0; product = codes.1 }

-- the texts of an option fit
abbrev HasShortTexts : StepRow → Type 0
HasShortTexts r = IsShort (length r.supplier + length r.product)

-- and so do those of each option of a plan
plan_short : (taken : ℕ → ℕ → Bool) (id : ℕ) (plan : Planned) → IsTrue (is_plan plan) → AllByRecursion HasShortTexts (step_rows taken id plan)
plan_short taken id plan good =
    all_from HasShortTexts (step_rows taken id plan)
    (λ r has.
    let told = row_told taken id plan r has in
    let codes = want_codes told.want (want_good plan r.place r.opt told.want good told.wanted) in
    let supplier : length r.supplier ≡ length told.want.supplier = ap (λ (x : StepRow). length x.supplier) told.is in
    let product : length r.product ≡ length told.want.product = ap (λ (x : StepRow). length x.product) told.is in
    let first = code_within told.want.supplier codes.supplier in
    let second = code_within told.want.product codes.product in
    omega (arith, supplier, product, first, second))

-- the option is not one of the journey with this number
abbrev IsOfAnother : ℕ → StepRow → Type 0
IsOfAnother n r = (r.journey == n) ≡ false

-- Numbers of events.

-- no batch was loaded by an event after the last one
batch_low : (first : ℕ) (l : List Event) (b : BatchRow)
    → Has (filter_map (λ (e : ℕ × Event). batch_row_of e.0 e.1) (counted_from first l)) b → b.num < first + length l
batch_low first [] b h = absurd h
batch_low first (Began agent plan ∷ l) b h = let low = batch_low (suc first) l b h in omega (arith, low)
batch_low first (Did journey item ∷ l) b h = let low = batch_low (suc first) l b h in omega (arith, low)
batch_low first (Loaded name rows ∷ l) b (inl is) =
    let number : b.num ≡ first = ap (λ (x : BatchRow). x.num) is in omega (arith, number)
batch_low first (Loaded name rows ∷ l) b (inr h) = let low = batch_low (suc first) l b h in omega (arith, low)

-- The rows of tables that represent a state.

module _ (t : Tables) (s : State) (st : StandsFor t s) where
  -- each journey has its row
  pub has_journey : (id : ℕ) (a : Journey) → journey_at s.ledger id ≡ Some a → HasJourney id t
  has_journey id a at =
      let row = journey_has s.ledger id a at in
      (row.0, permutation_to (journeys_called s.ledger) t.journey row.0 st.journey row.1, row.2)

  -- the agent of each journey fits
  pub short_agents : IsSpelled s.ledger → HaveShortAgents t
  short_agents spelled =
      all_from _ t.journey
      (λ j has.
      let told = journey_told s.ledger j (permutation_from (journeys_called s.ledger) t.journey j st.journey has) in
      let good : IsTrue (is_agent told.0.agent) =
      subst (λ o. IfSome o (λ (a : Journey). IsTrue (is_agent a.agent))) told.1 (spelled.agents j.id) in
      let few = word_within is_agent_byte longest_agent told.0.agent good in
      let same : length j.agent ≡ length told.0.agent = ap length told.2.agent in
      omega (arith, few, same))

  -- no journey was begun by the next event
  pub journeys_unnumbered : AllByRecursion (λ (j : JourneyRow). (j.num == length s.ledger + 1) ≡ false) t.journey
  journeys_unnumbered =
      all_from _ t.journey
      (λ j has.
      let called = permutation_from (journeys_called s.ledger) t.journey j st.journey has in
      let b = has_mapped (row_in s.ledger) (counted_from 1 (begun s.ledger)) j called in
      let at = counted_stands 1 (begun s.ledger) b.0 b.1 in
      let low = number_low s.ledger (suc at.place) b.0.1 at.there in
      let num : j.num ≡ b.0.1.num = ap (λ (x : JourneyRow). x.num) b.2 in
      false_from_ne_true (j.num == length s.ledger + 1)
      (λ on. let same = eqb-true j.num (length s.ledger + 1) on in omega (arith, same, num, low)))

  -- no batch was loaded by the next event
  pub batches_unnumbered : AllByRecursion (λ (b : BatchRow). (b.num == length s.ledger + 1) ≡ false) t.batch
  batches_unnumbered =
      all_from _ t.batch
      (λ b has.
      let low = batch_low 1 s.ledger b (permutation_from (batches_called s.ledger) t.batch b st.batch has) in
      false_from_ne_true (b.num == length s.ledger + 1)
      (λ on. let same = eqb-true b.num (length s.ledger + 1) on in omega (arith, same, low)))

  -- the rows of the plan of a journey with its number
  abbrev plan_rows : ℕ × Journey → List StepRow
  plan_rows p = step_rows (is_standing (history s.ledger p.0)) p.0 p.1.plan

  -- the options of no journey have the next journey's number
  pub next_has_no_options : HasNoOptions (length (journeys s.ledger) + 1) t
  next_has_no_options =
      all-permutation (IsOfAnother (length (journeys s.ledger) + 1)) (steps_called s.ledger) t.step st.step
      (all-flat_map (IsOfAnother (length (journeys s.ledger) + 1)) plan_rows (counted_from 1 (journeys s.ledger))
      (all_from (λ (p : ℕ × Journey). AllByRecursion (IsOfAnother (length (journeys s.ledger) + 1)) (plan_rows p)) (counted_from 1 (journeys s.ledger))
      (λ p has.
      let at = counted_stands 1 (journeys s.ledger) p has in
      let within = (number_within s.ledger (suc at.place) p.1 at.there).1 in
      let number = at.number in
      all_from (IsOfAnother (length (journeys s.ledger) + 1)) (plan_rows p)
      (λ r there.
      let told = row_told (is_standing (history s.ledger p.0)) p.0 p.1.plan r there in
      let own : r.journey ≡ p.0 = ap (λ (x : StepRow). x.journey) told.is in
      false_from_ne_true (r.journey == length (journeys s.ledger) + 1)
      (λ on.
      omega (arith, eqb-true r.journey (length (journeys s.ledger) + 1) on, own, number, within))))))

  module _ (desk : IsDesk s) where
    -- the texts of each cell fit
    pub short_cells : HaveShortCells t
    short_cells =
        all_from _ t.stock
        (λ r has.
        let good = good_row s.ledger desk.legal t.stock st.stock r has in
        let supplier = code_within r.supplier good.supplier in
        let product = code_within r.product good.product in
        omega (arith, supplier, product))

    -- the texts of each option fit
    pub short_options : HaveShortOptions t
    short_options =
        all-permutation HasShortTexts (steps_called s.ledger) t.step st.step
        (all-flat_map HasShortTexts plan_rows (counted_from 1 (journeys s.ledger))
        (all_from (λ (p : ℕ × Journey). AllByRecursion HasShortTexts (plan_rows p)) (counted_from 1 (journeys s.ledger))
        (λ p has.
        let at = counted_stands 1 (journeys s.ledger) p has in
        plan_short (is_standing (history s.ledger p.0)) p.0 p.1.plan (plan_good s.ledger (suc at.place) p.1 desk.legal at.there))))

    -- a name that no batch has is that of no row
    pub batches_unnamed : (name : List ℕ) → batches_named s.ledger name ≡ [] → AllByRecursion (λ (b : BatchRow). is_named name b ≡ false) t.batch
    batches_unnamed name none =
        all_from _ t.batch
        (λ b has.
        false_from_ne_true (is_named name b)
        (λ on.
        let found = batch_found s.ledger t.batch name (Some b) desk.legal st.batch (has_kept (is_named name) t.batch b has on) in
        let bad : found.0 ∷ [] ≡ [] = sym found.1 ∙ none in
        cc))
