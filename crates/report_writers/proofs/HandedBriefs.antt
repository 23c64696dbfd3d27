-- The rows of the journeys that are asked for. For `brief_rows`.
use Rattle.std.proofs.Common.{◌≡◌, inl, inr, ℕ, suc, Bool, List, [], ◌∷◌, map, filter, filter_map, IsTrue, refl, ap, subst, nat_le, nat_lt, not, lt-ltb, ◌&&◌, ◌∙◌, arith}
use Rattle.std.specs.List.{AllByRecursion}
use Rattle.sqlite.specs.Store.{Ghosts}
use Rattle.sqlite.specs.Held.{Held, state}
use Rattle.sqlite.specs.State.{HasCleanDisk}
use Rattle.sqlite_rules.proofs.ListLemmas.{has_filtered}
use Rattle.commands.specs.Names.{is_agent}
use Rattle.commands.specs.declared.items.Phase.{Phase}
use Rattle.ledger.specs.Answer.{State}
use Rattle.ledger.specs.History.{phase, is_finished}
use Rattle.ledger.specs.Ledger.{Event, history, numbers}
use Rattle.saga_core.specs.Views.{brief_of, is_unfinished_above}
use Rattle.saga_core.specs.declared.records.Brief.{Brief}
use Rattle.desk_sql.specs.FoundRows.{is_unfinished_after}
use Rattle.desk_sql.specs.Lists.{IsListed}
use Rattle.desk_sql.specs.Readable.{Each}
use Rattle.desk_sql.specs.RemainingRows.{IsByNumber, Starts}
use Rattle.desk_sql.specs.Rows.{JourneyRow}
use Rattle.desk_sql.specs.declared.versions.Version.{Version}
use Rattle.saga_core.specs.CellFilters.{is_name_asked}
use Rattle.saga_core.specs.JourneyFilters.{is_journey_asked, is_phase_asked}
use Rattle.saga_core.specs.declared.journey_filters.JourneyFilter.{JourneyFilter}
use Rattle.saga_core.specs.declared.journey_filters.Phases.{Phases}
use Rattle.sql_lists.specs.JourneyLists.{JourneysRest, is_journey_listed, least_phase, most_phase}
use Rattle.sql_lists.specs.ListedRows.{AreGoodBriefsRest, BriefsRest}
use Rattle.sql_model.specs.Briefs.{Short, short_of, short_told, TellBriefs}
use Rattle.sql_model.specs.ExpectedRows.{phase_number}
use Rattle.sql_model.specs.Keeping.{KeepsIn}
use Rattle.sql_model.specs.Spelling.{IsSpelled}
use Rattle.sql_model.proofs.BriefRows.{Agree, brief_in, listed_so, rows_told, unfinished_phase}
use Rattle.sql_reads.proofs.HandedTold.{IsThere, there_at}
use Rattle.sql_reads.proofs.ReadReasons.{row_agent}

-- a phase is in the range of numbers where it is asked for
phases_same : (phases : Phases) (p : Phase)
    → (nat_le (least_phase phases) (phase_number p) && nat_le (phase_number p) (most_phase phases)) ≡ is_phase_asked phases p
phases_same phases p = grind arith

-- the tests of rows are those of briefs
pub asked_agree : (f : JourneyFilter) (l : List Event) → Agree (is_journey_listed f) (is_journey_asked f) l
asked_agree f l n b = ap (λ v. is_name_asked f.agent b.journey.agent && v) (phases_same f.phases (phase b.journey.plan (history l (suc n))))

pub unfinished_agree : (after : ℕ) (l : List Event) → Agree (is_unfinished_after after) (is_unfinished_above after) l
unfinished_agree after l n b = ap (λ v. nat_lt after (suc n) && v) (unfinished_phase (brief_in l (suc n, b)).cursor.phase)

abbrev pub goes_on : Brief → Bool
goes_on b = not (is_finished b.cursor.phase)

pub goes_on_agree : (l : List Event) → Agree (is_unfinished_after 0) goes_on l
goes_on_agree l n b =
    let p = phase b.journey.plan (history l (suc n)) in
    ap (λ v. v && nat_le (phase_number p) 1) (lt-ltb 0 (suc n) (omega arith)) ∙ unfinished_phase p

-- briefs are good where the rows that tell them are
good_told : (rows : List JourneyRow) (shown : List Brief) → TellBriefs rows shown → Each (λ (j : JourneyRow). IsTrue (is_agent j.agent)) rows
    → AllByRecursion (λ (b : Brief). IsTrue (is_agent b.agent)) shown
good_told rows [] told good = tt
good_told [] (b ∷ shown) told good = absurd (cc)
good_told (r ∷ rows) (b ∷ shown) told good =
    let both : short_of r ∷ map short_of rows ≡ short_told b ∷ map short_told shown = told in
    let head : short_of r ≡ short_told b = cc in
    let tail : map short_of rows ≡ map short_told shown = cc in
    (subst (λ a. IsTrue (is_agent a)) (ap (λ (x : Short). x.agent) head) (good r (inl refl)), good_told rows shown tail (λ j h. good j (inr h)))

-- The journeys of a desk that is kept, where a test of rows agrees with one of briefs.
module _ (test : JourneyRow → Bool) (passes : Brief → Bool) (agree : (l : List Event) → Agree test passes l) {v : Version} {S : Type 0} {g : Ghosts S}
    {h : Held S} (s : State) (t : IsThere v g h s) where
  told_there : TellBriefs (filter test t.tables.journey) (filter passes (filter_map (brief_of s.ledger) (numbers s.ledger)))
  told_there = rows_told test passes s.ledger t.tables.journey _ (agree s.ledger) t.stands.journey t.rows.journey.rise refl

  -- the rows that pass tell the briefs that do
  pub briefs_there : {Rest : List JourneyRow → Type 0} → ((later : List JourneyRow) → IsListed IsByNumber (filter test t.tables.journey) later → Rest later)
      → (rows : List JourneyRow) × Rest rows × TellBriefs rows (filter passes (filter_map (brief_of s.ledger) (numbers s.ledger)))
  briefs_there begun = (filter test t.tables.journey, begun _ (listed_so test t.tables.journey t.rows.journey.rise), told_there)

  -- these are good, where each agent has the form of one
  pub good_there : IsSpelled s.ledger
      → AllByRecursion (λ (b : Brief). IsTrue (is_agent b.agent)) (filter passes (filter_map (brief_of s.ledger) (numbers s.ledger)))
  good_there spelled =
      good_told _ _ told_there (λ j has. row_agent t.tables s t.stands spelled j (has_filtered test t.tables.journey j has).0)

-- so they remain, if the rows that pass were started
module _ {S : Type 0} (g : Ghosts S) (test : JourneyRow → Bool) (passes : Brief → Bool) (agree : (l : List Event) → Agree test passes l)
    (old new : Held S) (started : Starts g old new (λ t later. IsListed IsByNumber (filter test t.journey) later) (JourneysRest g))
    {v : Version} (clean : HasCleanDisk (state g new)) (s : State) (keeps : KeepsIn v (state g old) s) where
  pub briefs_begin : BriefsRest g new (filter passes (filter_map (brief_of s.ledger) (numbers s.ledger)))
  briefs_begin =
      let t = there_at g old new s keeps started.same started.survives clean in
      briefs_there test passes agree s t (started.begun clean v t.tables t.may)

  pub good_begin : IsSpelled s.ledger → AreGoodBriefsRest g new
  good_begin spelled =
      (_, briefs_begin, good_there test passes agree s (there_at g old new s keeps started.same started.survives clean) spelled)
