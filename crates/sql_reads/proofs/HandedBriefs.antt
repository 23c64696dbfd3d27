-- The rows of unfinished journeys. For `brief_rows`.
use Rattle.std.proofs.Common.{◌≡◌, suc, List, filter, Bool, ap, ◌∙◌, arith, nat_le, not, IsPermutation, lt-ltb, rules, ◌&&◌}
use Rattle.ledger.specs.History.{phase, is_finished}
use Rattle.ledger.specs.Ledger.{Event, history}
use Rattle.saga_core.specs.Views.{unfinished_of}
use Rattle.saga_core.specs.declared.records.Brief.{Brief}
use Rattle.desk_sql.specs.Rows.{JourneyRow, Tables}
use Rattle.desk_sql.specs.FoundRows.{is_unfinished_after, journey_of}
use Rattle.desk_sql.specs.declared.journeys.JourneyFound.{JourneyFound}
use Rattle.sql_model.specs.ExpectedRows.{phase_number, journeys_called}
use Rattle.sql_model.proofs.BriefRows.{rows_told, unfinished_phase}
use Rattle.sql_model.proofs.Orders.{Rises}
use Rattle.sql_reads.specs.Reading.{TellsBrief}
use Rattle.sql_model.specs.Briefs.{short_of, short_told, TellBriefs}
use Rattle.sql_reads.proofs.ReadJourneys.{brief_told}

abbrev goes_on : Brief → Bool
goes_on b = not (is_finished b.cursor.phase)

-- the rows of the unfinished journeys are those of their briefs
pub unfinished_told : (l : List Event) (t : Tables) (shown : List Brief) → IsPermutation (journeys_called l) t.journey
    → Rises (λ (j : JourneyRow). j.id) t.journey → shown ≡ unfinished_of l → TellBriefs (filter (is_unfinished_after 0) t.journey) shown
unfinished_told l t shown =
    rows_told (is_unfinished_after 0) goes_on l t.journey shown
    (λ n b.
    let p = phase b.journey.plan (history l (suc n)) in
    ap (λ v. v && nat_le (phase_number p) 1) (lt-ltb 0 (suc n) (omega arith)) ∙ unfinished_phase p)

-- the row of a brief is that of no other brief
pub brief_same : (r : JourneyFound) (b z : Brief) → TellsBrief r b → short_of (journey_of r) ≡ short_told z → b ≡ z
brief_same r b z tells e = search (rules, arith, brief_told)
