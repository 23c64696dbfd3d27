-- The row that is returned is that of the first remaining journey.
use Rattle.std.proofs.Common.{◌≡◌, true, false, ap, option_map}
use Rattle.sqlite.specs.Held.{state}
use Rattle.desk_sql.specs.FoundRows.{journey_of}
use Rattle.sql_lists.specs.JourneyLists.{JourneysRest}
use Rattle.sql_model.specs.Briefs.{short_of, short_told}
use Rattle.sql_model.proofs.Staying.{of_error}
use Rattle.sql_reads.proofs.HandedBriefs.{brief_same}
use Rattle.sql_reads.proofs.HandedGood.{brief_good, briefs_text}
use Rattle.report_writers.proofs.HandedRows.{first_in_form, found_so, good_after, none_in_form}
use Rattle.report_writers.proofs.brief_rows.BriefFoundRow.next_found.Goals as goal

pub returns-in-Some-clause-next : goal.returns-in-Some-clause-next
returns-in-Some-clause-next g c clean =
    first_in_form _ (JourneysRest g.S.Store c.next_journey.new.rows.conn.now) (c.in-Ok-Some.ensures.next clean)
    short_of short_told (ap (option_map journey_of) c.in-Ok-Some.field-0-is) c.in-Some.brief
    (λ z e. brief_same c.in-Ok-Some.found c.in-Some.brief z c.in-Some.ensures.told e)

pub returns-in-Ok-None-clause-next : goal.returns-in-Ok-None-clause-next
returns-in-Ok-None-clause-next g c clean =
    none_in_form _ (JourneysRest g.S.Store c.next_journey.new.rows.conn.now) (c.in-Ok-None.ensures.next clean)
    short_of short_told (ap (option_map journey_of) c.in-Ok-None.field-0-is)

-- each row tells a journey in short
pub returns-in-Ok-Some-clause-store : goal.returns-in-Ok-Some-clause-store
returns-in-Ok-Some-clause-store g c clean good up store =
    let first = found_so _ (JourneysRest g.S.Store c.next_journey.new.rows.conn.now) (c.in-Ok-Some.ensures.next clean)
    (ap (option_map journey_of) c.in-Ok-Some.field-0-is) in
    let all = brief_good (JourneysRest g.S.Store c.args.rows.now.conn.now) (JourneysRest g.S.Store c.next_journey.new.rows.conn.now)
    (journey_of c.in-Ok-Some.found) first good.1.0 good.0 good.1.1 good.1.2 good.2 in
    let there : false ≡ true = c.in-None.ensures.there all.0 all.1 in
    absurd (cc)

-- an error of the store has a reason
pub returns-clause-store : goal.returns-clause-store
returns-clause-store g c clean good up store =
    of_error (state g.S.Store c.args.rows.now.conn.now) (state g.S.Store c.next_journey.new.rows.conn.now) c.in-Err.error c.fault_of.result
    c.fault_of.ensures.memory (c.in-Err.ensures.reason clean good.1.0 good.1.1 (briefs_text good.1.0 good.0 good.1.2 good.2) up) (cc)

-- the later rows are good too
pub returns-in-Some-clause-good : goal.returns-in-Some-clause-good
returns-in-Some-clause-good g c clean good = good_after _ (returns-in-Some-clause-next g c clean) good.0 good.1 good.2

pub returns-in-Ok-None-clause-good : goal.returns-in-Ok-None-clause-good
returns-in-Ok-None-clause-good g c clean good = good_after _ (returns-in-Ok-None-clause-next g c clean) good.0 good.1 good.2
