-- The current row of the query is the first that remained.
use Rattle.std.proofs.Common.{rules}
use Rattle.sqlite.specs.Held.{state}
use Rattle.desk_sql.specs.Causes.{HasReason}
use Rattle.sql_lists.proofs.HandedReasons.{advance_reason}
use Rattle.sql_lists.proofs.HandedRows.{hands_none, hands_row, read_reason}
use Rattle.sql_lists.proofs.JourneyAnswers.{journey_back}
use Rattle.sql_lists.proofs.ListMeanings.{journeys_meant}
use Rattle.sql_lists.proofs.journeys.next_journey.Goals as goal

pub returns-in_ok-journey-in-Some-clause-next : goal.returns-in_ok-journey-in-Some-clause-next
returns-in_ok-journey-in-Some-clause-next g c clean =
    let rows = c.advance.new.self in
    let told = c.in_ok-advance.ensures in
    hands_row journeys_meant g.S.Store c.args.rows.now.conn.now rows.conn.now rows.has_row (told.ok clean) c.in-Some.row.now _ (search rules) (told.same clean)
    (λ over. (told.ended over).0) (λ x is. journey_back c.in-Some.row.now c.in_ok-journey-in-Some.journey x c.in_ok-journey-in-Some.ensures.shown is)

pub returns-in-None-clause-next : goal.returns-in-None-clause-next
returns-in-None-clause-next g c clean =
    let rows = c.advance.new.self in
    let told = c.in_ok-advance.ensures in
    hands_none journeys_meant g.S.Store c.args.rows.now.conn.now rows.conn.now rows.has_row (told.ok clean) (search rules) told.ends

-- the query goes on, or fails for a reason
pub returns-in_err-advance-clause-reason : goal.returns-in_err-advance-clause-reason
returns-in_err-advance-clause-reason g c clean later rests texts up =
    let old = c.args.rows.now.conn.now in
    let new = c.advance.new.self.conn.now in
    let failed = c.in_err-advance.ensures in
    let reason = advance_reason journeys_meant g.S.Store old new later c.in_err-advance.field-0.0 up rests (failed.err clean) (λ over. (failed.ended over).1 clean) in
    search rules

-- the row that it gives can be read
pub returns-in_err-journey-in-Some-clause-reason : goal.returns-in_err-journey-in-Some-clause-reason
returns-in_err-journey-in-Some-clause-reason g c clean later rests texts up =
    let old = c.args.rows.now.conn.now in
    let rows = c.advance.new.self in
    let told = c.in_ok-advance.ensures in
    let reason : HasReason (state g.S.Store old) (state g.S.Store rows.conn.now) c.in_err-journey-in-Some.field-0.0 =
    read_reason journeys_meant g.S.Store old rows.conn.now rows.has_row (told.ok clean) c.in-Some.row.now _ (search rules) (told.same clean)
    (λ over. (told.ended over).0) c.in_err-journey-in-Some.ensures.reason later rests texts in
    search rules
