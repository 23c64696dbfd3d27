-- A SELECT changes nothing, whatever its answer.
use Rattle.desk_sql.proofs.Quieting.{quiet_row}
use Rattle.desk_sql.proofs.Selecting.{gives_row, gives_no_row, row_fails}
use Rattle.desk_sql.proofs.queries.first_row.Goals as goal

pub returns-in-Ok-clause-row : goal.returns-in-Ok-clause-row
returns-in-Ok-clause-row g c clean = gives_row _ c.requires _ _ _ c.in-Ok.row (c.in-Ok.ensures.row clean)

pub returns-in-Ok-clause-quiet : goal.returns-in-Ok-clause-quiet
returns-in-Ok-clause-quiet g c =
    quiet_row g.S.Store _ _ _ c.requires _ c.query_row.ensures.mode c.query_row.ensures.survives c.query_row.result c.query_row.ensures.row

pub returns-in-QueryReturnedNoRows-clause-row : goal.returns-in-QueryReturnedNoRows-clause-row
returns-in-QueryReturnedNoRows-clause-row g c clean = gives_no_row _ c.requires _ _ _ _ c.in-QueryReturnedNoRows.is (c.in-Err.ensures.row clean)

pub returns-in-QueryReturnedNoRows-clause-quiet : goal.returns-in-QueryReturnedNoRows-clause-quiet
returns-in-QueryReturnedNoRows-clause-quiet g c =
    quiet_row g.S.Store _ _ _ c.requires _ c.query_row.ensures.mode c.query_row.ensures.survives c.query_row.result c.query_row.ensures.row

pub returns-in_default : goal.returns-in_default
returns-in_default g c = record {
  row = λ _. tt;
  reason = λ clean. row_fails _ _ _ _ _ c.in_default.not-QueryReturnedNoRows (c.in-Err.ensures.row clean);
  quiet = quiet_row g.S.Store _ _ _ c.requires _ c.query_row.ensures.mode c.query_row.ensures.survives c.query_row.result c.query_row.ensures.row;
}
