-- A SELECT changes nothing, whatever its answer.
use Rattle.desk_sql.proofs.Quieting.{quiet_rows}
use Rattle.desk_sql.proofs.Selecting.{gives_rows, ok_then}
use Rattle.desk_sql.proofs.queries.all_rows.Goals as goal

pub returns-clause-rows : goal.returns-clause-rows
returns-clause-rows g c clean = ok_then _ _ c.query_all.result (λ rows h. gives_rows _ c.requires _ _ _ rows.items h) (c.query_all.ensures.ok clean)

pub returns-clause-quiet : goal.returns-clause-quiet
returns-clause-quiet g c =
    quiet_rows g.S.Store _ _ _ c.requires _ c.query_all.ensures.mode c.query_all.ensures.survives c.query_all.result (λ rows. rows.items)
    c.query_all.ensures.ok c.query_all.ensures.err
