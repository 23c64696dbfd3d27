-- The list of objects determines each table and each index.
use Rattle.sql_model.proofs.Unique.{one_schema}
use Rattle.sql_model.proofs.one_schema.schemas.Goals as goal

pub returns : goal.returns
returns c = record { one = one_schema }
