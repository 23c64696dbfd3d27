-- The version is passed as the integer that it is.
use Rattle.std.proofs.Common.{rules}
use Rattle.desk_sql.proofs.Effects.{keyed}
use Rattle.desk_sql.proofs.Inserting.{founds_meta}
use Rattle.desk_sql.proofs.Writing.{pos_is}
use Rattle.desk_sql.proofs.meta.insert_meta.Goals as goal

pub returns : goal.returns
returns g c =
    let it = keyed (founds_meta c.args.version) _ c.execute.ensures.runs (search (rules, pos_is)) (search rules) in
    record { goes = it.goes; made = it.made; reason = it.reason }
