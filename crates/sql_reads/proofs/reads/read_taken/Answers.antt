-- Tables of version 1 have no save-points.
use Rattle.std.proofs.Common.{sym, subst, rules, arith}
use Rattle.desk_sql.specs.declared.versions.Version.{Version}
use Rattle.sql_reads.specs.Reading.{AreTakenIn}
use Rattle.sql_reads.proofs.ReadLemmas.{no_read, read_ok}
use Rattle.sql_reads.proofs.reads.read_taken.Goals as goal

pub returns-in-One : goal.returns-in-One
returns-in-One g c =
    read_ok no_read (λ s desk _.
    subst (λ (v : Version). AreTakenIn v c.args.id s c.none-marks.result) (sym c.in-One.is) (record { none = search rules; low = search rules }))

pub returns-in-Two : goal.returns-in-Two
returns-in-Two g c = grind arith
