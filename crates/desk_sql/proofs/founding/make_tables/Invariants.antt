-- The texts so far were run.
use Rattle.std.proofs.Common.{drop}
use Rattle.desk_sql.proofs.CreateReasons.{Runs, table_texts}
use Rattle.desk_sql.proofs.founding.make_tables.Given as goal

abbrev pub invariant-loop-text : goal.invariant-loop-text
invariant-loop-text g l = Runs g.S.Store l.initial.tx.conn l.tx.conn (drop l.text-index table_texts)
