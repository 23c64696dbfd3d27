-- So many journeys were counted, and those above the last one are left.
use Rattle.std.proofs.Common.{◌≡◌, ◌+◌, Ok}
use Rattle.std.specs.Prelude.{⊤}
use Rattle.desk_sql.specs.declared.versions.Version.TheVariants.{Two}
use Rattle.ledger.specs.Answer.{State}
use Rattle.sql_reads.specs.Reads.{AnyDesk, ReadIn}
use Rattle.tables.specs.UnfinishedCount.{unfinished_above}
use Rattle.tables.proofs.counting.count_unfinished.Given as goal

abbrev pub invariant-loop-count : goal.invariant-loop-count
invariant-loop-count g l =
    ReadIn g.S.Store l.fn.conn l.conn Two (Ok tt) AnyDesk
    (λ (s : State) (_ : ⊤). l.count + unfinished_above s.ledger l.last ≡ unfinished_above s.ledger l.fn.after)
