-- The cells of the first rows have their places so far, and the nights read are those of the kept desk.
use Rattle.std.proofs.Common.{Ok, take, IfSome}
use Rattle.std.specs.Prelude.{⊤}
use Rattle.ledger.specs.Answer.{State}
use Rattle.desk_sql.specs.declared.versions.Version.TheVariants.{Two}
use Rattle.sql_reads.specs.NightsRead.{AreRead}
use Rattle.sql_reads.specs.Reads.{AnyDesk, ReadIn}
use Rattle.sql_commands.specs.Loading.{HavePlaces}
use Rattle.sql_commands.proofs.loading.cells_of.Given as goal

abbrev pub invariant-loop-place : goal.invariant-loop-place
invariant-loop-place g l =
    ReadIn g.S.Store l.fn.conn l.conn Two (Ok tt) AnyDesk
    (λ (s : State) (_ : ⊤). HavePlaces (take l.place l.rows) s l.cells.items × IfSome l.read (AreRead s))
