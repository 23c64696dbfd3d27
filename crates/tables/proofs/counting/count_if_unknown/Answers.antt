-- The number that is known is that of the ledger, and so is the one that is counted.
use Rattle.std.proofs.Common.{◌∙◌, subst}
use Rattle.sql_reads.proofs.ReadLemmas.{no_read, read_less, read_ok}
use Rattle.tables.specs.UnfinishedCount.{IsCount}
use Rattle.tables.proofs.WalkLemmas.{all_counted}
use Rattle.tables.proofs.counting.count_if_unknown.Goals as goal

pub returns-in-Some : goal.returns-in-Some
returns-in-Some g c = read_ok no_read (λ s desk _ counted known. subst (IsCount s.ledger) c.in-Some.is counted)

pub returns : goal.returns
returns g c = read_less c.count_unfinished.ensures (λ s n is counted known. is ∙ all_counted s.ledger c.args.finished known)
