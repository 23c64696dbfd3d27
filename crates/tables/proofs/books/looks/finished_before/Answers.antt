use Rattle.sql_reads.proofs.ReadLemmas.{no_read, read_ok}
use Rattle.tables.proofs.books.looks.finished_before.Goals as goal

pub returns-in-Some : goal.returns-in-Some
returns-in-Some g c = read_ok no_read (λ s desk _. rw c.in-Some.is (c.saturating_sub.ensures))

pub returns-in_ok-now-in-None : goal.returns-in_ok-now-in-None
returns-in_ok-now-in-None g c = read_ok c.in_ok-now-in-None.ensures.read (λ s desk is. rw c.in-None.is (is.journeys_are))
