-- The nights are those of the cell's product.
use Rattle.std.proofs.Common.{rules}
use Rattle.sql_reads.proofs.ReadLemmas.{read_err, read_ok}
use Rattle.sql_reads.proofs.nights_read.read_nights.Goals as goal

pub returns-in_err-places-clause-read : goal.returns-in_err-places-clause-read
returns-in_err-places-clause-read g c = read_err (search rules) c.in_err-places.ensures (λ s desk any. any)

pub returns-clause-read : goal.returns-clause-read
returns-clause-read g c = read_ok c.in_ok-places.ensures (λ s desk shown. shown)
