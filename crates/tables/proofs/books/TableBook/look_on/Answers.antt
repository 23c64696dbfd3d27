-- The journeys before the one that was found have finished, or all have.
use Rattle.std.proofs.Common.{◌≡◌, option_copied, refl, rules, subst, sym}
use Rattle.sql_reads.proofs.ReadLemmas.{read_both}
use Rattle.tables.specs.FinishedJourneys.{AreFinishedTo}
use Rattle.tables.proofs.FinishedLemmas.{finished_next}
use Rattle.tables.proofs.ReadingLemmas.{looks_failed, looks_failed_then, looks_ok}
use Rattle.tables.proofs.books.TableBook.look_on.Goals as goal

pub returns : goal.returns
returns g c =
    let first : option_copied c.as_ref.result ≡ c.in_ok-found.found = search rules in
    looks_ok refl (read_both c.in_ok-found.ensures (rw first at c.in_ok-finished.ensures)) (λ s here both. record {
      is_so = both.0;
      known = subst (AreFinishedTo s.ledger) (sym both.1) (finished_next s.ledger c.args.self.now.finished c.in_ok-found.found here.known both.0);
      counted = here.counted;
    })

pub returns-in_err-finished : goal.returns-in_err-finished
returns-in_err-finished g c = looks_failed_then (search rules) c.in_ok-found.ensures c.in_err-finished.ensures

pub returns-in_err-found : goal.returns-in_err-found
returns-in_err-found g c = looks_failed (search rules) c.in_err-found.ensures
