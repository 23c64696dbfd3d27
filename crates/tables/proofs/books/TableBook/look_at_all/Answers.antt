-- The list that was read is that of the unfinished journeys, and the journeys before its first have finished, or all have.
use Rattle.std.proofs.Common.{◌≡◌, ◌≤◌, ◌∙◌, option_copied, refl, rules, slice_get, subst, sym}
use Rattle.sql_reads.proofs.ReadLemmas.{read_both}
use Rattle.tables.specs.FinishedJourneys.{AreFinishedTo}
use Rattle.tables.proofs.FinishedLemmas.{finished_next}
use Rattle.tables.proofs.ListedLemmas.{finished_lower, first_listed}
use Rattle.tables.proofs.ReadingLemmas.{looks_failed, looks_failed_then, looks_ok}
use Rattle.tables.proofs.WalkLemmas.{all_listed}
use Rattle.tables.proofs.books.TableBook.look_at_all.Goals as goal

pub returns : goal.returns
returns g c =
    let low : c.min-known.result ≤ c.args.self.now.finished = search rules in
    let first : option_copied c.first.result ≡ slice_get c.in_ok-briefs.briefs.items 0 = search rules in
    looks_ok refl (read_both c.in_ok-briefs.ensures (rw first at c.in_ok-finished.ensures)) (λ s here both. (
    let known = finished_lower s.ledger c.args.self.now.finished c.min-known.result low here.known in
    let listed = first_listed s.ledger c.min-known.result c.in_ok-briefs.briefs.items both.0 in
    record {
      is_so = both.0 ∙ all_listed s.ledger c.min-known.result known;
      known = subst (AreFinishedTo s.ledger) (sym both.1) (finished_next s.ledger c.min-known.result _ known listed);
      counted = here.counted;
    }))

pub returns-in_err-finished : goal.returns-in_err-finished
returns-in_err-finished g c = looks_failed_then (search rules) c.in_ok-briefs.ensures c.in_err-finished.ensures

pub returns-in_err-briefs : goal.returns-in_err-briefs
returns-in_err-briefs g c = looks_failed (search rules) c.in_err-briefs.ensures
