-- No fault is forgotten; nothing is said of the images, since the log is removed without the library.
use Rattle.std.proofs.Common.{arith, subst, ◌∙◌}
use Rattle.sqlite_trees.proofs.Doubt.{no_doubt}
use Rattle.sqlite_trees.specs.View.{IsClean}
use Rattle.sqlite_store.specs.FileStore.{view}
use Rattle.sqlite_wal.specs.Reads.{AreClean}
use Rattle.sqlite_pool.proofs.StateLemmas.{clean_is}
use Rattle.program_ends.proofs.closing.set_aside.Goals as goal

pub returns-clause-closes : goal.returns-clause-closes
returns-clause-closes g c =
    let it = c.into_store-store in
    record {
      was_clean = λ honest.
          let sure_now = subst (λ p. AreClean g.D.Disk p.0 p.1) c.close-files.ensures honest in
          let none : IsClean (view it.result) = no_doubt _ (clean_is it.result.pool ∙ sure_now) in
          omega (arith, it.ensures.quiet.clean);
      whole = λ honest image may. absurd may;
      holds = λ start honest tell image may. absurd may;
    }
