-- The items that are taken are those of the state that is kept.
use Rattle.std.proofs.Common.{◌≡◌, ap, refl, rules, subst, take, Err, OnErr}
use Rattle.desk_sql.specs.declared.versions.Version.TheVariants.{Two}
use Rattle.ledger.specs.Ledger.{history}
use Rattle.sql_model.proofs.Quieting.{quiet_keeps}
use Rattle.sql_reads.proofs.ReadLemmas.{also_ok}
use Rattle.reports.proofs.TakeLemmas.{whole_list}
use Rattle.report_writers.specs.ItemsLeft.{IsNotStarted}
use Rattle.report_writers.proofs.ReadyLemmas.{at_start, ready_alone, takes_fails}
use Rattle.report_writers.proofs.ShowLemmas.{reported_store}
use Rattle.tables.proofs.Taken.{list_read}
use Rattle.tables.proofs.traces.read_each.Goals as goal

pub returns : goal.returns
returns g c =
    let taken = c.take_rows.ensures in
    let begun = c.in-Ok.ensures in
    list_read (search rules) begun.under.quiet taken.takes.kept.quiet
    (λ clean began s desk keeps.
    let all = history s.ledger c.args.id in
    also_ok c.take_rows.result (λ items. items.items ≡ take 18446744073709551615 all) (λ items. items.items ≡ all)
    (λ items is. whole_list items all is) (taken.taken clean all (begun.rows began s desk keeps all refl)))
    (λ clean began s desk spelled keeps up store.
    takes_fails taken.takes clean
    (ready_alone g.S.Store _ (at_start g.S.Store begun.start s desk spelled (quiet_keeps g.S.Store c.args.conn.now _ begun.under.quiet Two s keeps)) up)
    (reported_store _ store))

-- they could not be started
pub returns-in-Err : goal.returns-in-Err
returns-in-Err g c =
    let it = subst (λ r. OnErr r (IsNotStarted g.S.Store Two r c.args.conn.now c.start_items.follows.lender-at-none)) c.in-Err.is c.start_items.follows.holds-at-none in
    record {
      shows = λ clean s desk keeps. tt;
      store = λ clean s desk spelled keeps _ up store. it.store clean s desk spelled keeps up (ap Err (cc));
      quiet = it.quiet;
    }
