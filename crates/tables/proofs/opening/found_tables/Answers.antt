-- The tables of a new desk are committed at once; until the commit, a crash leaves nothing new.
use Rattle.std.proofs.Common.{◌≡◌, true, rules, subst}
use Rattle.sqlite.specs.Held.{Held}
use Rattle.desk_sql.specs.Calls.{LeavesNoMore}
use Rattle.desk_sql.specs.declared.versions.Version.TheVariants.{Two}
use Rattle.tables.specs.Opening.{FailsOpening, Opens}
use Rattle.tables.specs.declared.faults.OpenFault.TheVariants.{Store}
use Rattle.tables.proofs.Founding.{made_all, not_kept, not_made}
use Rattle.tables.proofs.opening.found_tables.Goals as goal

pub returns-in-Ok : goal.returns-in-Ok
returns-in-Ok g c =
    let old = c.args.conn.now in
    let late = c.make_tables.new.tx.conn.now in
    let end = c.commit.new.self.0 in
    let same : end ≡ c.conn-2-1.given.0 = search rules in
    let from : c.transaction-tx.result.conn.now ≡ record old { in_transaction = true } = c.transaction-tx.ensures.begun in
    let less : LeavesNoMore g.S.Store (record old { in_transaction = true }) late = rw from at c.make_tables.ensures.goes.survives in
    subst (λ (h : Held g.row.S.Denot). Opens g.S.Store old h Two) same
    (made_all g.S.Store old late end c.requires.idle c.requires.bare less c.commit.ensures.ended c.commit.ensures.survives
    (rw from at c.in_default.ensures.made) (rw from at c.in_default.ensures.goes.live) g.met.S.Store.settled (λ clean. (c.in-Ok.ensures.ok clean).1))

-- the tables were not created, so the write was rolled back
pub returns-in-Err : goal.returns-in-Err
returns-in-Err g c =
    let old = c.args.conn.now in
    let late = c.make_tables.new.tx.conn.now in
    let end = c.rollback.new.self.0 in
    let same : end ≡ c.conn-1.given.0 = search rules in
    let from : c.transaction-tx.result.conn.now ≡ record old { in_transaction = true } = c.transaction-tx.ensures.begun in
    let less : LeavesNoMore g.S.Store (record old { in_transaction = true }) late = rw from at c.in-Err.ensures.goes.survives in
    subst (λ (h : Held g.row.S.Denot). FailsOpening g.S.Store old h c.opening_fault.result) same
    (not_made g.S.Store old late end c.requires.idle c.requires.bare less c.rollback.ensures.ended c.rollback.ensures.survives
    (rw from at c.in-Err.ensures.goes.commit) c.rollback.ensures.undone c.in-Err.error c.fault_of.result c.opening_fault.result
    (rw from at c.in-Err.ensures.reason) c.fault_of.ensures.memory c.opening_fault.ensures.memory c.opening_fault.ensures.store)

-- the commit failed and was rolled back
pub returns-in-Err-commit : goal.returns-in-Err-commit
returns-in-Err-commit g c =
    let old = c.args.conn.now in
    let late = c.make_tables.new.tx.conn.now in
    let end = c.commit.new.self.0 in
    let same : end ≡ c.conn-2-1.given.0 = search rules in
    let from : c.transaction-tx.result.conn.now ≡ record old { in_transaction = true } = c.transaction-tx.ensures.begun in
    let less : LeavesNoMore g.S.Store (record old { in_transaction = true }) late = rw from at c.make_tables.ensures.goes.survives in
    subst (λ (h : Held g.row.S.Denot). FailsOpening g.S.Store old h Store) same
    (not_kept g.S.Store old late end c.requires.idle c.requires.bare less c.commit.ensures.ended c.commit.ensures.survives
    (rw from at c.in_default.ensures.made) (rw from at c.in_default.ensures.goes.live) (rw from at c.in_default.ensures.goes.inside)
    (rw from at c.in_default.ensures.goes.commit) (λ db is. is) _ c.in-Err-commit.ensures.err)
