-- More than 60 lines: three ways out.
use Rattle.std.proofs.Common.{◌≡◌, inl, true, IsTrue, refl, subst, arith, rules}
use Rattle.sqlite.specs.State.{HasCleanDisk}
use Rattle.sqlite.specs.Held.{Held, state}
use Rattle.desk_sql.specs.Calls.{LeavesNoMore}
use Rattle.desk_sql.specs.Causes.{HasReason, IsUp}
use Rattle.desk_sql.specs.Rows.{Tables}
use Rattle.tables.specs.Copying.{MayAdd}
use Rattle.tables.specs.Outcomes.{Brings}
use Rattle.tables.proofs.CommitLemmas.{Wrote, wrote_from, keeps_new, leaves_new, either_left}
use Rattle.tables.proofs.FailLemmas.{not_written, not_committed, stays_through}
use Rattle.tables.proofs.Telling.{is_fault}
use Rattle.tables.proofs.migrating.bring_over.Goals as goal

-- the commit succeeded: the connection keeps the same state in the new tables, and a crash leaves only these
pub returns-in-Ok-clause-ends : goal.returns-in-Ok-clause-ends
returns-in-Ok-clause-ends g c =
    let old = c.args.conn.now in
    let late = c.write_new.new.tx.conn.now in
    let end = c.commit.new.self.0 in
    let same : end ≡ c.conn-2-1.given.0 = search rules in
    let at_late : HasCleanDisk (state g.S.Store end) → HasCleanDisk (state g.S.Store late) = λ clean. omega (arith, c.commit.ensures.survives.clean, clean) in
    let wrote : Wrote g.S.Store (record old { in_transaction = true }) late c.args.meta
    = wrote_from g.S.Store old c.transaction-tx.result.conn.now late c.args.meta c.transaction-tx.ensures.begun
    c.write_new.ensures.goes.survives c.in_default.ensures.goes.live c.in_default.ensures.made in
    subst (λ (h : Held g.row.S.Denot). Brings g.S.Store old h c.args.meta) same (record {
      done = λ s numbers keeps clean. keeps_new g.S.Store old late c.args.meta s wrote numbers keeps (at_late clean) g.met.S.Store.settled end
          (c.in-Ok.ensures.ok clean).1;
      left = λ clean s numbers keeps. leaves_new g.S.Store old late c.args.meta s wrote numbers keeps (at_late clean) g.met.S.Store.settled end
          (c.in-Ok.ensures.ok clean).1;
    })

-- the new tables were not written, because the disk failed or refused, or out of memory
pub returns-in-Err-clause-ends : goal.returns-in-Err-clause-ends
returns-in-Err-clause-ends g c =
    let old = c.args.conn.now in
    let late = c.write_new.new.tx.conn.now in
    let end = c.rollback.new.self.0 in
    let same : end ≡ c.conn-1.given.0 = search rules in
    let from : c.transaction-tx.result.conn.now ≡ record old { in_transaction = true } = c.transaction-tx.ensures.begun in
    let less : LeavesNoMore g.S.Store (record old { in_transaction = true }) late = rw from at c.write_new.ensures.goes.survives in
    let begun = state g.S.Store (record old { in_transaction = true }) in
    let fails : HasCleanDisk (state g.S.Store late) → (t : Tables) → MayAdd begun t → IsUp begun → HasReason begun (state g.S.Store late) c.in-Err.error
    = rw from at c.in-Err.ensures.reason in
    record {
      fault = is_fault c.fault_of.result _ c.fault_of.ensures.memory c.fault_of.ensures.store;
      memory = search rules;
      store = λ clean s numbers keeps up store. (
          let at_end : HasCleanDisk (state g.S.Store end) = search rules in
          let at_late : HasCleanDisk (state g.S.Store late) = omega (arith, c.rollback.ensures.survives.clean) in
          rw (← same) (inl (not_written g.S.Store old late end s keeps up at_late less (λ _. ⊥) c.rollback.ensures.survives c.in-Err.error c.fault_of.result
          fails c.fault_of.ensures.store store)));
      up = rw (← same) (stays_through g.S.Store old late end (λ _. ⊥) less c.rollback.ensures.survives);
      stop = search rules;
      shows = search rules;
    }

-- they were not committed: a crash leaves the old tables or the new ones
pub returns-in-Err-commit-clause-ends : goal.returns-in-Err-commit-clause-ends
returns-in-Err-commit-clause-ends g c =
    let old = c.args.conn.now in
    let late = c.write_new.new.tx.conn.now in
    let end = c.commit.new.self.0 in
    let same : end ≡ c.conn-2-1.given.0 = search rules in
    let at_late : HasCleanDisk (state g.S.Store end) → HasCleanDisk (state g.S.Store late) = λ clean. omega (arith, c.commit.ensures.survives.clean, clean) in
    let wrote : Wrote g.S.Store (record old { in_transaction = true }) late c.args.meta
    = wrote_from g.S.Store old c.transaction-tx.result.conn.now late c.args.meta c.transaction-tx.ensures.begun
    c.write_new.ensures.goes.survives c.in_default.ensures.goes.live c.in_default.ensures.made in
    let from : c.transaction-tx.result.conn.now ≡ record old { in_transaction = true } = c.transaction-tx.ensures.begun in
    let less : LeavesNoMore g.S.Store (record old { in_transaction = true }) late = rw from at c.write_new.ensures.goes.survives in
    let begun_inside : IsTrue (state g.S.Store c.transaction-tx.result.conn.now).in_transaction = rw from refl in
    record {
      fault = inl refl;
      memory = λ is. absurd (let never = is in cc);
      store = λ clean s numbers keeps up store. (
          let at_end : HasCleanDisk (state g.S.Store end) = search rules in
          let inside : IsTrue (state g.S.Store late).in_transaction = c.in_default.ensures.goes.inside (at_late at_end) begun_inside in
          rw (← same) (not_committed g.S.Store old late end s keeps up (at_late at_end) less _ c.commit.ensures.survives c.args.meta numbers wrote inside _
          (c.in-Err-commit.ensures.err at_end)));
      up = rw (← same) (stays_through g.S.Store old late end _ less c.commit.ensures.survives);
      stop = λ clean s numbers keeps. (
          let at_end : HasCleanDisk (state g.S.Store end) = search rules in
          rw (← same) (λ db left. either_left g.S.Store old late c.args.meta s wrote numbers keeps (at_late at_end) db (c.commit.ensures.survives.crash at_end db left)));
      shows = search rules;
    }
