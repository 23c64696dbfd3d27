-- The store that the connection gives back is numbered and sound. A checkpoint leaves no more than that, and where it ends well, or
-- fails and leaves the store open, the store is numbered still.
-- More than 60 lines: four ways out and two clauses.
use Rattle.std.proofs.Common.{◌≡◌, IsTrue, sym, ap, subst, ◌∙◌, arith, inl, inr}
use Rattle.std.proofs.lemmas.Bool.{cases_Bool, both_ways}
use Rattle.sqlite_trees.proofs.Doubt.{clean_of as sure, no_doubt}
use Rattle.sqlite_trees.specs.View.{View, IsClean}
use Rattle.sqlite_store.specs.FileStore.{state, view}
use Rattle.sqlite_store.specs.Laws.{shut_is_broken}
use Rattle.sqlite_wal.proofs.StateLemmas.{open_from}
use Rattle.sqlite_wal.specs.Files.{outcomes}
use Rattle.sqlite_wal.specs.Reads.{AreClean}
use Rattle.sqlite_wal.specs.Recovery.{Image}
use Rattle.sqlite_pool.proofs.StateLemmas.{clean_is, may_leave_is}
use Rattle.sqlite.proofs.Theorems.{copied}
use Rattle.sqlite.specs.Closing.{HoldsAlone}
use Rattle.program_ends.proofs.ImageLemmas.{copy_holds, store_holds}
use Rattle.program_ends.proofs.closing.copy_log.Goals as goal

pub returns-then-is_broken-clause-failed : goal.returns-then-is_broken-clause-failed
returns-then-is_broken-clause-failed g c =
    let it = c.into_store-store in
    record {
      was_clean = λ clean. omega (arith, it.ensures.quiet.clean);
      whole = λ clean image may. tt;
      holds = λ start clean numbered image may.
          store_holds c.args.conn it.result (it.ensures.numbered clean) (it.ensures.sound clean) it.ensures.quiet.outcomes image may;
    }

pub returns-in-Ok-clause-copied : goal.returns-in-Ok-clause-copied
returns-in-Ok-clause-copied g c =
    let back = c.into_store-store.result in
    let before = c.rollback.new.self in
    let last = c.checkpoint.new.self in
    let q = c.checkpoint.ensures.quiet in
    let stays = g.met.D.Disk.seen_may_stay in
    let conn = c.args.conn in
    let late = λ (honest : AreClean g.D.Disk c.close.result.log c.close.result.db).
    let sure_now = subst (λ p. AreClean g.D.Disk p.0 p.1) c.close.ensures honest in
    let none : IsClean (view last) = no_doubt _ (clean_is last.pool ∙ sure_now) in none in
    let whole = λ (honest : AreClean g.D.Disk c.close.result.log c.close.result.db) (image : Image)
    (may : outcomes g.D.Disk c.close.result.log c.close.result.db image).
    let sure_now = subst (λ p. AreClean g.D.Disk p.0 p.1) c.close.ensures honest in
    let none : IsClean (view last) = late honest in
    let clean : IsClean (view before) = omega (arith, q.clean) in
    let early : IsClean (view back) = omega (arith, c.rollback.ensures.quiet.clean) in
    let h = open_from (state before) c.in-Ok.ensures.ready (sure (view before).is_clean clean) in
    let second = c.rollback.ensures.undone.kept clean in
    let first = c.into_store-store.ensures.undone.kept early in
    let on = c.in-Ok.ensures.open none in
    let same = c.checkpoint.ensures.same on in
    let numbered : IsTrue (view last).is_numbered =
    ap (λ (v : View). v.is_numbered) same ∙ second.numbered ∙ c.into_store-store.ensures.numbered early in
    let committed : (view last).committed ≡ (view conn.store).committed =
    ap (λ (v : View). v.committed) same ∙ second.committed h ∙ first.committed (second.was_open h) in
    let alone : HoldsAlone image (view conn.store).committed =
    subst (HoldsAlone image) committed (copied last stays on numbered
    (λ db found. c.into_store-store.ensures.sound early db (c.rollback.ensures.quiet.outcomes db (q.outcomes db found)))
    (c.in-Ok.ensures.moved (c.rollback.ensures.logged (second.was_open h))) image
    (may_leave_is last.pool image sure_now (subst (λ p. outcomes g.D.Disk p.0 p.1 image) c.close.ensures may))) in
    alone in
    let was_open = λ (honest : AreClean g.D.Disk c.close.result.log c.close.result.db).
    let none : IsClean (view last) = late honest in
    let clean : IsClean (view before) = omega (arith, q.clean) in
    let early : IsClean (view back) = omega (arith, c.rollback.ensures.quiet.clean) in
    let h = open_from (state before) c.in-Ok.ensures.ready (sure (view before).is_clean clean) in
    let first = c.into_store-store.ensures.undone.kept early in
    first.was_open ((c.rollback.ensures.undone.kept clean).was_open h) in
    record {
      was_clean = λ honest.
          let none : IsClean (view last) = late honest in
          omega (arith, q.clean, c.rollback.ensures.quiet.clean, c.into_store-store.ensures.quiet.clean);
      whole = whole;
      holds = λ start honest tell image may. copy_holds conn stays (was_open honest) image (whole honest image may);
    }

pub returns-in-Err-clause-failed : goal.returns-in-Err-clause-failed
returns-in-Err-clause-failed g c =
    let it = c.into_store-store in
    let r = c.rollback.ensures.quiet in
    let q = c.checkpoint.ensures.quiet in
    record {
      was_clean = λ clean. omega (arith, q.clean, r.clean, it.ensures.quiet.clean);
      whole = λ clean image may. tt;
      holds = λ start clean numbered image may.
          store_holds c.args.conn c.checkpoint.new.self numbered
          (λ db found. it.ensures.sound (omega (arith, q.clean, r.clean)) db (r.outcomes db (q.outcomes db found)))
          (λ db found. it.ensures.quiet.outcomes db (r.outcomes db (q.outcomes db found))) image may;
    }

pub returns-in-Err-2-clause-failed : goal.returns-in-Err-2-clause-failed
returns-in-Err-2-clause-failed g c =
    let it = c.into_store-store in
    let r = c.rollback.ensures.quiet in
    let q = c.checkpoint.ensures.quiet in
    let last = c.checkpoint.new.self in
    record {
      was_clean = λ clean. omega (arith, q.clean, r.clean, it.ensures.quiet.clean);
      whole = λ clean image may. tt;
      holds = λ start clean tell image may.
          let early : IsClean (view it.result) = omega (arith, q.clean, r.clean) in
          let on : IsTrue (view last).is_open = elim (cases_Bool (view last).is_open) [
            | inl on ↦ on
            | inr shut ↦ absurd (both_ways _ (sym (c.if-is_broken-2.ensures.shown clean)) (shut_is_broken last shut))
          ] in
          let numbered : IsTrue (view last).is_numbered =
          ap (λ (v : View). v.is_numbered) (c.checkpoint.ensures.same on) ∙ c.rollback.ensures.undone.numbered ∙ it.ensures.numbered early in
          store_holds c.args.conn last numbered
          (λ db found. it.ensures.sound early db (r.outcomes db (q.outcomes db found)))
          (λ db found. it.ensures.quiet.outcomes db (r.outcomes db (q.outcomes db found))) image may;
    }
