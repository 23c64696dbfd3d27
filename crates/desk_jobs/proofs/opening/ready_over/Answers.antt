-- The book over a connection from which a job may start may recover, and what is said of it is said of the connection.
-- More than 60 lines: two ways out and two clauses.
use Rattle.std.proofs.Common.{[]}
use Rattle.sqlite.specs.Held.{state}
use Rattle.ledger.specs.Answer.{start}
use Rattle.ledger.specs.World.{after}
use Rattle.saga_core.specs.Chains.{reopened}
use Rattle.program_ends.specs.declared.ends.End.TheVariants as finish
use Rattle.tables.specs.BookTerms.{LeavesBook, StandsBook}
use Rattle.desk_jobs.proofs.ExecutionLemmas.{stands_reopened}
use Rattle.desk_jobs.proofs.StageLemmas.{has_recovered, stopped_recovering}
use Rattle.desk_jobs.proofs.EndLemmas.{book_fault, no_opening, not_opening}
use Rattle.desk_jobs.proofs.FollowLemmas.{book_stands}
use Rattle.desk_jobs.proofs.ReasonLemmas.{acts_from, book_store, fails_as, may_recover, reason_from, run_store}
use Rattle.desk_jobs.proofs.opening.ready_over.Goals as goal

pub returns-in-Ok-recover-clause-ready : goal.returns-in-Ok-recover-clause-ready
returns-in-Ok-recover-clause-ready g c =
    let store = g.S.Store in
    let opened = c.in-Ok.ensures.opened in
    let did = c.in-Ok-recover.ensures in
    let first = record c.in-Ok.book { conn = c.args.conn; outside = c.requires.idle.outside } in
    record {
      recovered = λ sound s was. did.recovered sound s (opened.stands s was);
      world = λ sound w world stood. (
          let law = c.reopenings.ensures.reopens in
          let there = book_stands store c.args.conn c.in-Ok.book opened (did.stays.sound sound) (after start w) (law w world).desk stood in
          has_recovered (StandsBook store c.in-Ok-recover.recovered.0) (LeavesBook store c.in-Ok-recover.recovered.0) (reopened w)
          (did.world sound (reopened w) (stands_reopened law (StandsBook store c.in-Ok.book) w world there)));
      may_act = λ sound later s may. acts_from store first c.in-Ok-recover.recovered.0 later s _ (did.may_act sound first later s
          (may_recover store first c.in-Ok.book opened.up later s may (opened.may_act (did.stays.sound sound) later s may)
          (opened.stands s may.represents)));
      sound = λ sound. opened.sound (did.stays.sound sound);
    }

-- recovery failed for a reason
pub returns-in-Err-recover-clause-failed : goal.returns-in-Err-recover-clause-failed
returns-in-Err-recover-clause-failed g c =
    let store = g.S.Store in
    let opened = c.in-Ok.ensures.opened in
    let did = c.in-Err-recover.ensures in
    let first = record c.in-Ok.book { conn = c.args.conn; outside = c.requires.idle.outside } in
    record {
      opening = no_opening store c.args.conn c.into_store.result (finish.Fault c.into.result) tt
          (not_opening c.in-Err-recover.fault c.from.result c.into.result c.from.ensures c.into.ensures);
      reason = λ clean why. (
          let sound = c.into_store.ensures.sound clean in
          fails_as store c.args.conn c.into_store.result
          (λ s may. may_recover store first c.in-Ok.book opened.up [] s may (opened.may_act (did.stays_at_fault.sound sound) [] s may)
          (opened.stands s may.represents))
          (reason_from store first c.in-Err-recover.book c.into_store.result c.into_store.ensures.same)
          (did.reason sound first []
          (book_store c.in-Err-recover.fault c.from.result c.from.ensures (run_store c.from.result c.into.result c.into.ensures why))));
      fault = book_fault c.in-Err-recover.fault c.from.result c.into.result c.from.ensures c.into.ensures;
      bad = tt;
      left = λ clean w world stood. (
          let law = c.reopenings.ensures.reopens in
          let sound = c.into_store.ensures.sound clean in
          let there = book_stands store c.args.conn c.in-Ok.book opened (did.stays_at_fault.sound sound) (after start w) (law w world).desk
          stood in
          stopped_recovering (state store c.into_store.result) (LeavesBook store c.in-Err-recover.book) clean
          (λ s t may. c.into_store.ensures.left s t may) (StandsBook store c.in-Err-recover.book) (reopened w) _
          (did.world_at_fault sound (reopened w) (stands_reopened law (StandsBook store c.in-Ok.book) w world there)));
      leaves = record {
        idle = c.into_store.ensures.idle;
        sound = λ clean. opened.sound (did.stays_at_fault.sound (c.into_store.ensures.sound clean));
      };
    }
