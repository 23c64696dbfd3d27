-- The event is committed with its reply, or not, and what a crash then leaves.
use Rattle.std.proofs.Common.{◌≡◌, rules}
use Rattle.sql_writes.specs.Kinds.{asks}
use Rattle.sql_writes.proofs.CommitLemmas.{left_of, wrote_of, commits_ok, commits_err, leaves_undone}
use Rattle.sql_writes.proofs.committing.commit_event.Goals as goal

-- the commit succeeded: the connection keeps the next state
pub returns-in-Ok : goal.returns-in-Ok
returns-in-Ok g c = record {
  commits = λ line is. (
      let same : c.conn-2-1.given.0 ≡ c.commit.new.self.0 = search rules in
      let wrote = wrote_of c.args.conn.now c.transaction-tx.ensures.begun (c.in_default.ensures.did line is) in
      rw same (commits_ok g.S.Store c.args.conn.now c.write_event.new.tx.conn.now c.commit.new.self.0 c.commit.ensures.ended
      c.args.numbers c.args.event.now (asks c.args.keeping) line wrote c.commit.ensures.survives
      g.met.S.Store.settled (λ clean. (c.in-Ok.ensures.ok clean).1)));
}

-- the commit failed because the disk did, or out of memory
pub returns-in-Err-commit : goal.returns-in-Err-commit
returns-in-Err-commit g c = record {
  commits = λ line is. (
      let same : c.conn-2-1.given.0 ≡ c.commit.new.self.0 = search rules in
      let wrote = wrote_of c.args.conn.now c.transaction-tx.ensures.begun (c.in_default.ensures.did line is) in
      rw same (commits_err g.S.Store c.args.conn.now c.write_event.new.tx.conn.now c.commit.new.self.0 c.commit.ensures.ended
      c.args.numbers c.args.event.now (asks c.args.keeping) line wrote c.commit.ensures.survives
      (λ clean. c.in-Err-commit.ensures.err clean)));
}

-- nothing was written: what began is undone
pub returns-in-Err : goal.returns-in-Err
returns-in-Err g c = record {
  commits = λ line is. (
      let same : c.conn-1.given.0 ≡ c.rollback.new.self.0 = search rules in
      record {
        done = λ s next leads keeps. tt;
        memory = λ s keeps ran. search rules;
        store = λ clean s keeps permits has up failed. search rules;
        leaves = rw same (leaves_undone g.S.Store c.args.conn.now c.write_event.new.tx.conn.now c.rollback.new.self.0
            c.rollback.ensures.ended c.args.numbers c.args.event.now (asks c.args.keeping) line
            (left_of c.args.conn.now c.transaction-tx.ensures.begun (c.in-Err.ensures.did line is)) c.rollback.ensures.survives
            (λ clean. c.rollback.ensures.undone clean));
      });
}
