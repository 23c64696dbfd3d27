-- The desk that answers was recovered.
-- More than 60 lines: two ways out and five clauses.
use Rattle.std.proofs.Common.{option_map}
use Rattle.recovery.specs.Lines.{lines}
use Rattle.recovery.specs.LineWorlds.{asks_in}
use Rattle.desk_jobs.specs.Openings.{Lines}
use Rattle.desk_jobs.proofs.AnswerLemmas.{undone_for}
use Rattle.desk_jobs.proofs.EndLemmas.{bad_job, not_done, recovery_fault}
use Rattle.desk_jobs.proofs.FollowLemmas.{follows_not_up, follows_up, lines_unserved}
use Rattle.desk_jobs.proofs.ReasonLemmas.{fails_before}
use Rattle.desk_jobs.proofs.RecoveredLemmas.{front_without_recovery, recovery_noted, unnoted}
use Rattle.desk_jobs.proofs.RunLemmas.{run_answers, run_done, run_ends, run_follows}
use Rattle.desk_jobs.proofs.running.run_over.Goals as goal

-- recovery failed, or one of the asks after it
pub returns-in-Ok-clause-answers : goal.returns-in-Ok-clause-answers
returns-in-Ok-clause-answers g c =
    let ran = c.run_lines-answered.ensures in
    rw c.end_of_run.ensures.end
    (run_answers g.S.Store c.args.conn c.let_go-conn.result c.in-Ok.desk c.run_lines-answered.new.book c.in-Ok.made c.in-Ok.ensures.ready
    c.let_go-conn.ensures.gone ran.serves.sound _ _ _ c.run_lines-answered.result ran.all ran.some ran.reason)

pub returns-in-Err-clause-answers : goal.returns-in-Err-clause-answers
returns-in-Err-clause-answers g c =
    let input = g.R.Read.remaining c.args.reader.now in
    let failed = c.in-Err.ensures.failed in
    record {
      all = λ clean s was. undone_for c.in-Err.end failed.bad _ input;
      front = λ clean s was. front_without_recovery _ s input (c.one_recovery.ensures.one s was.desk.legal);
      reason = λ clean why. fails_before g.S.Store c.args.conn _ (λ bytes. asks_in (lines bytes)) input (failed.reason clean why);
    }

pub returns-in-Ok-clause-read : goal.returns-in-Ok-clause-read
returns-in-Ok-clause-read g c =
    rw c.end_of_run.ensures.end (run_done _ c.run_lines-answered.result c.run_lines-answered.ensures.read)

pub returns-in-Err-clause-read : goal.returns-in-Err-clause-read
returns-in-Err-clause-read g c = not_done _ c.in-Err.end c.in-Err.ensures.failed.bad

pub returns-in-Ok-clause-notes : goal.returns-in-Ok-clause-notes
returns-in-Ok-clause-notes g c =
    recovery_noted g.S.Store c.args.conn c.let_go-conn.result c.in-Ok.desk c.in-Ok.made c.in-Ok.ensures.ready
    (λ clean. c.run_lines-answered.ensures.serves.sound (c.let_go-conn.ensures.gone.sound clean)) _ _ c.note_recovered.ensures

pub returns-in-Err-clause-notes : goal.returns-in-Err-clause-notes
returns-in-Err-clause-notes g c = unnoted g.S.Store c.args.conn c.in-Err.conn _

-- a run refuses what its opening refuses, and nothing else
pub returns-in-Ok-clause-ends : goal.returns-in-Ok-clause-ends
returns-in-Ok-clause-ends g c = rw c.end_of_run.ensures.end (run_ends g.S.Store _ _ c.run_lines-answered.result)

pub returns-in-Err-clause-ends : goal.returns-in-Err-clause-ends
returns-in-Err-clause-ends g c =
    let failed = c.in-Err.ensures.failed in
    record { opening = failed.opening; fault = recovery_fault c.in-Err.end failed.fault; job = bad_job c.in-Err.end failed.bad }

-- a run follows from how its desk came up
pub returns-in-Ok-clause-follows : goal.returns-in-Ok-clause-follows
returns-in-Ok-clause-follows g c =
    let store = g.S.Store in
    let ran = c.run_lines-answered.ensures in
    let gone = c.let_go-conn.ensures.gone in
    let ready = c.in-Ok.ensures.ready in
    let known = g.R.Read.remaining c.args.reader.now in
    follows_up store c.in-Ok.desk c.let_go-conn.result (option_map Lines known) _ _ c.reopenings.ensures.reopens c.args.conn
    (λ clean. ready.world (ran.serves.sound (gone.sound clean))) c.end_of_run.result
    (rw c.end_of_run.ensures.end
    (run_follows store c.args.conn c.let_go-conn.result c.in-Ok.desk c.run_lines-answered.new.book c.in-Ok.made ready gone ran.serves.sound _ _
    known c.run_lines-answered.result ran.all ran.world ran.world_at_fault))

pub returns-in-Err-clause-follows : goal.returns-in-Err-clause-follows
returns-in-Err-clause-follows g c =
    let known = g.R.Read.remaining c.args.reader.now in
    let failed = c.in-Err.ensures.failed in
    follows_not_up g.S.Store c.args.conn _ (option_map Lines known) _ _ c.reopenings.ensures.reopens failed.left failed.bad
    (lines_unserved known)
