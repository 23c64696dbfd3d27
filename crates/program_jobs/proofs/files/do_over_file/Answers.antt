-- The task was done over the connection that was opened, which was then closed; or the file was not opened, and nothing was done.
use Rattle.std.proofs.Common.{inr}
use Rattle.sqlite_wal.specs.Files.{image_at}
use Rattle.program_jobs.specs.Streams.{streams}
use Rattle.program_jobs.proofs.TaskLemmas.{task_ran, unopened_ran}
use Rattle.program_jobs.proofs.files.do_over_file.Goals as goal

pub returns-in-Err-clause-ran : goal.returns-in-Err-clause-ran
returns-in-Err-clause-ran g c =
    let input = g.R.Read.remaining c.args.reader.now in
    let held = g.O.Write.contents c.args.out.now in
    let noted = g.N.Write.contents c.args.notes.now in
    record {
      written = held;
      ran = unopened_ran c.reopenings.ensures.reopens (image_at g.S.Start) c.in-Err.failed.1
          (g.E.Environment.bytes_of c.args.environment.now) _ c.in-Err.ensures.left (streams input input held held noted noted)
          c.args.task.now;
    }

pub returns-clause-did : goal.returns-clause-did
returns-clause-did g c = inr (record {
  old = c.in-Ok.opened.0;
  new = c.do_job-conn.result.0;
  outcome = c.do_job-conn.result.1;
  written = g.O.Write.contents c.do_job-conn.new.out;
  does = c.do_job-conn.ensures.does;
  closed = c.close_from-closed.result.0;
  ends = c.close_from-closed.ensures.job;
  closes = c.report.ensures.closes;
})

pub returns-clause-ran : goal.returns-clause-ran
returns-clause-ran g c = record {
  written = g.O.Write.contents c.do_job-conn.new.out;
  ran = task_ran c.reopenings.ensures.reopens (image_at g.S.Start) c.close_from-closed.result.1
      (g.E.Environment.bytes_of c.args.environment.now) _ c.in-Ok.opened.0 c.do_job-conn.result.0 c.openings.ensures.stands
      c.in-Ok.ensures.opened c.do_job-conn.ensures.leaves c.close_from-closed.ensures.closes
      (streams (g.R.Read.remaining c.args.reader.now) (g.R.Read.remaining c.do_job-conn.new.reader)
      (g.O.Write.contents c.args.out.now) (g.O.Write.contents c.do_job-conn.new.out)
      (g.N.Write.contents c.args.notes.now) (g.N.Write.contents c.do_job-conn.new.notes))
      c.args.task.now c.do_job-conn.result.1 c.do_job-conn.ensures.does;
}
