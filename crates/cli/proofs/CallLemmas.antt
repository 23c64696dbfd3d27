-- What the end of a call says by its job, from what was done for it. For `doing`.
use Rattle.std.proofs.Common.{◌≡◌, refl, ap, sym, subst, inl, inr, ℕ, Bool, Global, String, List, Option, None, Some, option_map, string_bytes}
use Rattle.std.specs.Io.KnownBytes.{Keeps}
use Rattle.sqlite.specs.Store.{Ghosts}
use Rattle.saga_core.proofs.ByteLemmas.{keeps_same}
use Rattle.command_line.specs.declared.asking.Socket.{Socket}
use Rattle.command_line.specs.declared.jobs.Job.{Job}
use Rattle.command_line.specs.declared.jobs.Job.TheVariants.{Run, Serve, Recover, Load, Stock, Calendar, Summary, Holders, Holdings, Unfinished, Journeys, History, Why, Migrate, Index, Version}
use Rattle.command_line.specs.declared.jobs.LogForm.{LogForm}
use Rattle.desk_jobs.specs.Notes.{MayNoteAll}
use Rattle.http_conversations.specs.Worlds.{Exchange}
use Rattle.program_ends.specs.Ends.{EndsBadly, EndsJob, IfDone}
use Rattle.program_ends.specs.declared.ended.Ended.{Ended}
use Rattle.program_ends.specs.declared.ends.End.{End}
use Rattle.program_ends.specs.declared.ends.End.TheVariants as finish
use Rattle.program_ends.specs.declared.faults.ProgramFault.TheVariants as fault
use Rattle.program_jobs.proofs.OutcomeLemmas.{does_job}
use Rattle.program_jobs.specs.Loads.{ReadsSource}
use Rattle.program_jobs.specs.Streams.{IsOnlyWritten, IsUntouched, Streams}
use Rattle.program_jobs.specs.declared.tasks.Source.{Source}
use Rattle.program_jobs.specs.declared.tasks.Source.TheVariants as source
use Rattle.program_jobs.specs.declared.tasks.Task.{Task}
use Rattle.program_jobs.specs.declared.tasks.Task.TheVariants as task
use Rattle.saga_core.specs.declared.report.Report.{Report}
use Rattle.saga_core.specs.declared.report.Report.TheVariants as report
use Rattle.report_words.specs.Jobs.{report_of}
use Rattle.program_jobs.specs.Doing.{Did, DidOver, IsUnopened}
use Rattle.cli.specs.Actions.{IsActionOf, IsLoadAction, IsLoadOf, IsOfLoad, IsReportAction, IsSourceOf}
use Rattle.cli.specs.declared.actions.Action.{Action}
use Rattle.cli.specs.declared.actions.Action.TheVariants as action
use Rattle.cli.specs.Doing.{DidAction, EndsCall, Refused}
use Rattle.cli.specs.Ends.{HasBadId, ReadsFor, ReadsOnlyInput, TellsOf}
use Rattle.cli.proofs.EndLemmas.{bad_job, closes_job, if_done, not_done}
use Rattle.cli.proofs.NoteLemmas.{none_noted}
use Rattle.cli.proofs.TaskLemmas.{indexed_told, load_noted, load_read, load_told, migrated_told, recovered_told, run_noted, run_read, serve_noted, serve_told, serve_unread}

-- an allotment file that is not `-` is not read from the input
only_input : (t : Streams) (csv : List ℕ) (from : Source) → IsSourceOf csv from → ReadsSource t from
    → ReadsOnlyInput csv t.input t.rest
only_input t csv source.Input is reads other = absurd (other is)
only_input t csv (source.File name) is reads other = reads (λ same. cc)

some_none : {A : Type 0} (x : A) → Some x ≡ None → ⊥
some_none x is = cc

-- the words of a history whose word is no number of a journey ask for no report
bad_report : (j : Job) → HasBadId j → report_of j ≡ None
bad_report (History file id format) bad = ap (option_map (λ (n : ℕ). report.History n format)) bad
bad_report (Run file) bad = absurd bad
bad_report (Serve file port connections house page log wide) bad = absurd bad
bad_report (Recover file) bad = absurd bad
bad_report (Load file csv batch) bad = absurd bad
bad_report (Stock file filter format) bad = absurd bad
bad_report (Calendar file filter) bad = absurd bad
bad_report (Summary file filter format) bad = absurd bad
bad_report (Holders file cell format) bad = absurd bad
bad_report (Holdings file filter format) bad = absurd bad
bad_report (Unfinished file filter format) bad = absurd bad
bad_report (Journeys file filter format) bad = absurd bad
bad_report (Why file id format) bad = absurd bad
bad_report (Migrate file) bad = absurd bad
bad_report (Index file) bad = absurd bad
bad_report Version bad = absurd bad

-- What is said without a task.
module _ (t : Streams) (ended : Ended) where
  -- What the end of a job says that is no history of a bad word.
  module _ (j : Job) (good : HasBadId j → ⊥) where
    -- nothing was done
    unopened : IsUnopened t ended → EndsCall j t ended
    unopened none = record {
      job = bad_job ended.end none.bad;
      read = not_done _ ended.end none.bad;
      told = not_done _ ended.end none.bad;
      notes = subst (MayNoteAll t.noted) (sym none.untouched.only.unnoted) (none_noted t.noted);
      bad_id = λ bad. absurd (good bad);
      untold = λ bad. absurd (good bad);
    }

    -- what only writes
    written_call : EndsJob ended.end → IsOnlyWritten t → ReadsFor j t.input t.input → IfDone ended.end (TellsOf j t.held t.holds)
        → EndsCall j t ended
    written_call job only reads tells = record {
      job = job;
      read = if_done ended.end (subst (ReadsFor j t.input) (sym only.unread) reads);
      told = tells;
      notes = subst (MayNoteAll t.noted) (sym only.unnoted) (none_noted t.noted);
      bad_id = λ bad. absurd (good bad);
      untold = λ bad. absurd (good bad);
    }

  -- refused words
  refused_call : (j : Job) → Refused t ended → ReadsFor j t.input t.input → TellsOf j t.held t.holds → EndsCall j t ended
  refused_call j none reads tells = record {
    job = subst EndsJob (sym none.end) tt;
    read = if_done ended.end (subst (ReadsFor j t.input) (sym none.untouched.only.unread) reads);
    told = if_done ended.end tells;
    notes = subst (MayNoteAll t.noted) (sym none.untouched.only.unnoted) (none_noted t.noted);
    bad_id = λ bad. none.end;
    untold = λ bad. subst (Keeps t.held) (sym none.untouched.unwritten) (keeps_same t.held);
  }

  -- memory ran out for the words of a load
  pub nothing_ends : (j : Job) → IsOfLoad j → ended.end ≡ finish.Fault fault.Memory → IsUntouched t → EndsCall j t ended
  nothing_ends (Load file csv batch) load is untouched =
      unopened (Load file csv batch) (λ bad. bad) (record { bad = subst EndsBadly (sym is) tt; untouched = untouched })
  nothing_ends (Run file) load is untouched = absurd load
  nothing_ends (Serve file port connections house page log wide) load is untouched = absurd load
  nothing_ends (Recover file) load is untouched = absurd load
  nothing_ends (Stock file filter format) load is untouched = absurd load
  nothing_ends (Calendar file filter) load is untouched = absurd load
  nothing_ends (Summary file filter format) load is untouched = absurd load
  nothing_ends (Holders file cell format) load is untouched = absurd load
  nothing_ends (Holdings file filter format) load is untouched = absurd load
  nothing_ends (Unfinished file filter format) load is untouched = absurd load
  nothing_ends (Journeys file filter format) load is untouched = absurd load
  nothing_ends (History file id format) load is untouched = absurd load
  nothing_ends (Why file id format) load is untouched = absurd load
  nothing_ends (Migrate file) load is untouched = absurd load
  nothing_ends (Index file) load is untouched = absurd load
  nothing_ends Version load is untouched = absurd load

module _ {S : Type 0} (g : Ghosts S) (files : List ℕ → Option (List ℕ)) (Came : End → List Exchange → Type 0) (t : Streams)
    (ended : Ended) where
  -- the end of a task
  ends_job : (work : Task) → Did g files Came work t ended → EndsJob ended.end
  ends_job work (inl none) = bad_job ended.end none.bad
  ends_job work (inr did) =
      closes_job did.closed ended did.written t.holds did.outcome
      (does_job g did.old did.new (record t { holds = did.written }) files Came work did.outcome did.does) did.ends did.closes

  -- a report reads and notes nothing
  only_written : (shown : Report) → Did g files Came (task.Report shown) t ended → IsOnlyWritten t
  only_written shown (inl none) = none.untouched.only
  only_written shown (inr did) = record { unread = did.does.only.unread; unnoted = did.does.only.unnoted }

  -- a task that only counts
  counts_call : (j : Job) → (HasBadId j → ⊥) → (work : Task) (did : DidOver g files Came work t ended)
      → IsUntouched (record t { holds = did.written }) → ReadsFor j t.input t.input → IfDone ended.end (TellsOf j did.written t.holds) → EndsCall j t ended
  counts_call j good work did untouched reads told = record {
    job = ends_job work (inr did);
    read = if_done ended.end (subst (ReadsFor j t.input) (sym untouched.only.unread) reads);
    told = subst (λ (held : Option (List ℕ)). IfDone ended.end (TellsOf j held t.holds)) untouched.unwritten told;
    notes = subst (MayNoteAll t.noted) (sym untouched.only.unnoted) (none_noted t.noted);
    bad_id = λ bad. absurd (good bad);
    untold = λ bad. absurd (good bad);
  }

  -- what was done is what is asked for
  did_as : (a b : Action) → a ≡ b → DidAction g files Came t ended a → DidAction g files Came t ended b
  did_as a b is did = subst (λ (x : Action). DidAction g files Came t ended x) is did

  -- the words of a report
  report_call : (j : Job) (shown : Option Report) → (HasBadId j → shown ≡ None) → (socket : Option Socket) (a : Action)
      → IsReportAction shown socket a → DidAction g files Came t ended a → ReadsFor j t.input t.input → TellsOf j t.held t.holds
      → EndsCall j t ended
  report_call j None none socket a is did reads tells = refused_call t ended j (did_as a action.Refuse is did) reads tells
  report_call j (Some shown) none None a is did reads tells =
      let it = did_as a (action.Do (task.Report shown)) is did in
      written_call t ended j (λ bad. some_none shown (none bad)) (ends_job (task.Report shown) it) (only_written shown it) reads
      (if_done ended.end tells)
  report_call j (Some shown) none (Some socket) a is did reads tells =
      let it = did_as a action.Ask is did in
      written_call t ended j (λ bad. some_none shown (none bad)) it.job it.only reads (if_done ended.end tells)

  -- tasks
  recover_call : (file : String Global) → Did g files Came task.Recover t ended → EndsCall (Recover file) t ended
  recover_call file (inl none) = unopened t ended (Recover file) (λ bad. bad) none
  recover_call file (inr d) = counts_call (Recover file) (λ bad. bad) task.Recover d d.does.1 refl
      (recovered_told g d.old d.new d.closed ended d.written t.holds d.outcome d.does.0.counted d.closes)

  migrate_call : (file : String Global) → Did g files Came task.Migrate t ended → EndsCall (Migrate file) t ended
  migrate_call file (inl none) = unopened t ended (Migrate file) (λ bad. bad) none
  migrate_call file (inr d) = counts_call (Migrate file) (λ bad. bad) task.Migrate d d.does.1 refl
      (migrated_told g d.old d.new d.closed ended d.written t.holds d.outcome d.does.0.counted d.closes)

  index_call : (file : String Global) → Did g files Came task.Index t ended → EndsCall (Index file) t ended
  index_call file (inl none) = unopened t ended (Index file) (λ bad. bad) none
  index_call file (inr d) = counts_call (Index file) (λ bad. bad) task.Index d d.does.1 refl
      (indexed_told g d.old d.new d.closed ended d.written t.holds d.outcome d.does.0.counted d.closes)

  run_call : (file : String Global) → Did g files Came task.Run t ended → EndsCall (Run file) t ended
  run_call file (inl none) = unopened t ended (Run file) (λ bad. bad) none
  run_call file (inr d) =
      let now = record t { holds = d.written } in
      record {
        job = ends_job task.Run (inr d);
        read = run_read g d.old d.new d.closed ended now t.holds d.outcome d.does d.closes;
        told = if_done ended.end tt;
        notes = run_noted g d.old d.new now d.outcome d.does;
        bad_id = λ bad. absurd bad;
        untold = λ bad. absurd bad;
      }

  load_call : (file csv name : String Global) (from : Source) (batch : String Global) → IsSourceOf (string_bytes csv) from
      → Did g files Came (task.Load from batch) t ended → EndsCall (Load file csv name) t ended
  load_call file csv name from batch is (inl none) = unopened t ended (Load file csv name) (λ bad. bad) none
  load_call file csv name from batch is (inr d) =
      let now = record t { holds = d.written } in
      record {
        job = ends_job (task.Load from batch) (inr d);
        read = if_done ended.end
            (only_input t (string_bytes csv) from is
            (load_read g d.old d.new now files from (string_bytes batch) d.outcome d.does));
        told = load_told g d.old d.new d.closed ended now t.holds files from (string_bytes batch) d.outcome d.does d.closes;
        notes = load_noted g d.old d.new now files from (string_bytes batch) d.outcome d.does;
        bad_id = λ bad. absurd bad;
        untold = λ bad. absurd bad;
      }

  loads_call : (file csv name : String Global) (work : Task) → IsLoadOf (string_bytes csv) (string_bytes name) work
      → Did g files Came work t ended → EndsCall (Load file csv name) t ended
  loads_call file csv name (task.Load from batch) is did = load_call file csv name from batch is.0 did
  loads_call file csv name task.Run is did = absurd is
  loads_call file csv name (task.Serve port) is did = absurd is
  loads_call file csv name task.Recover is did = absurd is
  loads_call file csv name (task.Report shown) is did = absurd is
  loads_call file csv name task.Migrate is did = absurd is
  loads_call file csv name task.Index is did = absurd is

  loading_call : (file csv name : String Global) (a : Action) → IsLoadAction (string_bytes csv) (string_bytes name) a
      → DidAction g files Came t ended a → EndsCall (Load file csv name) t ended
  loading_call file csv name (action.Do work) is did = loads_call file csv name work is did
  loading_call file csv name action.Ask is did = absurd is
  loading_call file csv name action.Refuse is did = absurd is
  loading_call file csv name action.ShowVersion is did = absurd is

  serve_call : (file : String Global) (port : ℕ) (connections : Option ℕ) (house : Option (String Global)) (page : Bool)
      (log : Option LogForm) (wide : Bool) → Did g files Came (task.Serve port) t ended
      → EndsCall (Serve file port connections house page log wide) t ended
  serve_call file port connections house page log wide (inl none) =
      unopened t ended (Serve file port connections house page log wide) (λ bad. bad) none
  serve_call file port connections house page log wide (inr d) =
      let now = record t { holds = d.written } in
      record {
        job = ends_job (task.Serve port) (inr d);
        read = if_done ended.end (serve_unread g d.old d.new now files Came port d.outcome d.does);
        told = serve_told g d.old d.new d.closed ended now t.holds files Came port d.outcome d.does d.closes;
        notes = serve_noted g d.old d.new now files Came port d.outcome d.does;
        bad_id = λ bad. absurd bad;
        untold = λ bad. absurd bad;
      }

  -- what a job asks for was done
  pub call_ends : (j : Job) (socket : Option Socket) (a : Action) → IsActionOf j socket a → DidAction g files Came t ended a
      → EndsCall j t ended
  call_ends (Run file) socket a is did = run_call file (did_as a (action.Do task.Run) is did)
  call_ends (Serve file port connections house page log wide) socket a is did =
      serve_call file port connections house page log wide (did_as a (action.Do (task.Serve port)) is did)
  call_ends (Recover file) socket a is did = recover_call file (did_as a (action.Do task.Recover) is did)
  call_ends (Load file csv batch) socket a is did = loading_call file csv batch a is did
  call_ends (Stock file filter format) socket a is did =
      report_call (Stock file filter format)
      (report_of (Stock file filter format)) (λ bad. absurd bad) socket a is did refl tt
  call_ends (Calendar file filter) socket a is did =
      report_call (Calendar file filter)
      (report_of (Calendar file filter)) (λ bad. absurd bad) socket a is did refl tt
  call_ends (Summary file filter format) socket a is did =
      report_call (Summary file filter format)
      (report_of (Summary file filter format)) (λ bad. absurd bad) socket a is did refl tt
  call_ends (Holders file cell format) socket a is did =
      report_call (Holders file cell format)
      (report_of (Holders file cell format)) (λ bad. absurd bad) socket a is did refl tt
  call_ends (Holdings file filter format) socket a is did =
      report_call (Holdings file filter format)
      (report_of (Holdings file filter format)) (λ bad. absurd bad) socket a is did refl tt
  call_ends (Unfinished file filter format) socket a is did =
      report_call (Unfinished file filter format)
      (report_of (Unfinished file filter format)) (λ bad. absurd bad) socket a is did refl tt
  call_ends (Journeys file filter format) socket a is did =
      report_call (Journeys file filter format)
      (report_of (Journeys file filter format)) (λ bad. absurd bad) socket a is did refl tt
  call_ends (History file id format) socket a is did =
      report_call (History file id format)
      (report_of (History file id format)) (bad_report (History file id format)) socket a is did refl tt
  call_ends (Why file id format) socket a is did =
      report_call (Why file id format)
      (report_of (Why file id format)) (λ bad. absurd bad) socket a is did refl tt
  call_ends (Migrate file) socket a is did = migrate_call file (did_as a (action.Do task.Migrate) is did)
  call_ends (Index file) socket a is did = index_call file (did_as a (action.Do task.Index) is did)
  call_ends Version socket a is did =
      let it = did_as a action.ShowVersion is did in written_call t ended Version (λ bad. bad) it.job it.only refl it.told
