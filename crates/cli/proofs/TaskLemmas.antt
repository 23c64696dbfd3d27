-- What a task printed, read and noted, from what was done over a connection and how that was closed. For `CallLemmas`.
use Rattle.std.proofs.Common.{◌≡◌, sym, subst, inl, inr, ℕ, List, Option}
use Rattle.std.specs.Io.KnownBytes.{IsAtEnd}
use Rattle.sqlite.specs.Store.{Ghosts}
use Rattle.sqlite.specs.Held.{Held}
use Rattle.program_ends.specs.Causes.{cause_of_end, cause_of_load}
use Rattle.program_ends.specs.Ends.{IfDone}
use Rattle.program_ends.specs.declared.ended.Ended.{Ended}
use Rattle.program_ends.specs.declared.ends.End.{End}
use Rattle.desk_jobs.specs.Ends.{TellsAccepted}
use Rattle.desk_jobs.specs.Notes.{MayNoteAll}
use Rattle.desk_jobs.specs.Openings.{Input}
use Rattle.http_conversations.specs.Worlds.{Exchange}
use Rattle.program_jobs.specs.Loads.{Loads, ReadsSource}
use Rattle.program_jobs.specs.Outcomes.{Closes, HasEnded}
use Rattle.program_jobs.specs.Serving.{ServesSo}
use Rattle.program_jobs.specs.Streams.{Streams}
use Rattle.program_jobs.specs.Tasks.{HasIndexed, HasMigrated, HasRecovered, HasServed, Runs}
use Rattle.program_jobs.specs.declared.outcomes.Count.TheVariants as count
use Rattle.program_jobs.specs.declared.outcomes.Outcome.{Outcome}
use Rattle.program_jobs.specs.declared.outcomes.Outcome.TheVariants as outcome
use Rattle.program_jobs.specs.declared.tasks.Source.{Source}
use Rattle.cli.specs.Ends.{TellsIndexed, TellsMigrated, TellsReady, TellsRecovered}
use Rattle.cli.proofs.EndLemmas.{count_told, done_as, ended_bad, ended_done, if_done, not_done}
use Rattle.cli.proofs.NoteLemmas.{first_alone}

module _ {S : Type 0} (g : Ghosts S) (old new : Held S) (closed told : Ended) where
  -- what was counted was printed
  module _ (held holds : Option (List ℕ)) where
    pub recovered_told : (o : Outcome) → HasRecovered g old new o → Closes o closed held holds told
        → IfDone told.end (TellsRecovered held holds)
    recovered_told (outcome.Ended job) has closes = not_done _ told.end (ended_bad closed told held holds job has.1.bad closes)
    recovered_told outcome.Shown has closes = absurd has
    recovered_told (outcome.Counted (count.Recovered made)) has closes =
        done_as told.end (λ wrote. (made, wrote)) (count_told closed told held holds (count.Recovered made) closes)
    recovered_told (outcome.Counted (count.Migrated m)) has closes = absurd has
    recovered_told (outcome.Counted (count.Indexed i)) has closes = absurd has

    pub migrated_told : (o : Outcome) → HasMigrated g old new o → Closes o closed held holds told
        → IfDone told.end (TellsMigrated held holds)
    migrated_told (outcome.Ended job) has closes = not_done _ told.end (ended_bad closed told held holds job has.1.bad closes)
    migrated_told outcome.Shown has closes = absurd has
    migrated_told (outcome.Counted (count.Migrated m)) has closes =
        done_as told.end (λ wrote. (m, wrote)) (count_told closed told held holds (count.Migrated m) closes)
    migrated_told (outcome.Counted (count.Recovered made)) has closes = absurd has
    migrated_told (outcome.Counted (count.Indexed i)) has closes = absurd has

    pub indexed_told : (o : Outcome) → HasIndexed g old new o → Closes o closed held holds told
        → IfDone told.end (TellsIndexed held holds)
    indexed_told (outcome.Ended job) has closes = not_done _ told.end (ended_bad closed told held holds job has.1.bad closes)
    indexed_told outcome.Shown has closes = absurd has
    indexed_told (outcome.Counted (count.Indexed i)) has closes =
        done_as told.end (λ wrote. (i, wrote)) (count_told closed told held holds (count.Indexed i) closes)
    indexed_told (outcome.Counted (count.Recovered made)) has closes = absurd has
    indexed_told (outcome.Counted (count.Migrated m)) has closes = absurd has

  -- What a task wrote before the closing. `t` has the output as it was then.
  module _ (t : Streams) (holds : Option (List ℕ)) where
    -- a job with an end of its own writes nothing after the closing
    ended_told : (Tells : Option (List ℕ) → Type 0) (job : Ended) → IfDone job.end (Tells t.holds)
        → Closes (outcome.Ended job) closed t.holds holds told → IfDone told.end (Tells holds)
    ended_told Tells job tells closes =
        done_as told.end (subst Tells (sym closes.2)) (ended_done closed told t.holds holds (Tells t.holds) job tells closes)

    -- a run that was done read its input to the end
    pub run_read : (o : Outcome) → HasEnded cause_of_end (Runs g old new t) o → Closes o closed t.holds holds told
        → IfDone told.end (IsAtEnd t.rest)
    run_read (outcome.Ended job) has closes = ended_done closed told t.holds holds (IsAtEnd t.rest) job has.1.read closes
    run_read outcome.Shown has closes = absurd has
    run_read (outcome.Counted c) has closes = absurd has

    module _ (files : List ℕ → Option (List ℕ)) where
      -- a load that was done printed an accepted reply
      loaded : (from : Source) (name : List ℕ) (e : End) → Loads g old new t files from name e
          → IfDone e (TellsAccepted t.held t.holds)
      loaded from name e loads = elim loads.either [
        | inl nothing ↦ not_done _ e nothing.bad
        | inr bytes ↦ bytes.told
      ]

      pub load_told : (from : Source) (name : List ℕ) (o : Outcome) → HasEnded cause_of_load (Loads g old new t files from name) o
          → Closes o closed t.holds holds told → IfDone told.end (TellsAccepted t.held holds)
      load_told from name (outcome.Ended job) has closes =
          ended_told (TellsAccepted t.held) job (loaded from name job.end has.1) closes
      load_told from name outcome.Shown has closes = absurd has
      load_told from name (outcome.Counted c) has closes = absurd has

      -- a desk that served until it was done had said that it is ready
      module _ (Came : End → List Exchange → Type 0) (port : ℕ) where
        served : {Why : End → Type 0} {GoesOn : Input → End → Type 0} (ended : Ended)
            → ServesSo Why GoesOn Came port t.held t.holds ended → IfDone ended.end (TellsReady port t.held t.holds)
        served ended (inl nobody) = not_done _ ended.end nobody.bad
        served ended (inr guests) = if_done ended.end guests.told

        pub serve_told : (o : Outcome) → HasServed g old new t files Came port o → Closes o closed t.holds holds told
            → IfDone told.end (TellsReady port t.held holds)
        serve_told (outcome.Ended job) has closes = ended_told (TellsReady port t.held) job (served job has.0.either) closes
        serve_told outcome.Shown has closes = absurd has
        serve_told (outcome.Counted c) has closes = absurd has

-- What was noted, and what was read of the input.

module _ {S : Type 0} (g : Ghosts S) (old new : Held S) (t : Streams) where
  pub run_noted : (o : Outcome) → HasEnded cause_of_end (Runs g old new t) o → MayNoteAll t.noted t.notes
  run_noted (outcome.Ended job) has = first_alone t.noted t.notes has.1.notes.may
  run_noted outcome.Shown has = absurd has
  run_noted (outcome.Counted c) has = absurd has

  module _ (files : List ℕ → Option (List ℕ)) where
    module _ (from : Source) (name : List ℕ) where
      noted_load : (e : End) → Loads g old new t files from name e → MayNoteAll t.noted t.notes
      noted_load e loads = elim loads.either [
        | inl nothing ↦ first_alone t.noted t.notes nothing.notes.may
        | inr bytes ↦ record { between = bytes.between; recovered = bytes.recovered.may; field = (_, bytes.field) }
      ]

      pub load_noted : (o : Outcome) → HasEnded cause_of_load (Loads g old new t files from name) o → MayNoteAll t.noted t.notes
      load_noted (outcome.Ended job) has = noted_load job.end has.1
      load_noted outcome.Shown has = absurd has
      load_noted (outcome.Counted c) has = absurd has

      -- a load from a file reads nothing of the input
      pub load_read : (o : Outcome) → HasEnded cause_of_load (Loads g old new t files from name) o → ReadsSource t from
      load_read (outcome.Ended job) has = has.1.read
      load_read outcome.Shown has = absurd has
      load_read (outcome.Counted c) has = absurd has

    module _ (Came : End → List Exchange → Type 0) (port : ℕ) where
      pub serve_noted : (o : Outcome) → HasServed g old new t files Came port o → MayNoteAll t.noted t.notes
      serve_noted (outcome.Ended job) has = first_alone t.noted t.notes has.0.note.may
      serve_noted outcome.Shown has = absurd has
      serve_noted (outcome.Counted c) has = absurd has

      -- a desk that serves reads nothing of the input
      pub serve_unread : (o : Outcome) → HasServed g old new t files Came port o → t.rest ≡ t.input
      serve_unread (outcome.Ended job) has = has.1
      serve_unread outcome.Shown has = absurd has
      serve_unread (outcome.Counted c) has = absurd has
