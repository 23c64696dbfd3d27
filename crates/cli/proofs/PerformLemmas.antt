-- What the exit status says, once an end was printed. For `perform` and `perform_explained`.
use Rattle.std.proofs.Common.{◌≡◌, ◌≤◌, ◌∙◌, sym, subst, inl, inr, ℕ, List, [], take, Option, arith, append-nil}
use Rattle.std.proofs.Math.Seq.{take-nil}
use Rattle.std.specs.Io.KnownBytes.{Appends, Keeps}
use Rattle.saga_core.proofs.ByteLemmas.{appends_more, appends_none}
use Rattle.saga_core.specs.Written.{WroteFront}
use Rattle.commands.specs.Texts.{refusal_line, reply_line}
use Rattle.commands.specs.declared.replies.Refusal.TheVariants as refusal
use Rattle.saga_core.specs.StreamScenes.{ended}
use Rattle.command_line.specs.Version.{version_line}
use Rattle.command_line.specs.declared.jobs.Job.{Job}
use Rattle.command_line.specs.declared.jobs.Job.TheVariants.{Run, Serve, Recover, Load, Stock, Calendar, Summary, Holders, Holdings, Unfinished, Journeys, History, Why, Migrate, Index, Version}
use Rattle.program_ends.specs.Ends.{EndsJob, IfDone, TellsError, TellsNoneOrFault, status_of, told_out}
use Rattle.program_ends.specs.declared.ended.Ended.{Ended}
use Rattle.program_ends.specs.declared.ends.End.{End}
use Rattle.program_ends.specs.declared.ends.End.TheVariants as finish
use Rattle.desk_jobs.specs.Ends.{recovered_line}
use Rattle.desk_jobs.specs.Migrating.{indexed_line, migrated_line}
use Rattle.program_jobs.specs.Serving.{ready_line}
use Rattle.program_jobs.specs.Streams.{streams}
use Rattle.cli.specs.Doing.{EndsCall}
use Rattle.cli.specs.Ends.{HasBadId, ReadsFor, TellsOf}

-- the exit status of a job is 0 or 1
job_status : (e : End) → EndsJob e → status_of e ≤ 1
job_status finish.Done job = omega arith
job_status (finish.Refused why) job = omega arith
job_status (finish.Fault f) job = omega arith
job_status (finish.Usage text) job = absurd job

-- at 0 all was done
done_then : (P : Type 0) (e : End) → IfDone e P → status_of e ≡ 0 → P
done_then P finish.Done holds is = holds
done_then P (finish.Refused why) holds is = absurd (omega (arith, is))
done_then P (finish.Fault f) holds is = absurd (omega (arith, is))
done_then P (finish.Usage text) holds is = absurd (omega (arith, is))

-- nothing is printed of an end where all was done
none_told : (printed holds : Option (List ℕ)) (e : End) → WroteFront printed holds (told_out e) → status_of e ≡ 0
    → Appends printed holds []
none_told printed holds finish.Done wrote is = subst (Appends printed holds) (take-nil wrote.0) wrote.1
none_told printed holds (finish.Refused why) wrote is = absurd (omega (arith, is))
none_told printed holds (finish.Fault f) wrote is = absurd (omega (arith, is))
none_told printed holds (finish.Usage text) wrote is = absurd (omega (arith, is))

module _ (held printed holds : Option (List ℕ)) (none : Appends printed holds []) where
  still_appends : (text : List ℕ) → Appends held printed text → Appends held holds text
  still_appends text wrote = subst (Appends held holds) (append-nil text) (appends_more held printed holds text [] wrote none)

  -- what was told before the end was printed, is told after it
  still_told : (j : Job) → TellsOf j held printed → TellsOf j held holds
  still_told (Run file) told = tt
  still_told (Serve file port connections house page log wide) told = still_appends (ready_line port) told
  still_told (Recover file) told = (told.0, still_appends (recovered_line told.0) told.1)
  still_told (Load file csv batch) told = (told.0, told.1, still_appends (ended (reply_line told.0)) told.2)
  still_told (Stock file filter format) told = tt
  still_told (Calendar file filter) told = tt
  still_told (Summary file filter format) told = tt
  still_told (Holders file cell format) told = tt
  still_told (Holdings file filter format) told = tt
  still_told (Unfinished file filter format) told = tt
  still_told (Journeys file filter format) told = tt
  still_told (History file id format) told = tt
  still_told (Why file id format) told = tt
  still_told (Migrate file) told = (told.0, still_appends (migrated_line told.0.events) told.1)
  still_told (Index file) told = (told.0, still_appends (indexed_line told.0) told.1)
  still_told Version told = still_appends version_line told

-- the line of a refusal that was printed
front_kept : (held printed holds : Option (List ℕ)) (text : List ℕ) → Keeps held printed → WroteFront printed holds text
    → WroteFront held holds text
front_kept held printed holds text kept wrote =
    (wrote.0, appends_more held printed holds [] (take wrote.0 text) (appends_none held printed kept) wrote.1)

module _ (j : Job) (input rest held printed noted notes : Option (List ℕ)) (it : Ended)
    (ends : EndsCall j (streams input rest held printed noted notes) it) (status : ℕ) (exits : status ≡ status_of it.end) where
  pub ends_status : status ≤ 1
  ends_status = subst (λ n. n ≤ 1) (sym exits) (job_status it.end ends.job)

  pub ends_read : status ≡ 0 → ReadsFor j input rest
  ends_read is = done_then (ReadsFor j input rest) it.end ends.read (sym exits ∙ is)

  module _ (holds : Option (List ℕ)) (wrote : WroteFront printed holds (told_out it.end)) where
    pub ends_told : status ≡ 0 → TellsOf j held holds
    ends_told is =
        still_told held printed holds (none_told printed holds it.end wrote (sym exits ∙ is)) j
        (done_then (TellsOf j held printed) it.end ends.told (sym exits ∙ is))

    pub ends_bad_id : HasBadId j → (status ≡ 1) × WroteFront held holds (ended (refusal_line refusal.BadBody))
    ends_bad_id bad =
        let end = ends.bad_id bad in (
          subst (λ e. status ≡ status_of e) end exits,
          front_kept held printed holds (ended (refusal_line refusal.BadBody)) (ends.untold bad)
              (subst (λ e. WroteFront printed holds (told_out e)) end wrote),
        )

-- on standard error there is nothing where all was done, and at most the line of a fault
module _ (held holds : Option (List ℕ)) where
  pub quiet_then : (e : End) (status : ℕ) → status ≡ status_of e → TellsError e held holds → status ≡ 0 → Keeps held holds
  quiet_then finish.Done status exits told is = told
  quiet_then (finish.Refused why) status exits told is = absurd (omega (arith, exits, is))
  quiet_then (finish.Fault f) status exits told is = absurd (omega (arith, exits, is))
  quiet_then (finish.Usage text) status exits told is = absurd (omega (arith, exits, is))

  pub none_or_fault : (e : End) → EndsJob e → TellsError e held holds → TellsNoneOrFault held holds
  none_or_fault finish.Done job told = inl told
  none_or_fault (finish.Refused why) job told = told
  none_or_fault (finish.Fault f) job told = inr (f, told)
  none_or_fault (finish.Usage text) job told = absurd job
