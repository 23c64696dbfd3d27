-- What a job came to, and its end once its connection was closed.
use Rattle.std.specs.Prelude.{◌≡◌, ⊤, ℕ, List, Option, None, Result, Ok, Err}
use Rattle.std.specs.Option.{option_or}
use Rattle.std.specs.Io.KnownBytes.{Appends}
use Rattle.saga_core.specs.Written.{WroteFront}
use Rattle.program_ends.specs.Causes.{cause_of_end}
use Rattle.program_ends.specs.Ends.{IfDone, end_of_both}
use Rattle.program_ends.specs.declared.causes.Cause.{Cause}
use Rattle.program_ends.specs.declared.ended.Ended.{Ended}
use Rattle.program_ends.specs.declared.ends.End.{End}
use Rattle.program_ends.specs.declared.ends.End.TheVariants as finish
use Rattle.desk_jobs.specs.Ends.{EndsWriting, recovered_line}
use Rattle.desk_jobs.specs.Migrating.{indexed_line, migrated_line}
use Rattle.program_jobs.specs.declared.outcomes.Count.{Count}
use Rattle.program_jobs.specs.declared.outcomes.Count.TheVariants as count
use Rattle.program_jobs.specs.declared.outcomes.Outcome.{Outcome}
use Rattle.program_jobs.specs.declared.outcomes.Outcome.TheVariants as outcome

-- the line of a count
abbrev pub count_line : Count → List ℕ
count_line (count.Recovered made) = recovered_line made
count_line (count.Migrated migrated) = migrated_line migrated.events
count_line (count.Indexed indexed) = indexed_line indexed

-- this was counted, or the job ended so, with the cause of that end
abbrev pub outcome_of : {T : Type 0} → (T → Count) → Result T End → Outcome
outcome_of counted (Ok made) = outcome.Counted (counted made)
outcome_of counted (Err end) = outcome.Ended (record { end = end; cause = cause_of_end end })

-- the end of a job before its connection is closed: where something was shown or counted, all was done
abbrev pub end_of : Outcome → End
end_of (outcome.Ended ended) = ended.end
end_of outcome.Shown = finish.Done
end_of (outcome.Counted c) = finish.Done

-- the same; but where all was done, the end that is given
abbrev pub end_or : Outcome → End → End
end_or (outcome.Ended ended) given = ended.end
end_or _ given = given

-- the job ended so, with the cause of that end
abbrev pub HasEnded : (End → Option Cause) → (End → Type 0) → Outcome → Type 0
HasEnded cause So (outcome.Ended ended) = (ended.cause ≡ cause ended.end) × So ended.end
HasEnded cause So _ = ⊥

-- not all was done
abbrev pub IsNotDone : End → Type 0
IsNotDone finish.Done = ⊥
IsNotDone _ = ⊤

-- a report was shown, or not all was done
abbrev pub IsReported : Outcome → Type 0
IsReported (outcome.Ended ended) = HasEnded cause_of_end IsNotDone (outcome.Ended ended)
IsReported outcome.Shown = ⊤
IsReported (outcome.Counted c) = ⊥

module _ (held holds : Option (List ℕ)) where
  -- after a closing that was done the line of a count was written, or a prefix of it; after another one nothing was
  abbrev pub TellsCount : Count → (closed told : Ended) → End → Type 0
  TellsCount c closed told finish.Done =
      IfDone told.end (Appends held holds (count_line c)) × WroteFront held holds (count_line c) × EndsWriting told.end
  TellsCount c closed told e = (told ≡ closed) × (holds ≡ held)

-- The end of a job whose connection was closed: its own end, or that of the closing where all was done before; a report that was
-- shown is done in any case, and a count is printed if the closing was done.
abbrev pub Closes : Outcome → Ended → (held holds : Option (List ℕ)) → Ended → Type 0
Closes (outcome.Ended job) closed held holds told =
    (told.end ≡ end_of_both job.end closed.end) × (told.cause ≡ option_or closed.cause job.cause) × (holds ≡ held)
Closes outcome.Shown closed held holds told = (told.end ≡ finish.Done) × (told.cause ≡ None) × (holds ≡ held)
Closes (outcome.Counted c) closed held holds told = TellsCount held holds c closed told closed.end
