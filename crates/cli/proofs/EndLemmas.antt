-- Ends of jobs, and what holds where all was done. For `CallLemmas`.
use Rattle.std.proofs.Common.{◌≡◌, refl, sym, subst, ℕ, List, Option}
use Rattle.std.specs.Io.KnownBytes.{Appends}
use Rattle.program_ends.specs.Ends.{EndsBadly, EndsJob, IfDone, end_of_both}
use Rattle.program_ends.specs.declared.ended.Ended.{Ended}
use Rattle.program_ends.specs.declared.ends.End.{End}
use Rattle.program_ends.specs.declared.ends.End.TheVariants as finish
use Rattle.desk_jobs.specs.Ends.{EndsWriting}
use Rattle.program_jobs.specs.Outcomes.{Closes, TellsCount, count_line, end_of}
use Rattle.program_jobs.specs.declared.outcomes.Count.{Count}
use Rattle.program_jobs.specs.declared.outcomes.Outcome.{Outcome}
use Rattle.program_jobs.specs.declared.outcomes.Outcome.TheVariants as outcome

-- what was done badly is not done, and is the end of a job
pub bad_job : (e : End) → EndsBadly e → EndsJob e
bad_job finish.Done bad = absurd bad
bad_job (finish.Refused why) bad = tt
bad_job (finish.Fault f) bad = tt
bad_job (finish.Usage text) bad = absurd bad

pub not_done : (P : Type 0) (e : End) → EndsBadly e → IfDone e P
not_done P finish.Done bad = absurd bad
not_done P (finish.Refused why) bad = tt
not_done P (finish.Fault f) bad = tt
not_done P (finish.Usage text) bad = absurd bad

-- what holds, holds where all was done; and what follows from it does
pub if_done : {P : Type 0} (e : End) → P → IfDone e P
if_done finish.Done holds = holds
if_done (finish.Refused why) holds = tt
if_done (finish.Fault f) holds = tt
if_done (finish.Usage text) holds = tt

pub done_as : {P Q : Type 0} (e : End) → (P → Q) → IfDone e P → IfDone e Q
done_as finish.Done follows holds = follows holds
done_as (finish.Refused why) follows holds = tt
done_as (finish.Fault f) follows holds = tt
done_as (finish.Usage text) follows holds = tt

writing_job : (e : End) → EndsWriting e → EndsJob e
writing_job finish.Done is = tt
writing_job (finish.Refused why) is = tt
writing_job (finish.Fault f) is = tt
writing_job (finish.Usage text) is = absurd is

-- the first of two ends, or the second
both_job : (a b : End) → EndsJob a → EndsJob b → EndsJob (end_of_both a b)
both_job finish.Done b first second = second
both_job (finish.Refused why) b first second = first
both_job (finish.Fault f) b first second = first
both_job (finish.Usage text) b first second = first

both_bad : (a b : End) → EndsBadly a → EndsBadly (end_of_both a b)
both_bad finish.Done b bad = absurd bad
both_bad (finish.Refused why) b bad = bad
both_bad (finish.Fault f) b bad = bad
both_bad (finish.Usage text) b bad = absurd bad

both_done : (P : Type 0) (a b : End) → IfDone a P → IfDone (end_of_both a b) P
both_done P finish.Done b holds = if_done b holds
both_done P (finish.Refused why) b holds = tt
both_done P (finish.Fault f) b holds = tt
both_done P (finish.Usage text) b holds = tt

-- After the closing.

module _ (closed told : Ended) (held holds : Option (List ℕ)) where
  -- a job that ended so
  pub ended_bad : (job : Ended) → EndsBadly job.end → Closes (outcome.Ended job) closed held holds told → EndsBadly told.end
  ended_bad job bad closes = subst EndsBadly (sym closes.0) (both_bad job.end closed.end bad)

  pub ended_done : (P : Type 0) (job : Ended) → IfDone job.end P
      → Closes (outcome.Ended job) closed held holds told → IfDone told.end P
  ended_done P job holds closes = subst (λ e. IfDone e P) (sym closes.0) (both_done P job.end closed.end holds)

  -- what was counted
  counted_job : (c : Count) (e : End) → closed.end ≡ e → EndsJob e → TellsCount held holds c closed told e → EndsJob told.end
  counted_job c finish.Done is job tells = writing_job told.end tells.2
  counted_job c (finish.Refused why) is job tells = subst (λ (x : Ended). EndsJob x.end) (sym tells.0) (subst EndsJob (sym is) tt)
  counted_job c (finish.Fault f) is job tells = subst (λ (x : Ended). EndsJob x.end) (sym tells.0) (subst EndsJob (sym is) tt)
  counted_job c (finish.Usage text) is job tells = absurd job

  counted_told : (c : Count) (e : End) → closed.end ≡ e → TellsCount held holds c closed told e
      → IfDone told.end (Appends held holds (count_line c))
  counted_told c finish.Done is tells = tells.0
  counted_told c (finish.Refused why) is tells =
      subst (λ (x : Ended). IfDone x.end (Appends held holds (count_line c))) (sym tells.0)
      (subst (λ e. IfDone e (Appends held holds (count_line c))) (sym is) tt)
  counted_told c (finish.Fault f) is tells =
      subst (λ (x : Ended). IfDone x.end (Appends held holds (count_line c))) (sym tells.0)
      (subst (λ e. IfDone e (Appends held holds (count_line c))) (sym is) tt)
  counted_told c (finish.Usage text) is tells =
      subst (λ (x : Ended). IfDone x.end (Appends held holds (count_line c))) (sym tells.0)
      (subst (λ e. IfDone e (Appends held holds (count_line c))) (sym is) tt)

  pub count_told : (c : Count) → Closes (outcome.Counted c) closed held holds told
      → IfDone told.end (Appends held holds (count_line c))
  count_told c closes = counted_told c closed.end refl closes

  -- the end of a job
  pub closes_job : (o : Outcome) → EndsJob (end_of o) → EndsJob closed.end → Closes o closed held holds told → EndsJob told.end
  closes_job (outcome.Ended job) ends closing closes = subst EndsJob (sym closes.0) (both_job job.end closed.end ends closing)
  closes_job outcome.Shown ends closing closes = subst EndsJob (sym closes.0) tt
  closes_job (outcome.Counted c) ends closing closes = counted_job c closed.end refl closing closes
