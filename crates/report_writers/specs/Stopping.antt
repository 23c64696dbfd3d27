-- What a source of rows does at a fault.
use Rattle.std.specs.Prelude.{◌≡◌, true, Result, Err, OnErr}
use Rattle.commands.specs.declared.replies.Fault.{Fault}
use Rattle.commands.specs.declared.replies.Fault.TheVariants.{Store}
use Rattle.report_writers.specs.declared.progress.Progress.{Progress}

-- a fault counts no row, and every call after it returns Store
pub record StopsAtFault (old new : Progress) {V : Type 0} (result : Result V Fault) : Type 0 where
  pub uncounted : OnErr result (new.given ≡ old.given)
  pub failed : OnErr result (new.failed ≡ true)
  pub stays_failed : old.failed ≡ true → result ≡ Err Store
