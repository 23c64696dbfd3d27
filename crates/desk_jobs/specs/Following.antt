-- What is recoverable of a connection after a job, at every end: where its desk was for what comes to it, and what was written.
use Rattle.std.specs.Prelude.{ℕ, List, Option, IfSome, Result, Ok, Err}
use Rattle.sqlite.specs.Store.{Ghosts}
use Rattle.sqlite.specs.Held.{Held, state}
use Rattle.sqlite.specs.State.{HasCleanDisk}
use Rattle.desk_jobs.specs.Executions.{LeavesAnswered, LeavesOpened, StandsAnswered, StandsOpened}
use Rattle.desk_jobs.specs.Openings.{Input}
use Rattle.program_ends.specs.Ends.{IfDone}
use Rattle.program_ends.specs.declared.ends.End.{End}
use Rattle.program_ends.specs.declared.ends.End.TheVariants as finish
use Rattle.tables.specs.BookTerms.{StandsBook}
use Rattle.tables.specs.declared.books.TableBook.{TableBook}

module _ {S : Type 0} (g : Ghosts S) where
  -- A job over a connection, to which this came, if that is known. `held` and `holds` are the bytes of its output.
  pub record Follows (old new : Held S) (input : Option Input) (held holds : Option (List ℕ)) (end : End) : Type 0 where
    -- each recoverable state then stands for the end of an execution that goes on with one opening over the input
    pub left : HasCleanDisk (state g new) → IfSome input (LeavesOpened g old new held holds)
    -- where all was done, so does the connection itself
    pub there : HasCleanDisk (state g new) → IfSome input (λ i. IfDone end (StandsOpened g old new held holds i))

  -- The same of a job over a recovered desk.
  pub record FollowsDesk (b : TableBook S g) (new : Held S) (input : Option Input) (held holds : Option (List ℕ)) (end : End)
      : Type 0 where
    pub left : HasCleanDisk (state g new) → IfSome input (LeavesAnswered g (StandsBook g b) new held holds)
    pub there : HasCleanDisk (state g new)
        → IfSome input (λ i. IfDone end (StandsAnswered g (StandsBook g b) new held holds i))

-- the end of a recovery: it is done, or why it failed
abbrev pub end_of_recovery : Result ℕ End → End
end_of_recovery (Ok made) = finish.Done
end_of_recovery (Err end) = end
