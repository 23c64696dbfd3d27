-- What the writes of an event do in their transaction, in one record.
use Rattle.std.specs.Prelude.{◌≡◌, ℕ, ⊤, Result, Ok}
use Rattle.std.specs.Borrow.{MutBor}
use Rattle.sqlite.specs.Store.{Ghosts}
use Rattle.sqlite.specs.Held.{Held}
use Rattle.sqlite.specs.declared.error.Error.{Error}
use Rattle.desk_sql.specs.Calls.{StaysInside, CommitsNothing, LeavesNoMore, WasOpen}
use Rattle.desk_sql.specs.Rows.{Tables}
use Rattle.sql_writes.specs.Reasons.{FailsOn, TakesRowids}
use Rattle.sql_writes.specs.Writing.{WritesOpen}

module _ {S : Type 0} (g : Ghosts S) (old new : MutBor (Held S)) {V : Type 0} (result : Result V Error)
    (Fits Permits : Tables → Type 0) (taken : ℕ) (after : Tables → Tables) where
  -- If the transaction is open, it goes on. A success changes rows that fit by `after`, and takes so many rowids; on rows that permit
  -- it, a failure has a reason.
  pub record DidIfOpen : Type 0 where
    pub same_reference : new.ghost_name ≡ old.ghost_name
    pub inside : StaysInside g old.now new.now result
    pub commit : CommitsNothing g old.now new.now
    pub survives : LeavesNoMore g old.now new.now
    pub made : WritesOpen g old.now new.now Fits result after
    pub reason : FailsOn g old.now new.now result taken Permits
    pub rowids : TakesRowids g old.now new.now result taken Fits

  -- the same, and a success implies that it was open: there was a row to write
  pub record Did : Type 0 where
    pub live : WasOpen g old.now new.now result
    pub if_open : DidIfOpen

-- so far the writes changed the rows by `after`, and took so many rowids
abbrev pub DidSoFar : {S : Type 0} → Ghosts S → MutBor (Held S) → MutBor (Held S) → (Tables → Type 0) → ℕ → (Tables → Tables) → Type 0
DidSoFar g old now Fits taken after = DidIfOpen g old now (Ok (tt {0})) Fits (λ _. ⊤) taken after
