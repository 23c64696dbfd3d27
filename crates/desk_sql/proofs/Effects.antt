-- What a statement that writes does whenever it is run, and what its contract says of one run. For each statement that writes.
use Rattle.std.proofs.Common.{◌+◌, subst, ◌≡◌, ℕ, List, length, Bool, true, Ok, Err, Result, OnOk, IsTrue, MutBor, arith, rules}
use Rattle.std.specs.Prelude.{⊤}
use Rattle.sqlite.specs.declared.error.Error.{Error}
use Rattle.sqlite.specs.Command.{Command}
use Rattle.sqlite.specs.Order.{Row}
use Rattle.sqlite.specs.Tree.{Trees}
use Rattle.sqlite.specs.Store.{Ghosts}
use Rattle.sqlite.specs.Held.{Held, state}
use Rattle.sqlite.specs.Listing.{understood}
use Rattle.sqlite.specs.State.{State, HasCleanDisk, ExecutesInside}
use Rattle.sqlite_schema.specs.declared.schema.Index.{Index}
use Rattle.desk_sql.specs.Schema.{desk_with}
use Rattle.desk_sql.specs.Rows.{Tables}
use Rattle.desk_sql.specs.Calls.{GoesOn, MayRun, Makes}
use Rattle.desk_sql.specs.Statements.{WritesKeyed, WritesNumbered}
use Rattle.desk_sql.specs.Causes.{IsUp, HasReason}
use Rattle.desk_sql.specs.Writable.{HasRowids}
use Rattle.desk_sql.proofs.Causing.{takes}
use Rattle.desk_sql.proofs.Meaning.{Means}
use Rattle.desk_sql.proofs.Refusing.{if_failed}

-- the text means this command, and takes values as many and of such types, whatever indexes there are beside those of the keys
pub record Says (text : List ℕ) (command : Command) (params : Row) (typed : List Index → Bool) : Type 0 where
  pub means : Means text command
  pub whole : (extra : List Index) → takes (length text) (length params) (understood (desk_with extra) text) ≡ true
  pub types : (extra : List Index) → typed extra ≡ true

-- The statement with these values, run in a transaction. Where the rows are such as are seen, a success changes them; where there is
-- room and the rows fit, it fails for a reason; and where such rows are left, a success takes so many rowids.
pub record Effect (text : List ℕ) (params : Row) (Seen : Tables → Type 0) (after : Tables → Tables) (Room : Trees → Type 0)
    (Fits Left : Tables → Type 0) (taken : ℕ → ℕ) : Type 1 where
  pub made : (old new : State) (t : Tables) (count : ℕ) → MayRun old t → Seen t → ExecutesInside 0 text params old new (Ok count)
      → Makes old new (after t)
  pub reason : (old new : State) (t : Tables) (e : Error) → Room old.now.trees → MayRun old t → Fits t → IsUp old
      → ExecutesInside 0 text params old new (Err e) → HasReason old new e
  pub rowids : (old new : State) (t : Tables) (count : ℕ) → MayRun old t → Left t → ExecutesInside 0 text params old new (Ok count)
      → (n : ℕ) → HasRowids (taken n) old.now.trees → HasRowids n new.now.trees

if_done : (P : Type 0) (Ran : Result ℕ Error → Type 0) (r : Result ℕ Error) → Ran r → ((count : ℕ) → Ran (Ok count) → P) → OnOk r P
if_done x y r ran so = search (rules, arith)

-- One run, as contracts say it: of a write that needs no rowid, and of one that takes so many.

module _ {S : Type 0} {g : Ghosts S} {old new : MutBor (Held S)} {result : Result ℕ Error} {text : List ℕ} {params : Row}
    {Seen Fits : Tables → Type 0} {after : Tables → Tables} where
  -- the run was given values that are those of the statement
  pub keyed : Effect text params Seen after (λ _. ⊤) Fits (λ _. ⊤) (λ n. n) → (given : Row)
      → (HasCleanDisk (state g new.now) → IsTrue (state g old.now).in_transaction
      → ExecutesInside 0 text given (state g old.now) (state g new.now) result)
      → given ≡ params → GoesOn g old new result → WritesKeyed g old new result Seen Fits after
  keyed it given ran same goes =
      let runs = rw same at ran in
      let a = state g old.now in
      let b = state g new.now in
      let Ran = ExecutesInside 0 text params a b in
      record {
        goes = goes;
        made = λ clean t may seen. if_done (Makes a b (after t)) Ran result (runs clean may.inside) (λ count ran. it.made a b t count may seen ran);
        reason = λ clean t may fits up. if_failed (HasReason a b) Ran result (runs clean may.inside) (λ e ran. it.reason a b t e tt may fits up ran);
        rowids = λ clean t may n has. if_done (HasRowids n b.now.trees) Ran result (runs clean may.inside)
            (λ count ran. it.rowids a b t count may tt ran n has);
      }

  pub numbered : {Left : Tables → Type 0} {taken : ℕ → ℕ} {added : ℕ} → Effect text params Seen after (HasRowids added) Fits Left taken
      → ((n : ℕ) → added + n ≡ taken n)
      → (HasCleanDisk (state g new.now) → IsTrue (state g old.now).in_transaction
      → ExecutesInside 0 text params (state g old.now) (state g new.now) result)
      → GoesOn g old new result → WritesNumbered g old new result Seen Fits Left added after
  numbered it counted runs goes =
      let a = state g old.now in
      let b = state g new.now in
      let Ran = ExecutesInside 0 text params a b in
      record {
        goes = goes;
        made = λ clean t may seen. if_done (Makes a b (after t)) Ran result (runs clean may.inside) (λ count ran. it.made a b t count may seen ran);
        reason = λ room clean t may fits up. if_failed (HasReason a b) Ran result (runs clean may.inside) (λ e ran. it.reason a b t e room may fits up ran);
        rowids = λ clean t may left n has. if_done (HasRowids n b.now.trees) Ran result (runs clean may.inside)
            (λ count ran. it.rowids a b t count may left ran n (subst (λ k. HasRowids k a.now.trees) (counted n) has));
      }

  -- so it was here
  pub numbered_at : {Left : Tables → Type 0} {taken : ℕ → ℕ} {added : ℕ} → Effect text params Seen after (HasRowids added) Fits Left taken
      → ((n : ℕ) → added + n ≡ taken n) → (given : Row)
      → (HasCleanDisk (state g new.now) → IsTrue (state g old.now).in_transaction
      → ExecutesInside 0 text given (state g old.now) (state g new.now) result)
      → given ≡ params → GoesOn g old new result → WritesNumbered g old new result Seen Fits Left added after
  numbered_at it counted given runs same = numbered it counted (rw same at runs)
