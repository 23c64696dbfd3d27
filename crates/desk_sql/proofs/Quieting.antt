-- Quiet calls, one after another, are quiet, and a transaction that goes on after each of two writes goes on after both. For the
-- functions that read or write, here and in the crates above.
use Rattle.std.proofs.Common.{◌≡◌, ◌≤◌, ◌⊎◌, ◌+◌, ℕ, List, inl, inr, true, false, Ok, Err, Result, IfOk, IfErr, refl, sym, ◌∙◌, IsTrue, arith, min, ◌^◌, ◌-◌, rules}
use Rattle.std.proofs.lemmas.Bool.{cases_Bool}
use Rattle.sqlite.specs.declared.error.Error.{Error}
use Rattle.sqlite.specs.Order.{Row}
use Rattle.sqlite.specs.Store.{Ghosts}
use Rattle.sqlite.specs.Held.{Held, state}
use Rattle.sqlite.specs.State.{State, HasCleanDisk, IsUnchanged, IsRolledBack, KeepsCounts, Survives, CommitsShowing, FailsToQuery, QueriesRow, Shown}
use Rattle.desk_sql.specs.Calls.{ChangesNothing, Quiet}
use Rattle.desk_sql.specs.Causes.{HasFaulted}
use Rattle.desk_sql.specs.Queries.{IsSelect}
use Rattle.desk_sql.specs.RemainingRows.{Starts}
use Rattle.desk_sql.specs.Rows.{Tables}
use Rattle.desk_sql.proofs.Selecting.{fails_quietly, leaves_no_more, row_quiet, shown_same}

-- a fault in the later part is one in the whole, and so is one in the earlier
later : (a b c : ℕ) → a ≤ b → min (b + 1) (2 ^ 64 - 1) ≤ c → min (a + 1) (2 ^ 64 - 1) ≤ c
later a b c low more = omega (arith, low, more)

earlier : (a b c : ℕ) → min (a + 1) (2 ^ 64 - 1) ≤ b → b ≤ c → min (a + 1) (2 ^ 64 - 1) ≤ c
earlier a b c more low = omega (arith, low, more)

pub faulted_later : (a b c : State) → a.faults ≤ b.faults → HasFaulted b c → HasFaulted a c
faulted_later a b c low faulted = later a.faults b.faults c.faults low faulted

pub faulted_earlier : (a b c : State) → HasFaulted a b → b.faults ≤ c.faults → HasFaulted a c
faulted_earlier a b c faulted low = earlier a.faults b.faults c.faults faulted low

-- a crash leaves no more after no call, nor after two calls if it does not after each
pub survives_alone : (s : State) → Survives s s (λ _. ⊥)
survives_alone s = search (rules, arith)

pub survives_twice : (a b c : State) → Survives a b (λ _. ⊥) → Survives b c (λ _. ⊥) → Survives a c (λ _. ⊥)
survives_twice a b c one two = search (rules, arith, faulted_earlier, faulted_later)

pub shut : (s : State) → s.is_open ≡ false → IsTrue s.is_open → ⊥
shut s is live = let no : true ≡ false = sym live ∙ is in cc

counts_twice : (a b c : State) → KeepsCounts a b → KeepsCounts b c → KeepsCounts a c
counts_twice a b c one two = record { changes = two.changes ∙ one.changes; last_rowid = two.last_rowid ∙ one.last_rowid }

-- no call changes anything, nor do two calls if neither does
nothing_alone : (s : State) → ChangesNothing s s
nothing_alone s = elim (cases_Bool s.is_open) [
  | inl live ↦ inl (record { was_open = live; is_open = live; now_is = refl; committed_is = refl; mode = refl }, record { changes = refl; last_rowid = refl }, refl)
  | inr is ↦ inr (inr (record { was_shut = is; is_shut = is; mode = refl; marks = refl; counts = record { changes = refl; last_rowid = refl } }))
]

-- what is open was open, with the same commit, and the counts are kept
kept_open : (a b : State) → ChangesNothing a b → IsTrue b.is_open → IsTrue a.is_open × (b.committed ≡ a.committed)
kept_open a b x live = search (rules, arith, shut)

kept_counts : (a b : State) → ChangesNothing a b → KeepsCounts a b
kept_counts a b x = search (rules, arith)

nothing_twice : (a b c : State) → ChangesNothing a b → ChangesNothing b c → ChangesNothing a c
nothing_twice a b c one x = search (rules, arith, kept_open, counts_twice, kept_counts, shut)

not_changed : (a b : State) → IsUnchanged a b ⊎ IsRolledBack a b → ChangesNothing a b
not_changed a b x = search (rules, arith)

-- A SELECT is quiet, whatever its answer: it commits nothing.
module _ {S : Type 0} (g : Ghosts S) (old new : Held S) (text : List ℕ) (selects : IsSelect text) (params : Row)
    (mode : old.in_transaction ≡ false → new.in_transaction ≡ false)
    (survives : Survives (state g old) (state g new) (CommitsShowing text params (state g old))) where
  pub quiet_of : (HasCleanDisk (state g new) → IsUnchanged (state g old) (state g new) ⊎ IsRolledBack (state g old) (state g new))
      → Quiet g old new
  quiet_of same = search (rules, arith, not_changed, leaves_no_more)

  -- of one row, and of all
  pub quiet_row : (r : Result Row Error) → (HasCleanDisk (state g new) → QueriesRow text params (state g old) (state g new) r) → Quiet g old new
  quiet_row r ran = quiet_of (λ clean. row_quiet text selects params (state g old) (state g new) r (ran clean))

  pub quiet_rows : {V : Type 0} (r : Result V Error) (rows : V → List Row)
      → (HasCleanDisk (state g new) → IfOk r (λ v. Shown text params (state g old) (state g new) (rows v)))
      → (HasCleanDisk (state g new) → IfErr r (FailsToQuery text params (state g old) (state g new))) → Quiet g old new
  quiet_rows (Ok v) rows shown fails = quiet_of (λ clean. inl (shown_same text selects params (state g old) (state g new) (rows v) (shown clean)))
  quiet_rows (Err e) rows shown fails = quiet_of (λ clean. fails_quietly text selects params (state g old) (state g new) e (fails clean))

-- the start of rows is quiet
pub quiet_start : {S X : Type 0} (g : Ghosts S) (old new : Held S) (IsList : Tables → List X → Type 0) (RestsOn : Held S → List X → Type 0)
    → Starts g old new IsList RestsOn → Quiet g old new
quiet_start g old new IsList RestsOn it = record { same = λ clean. inl (it.same clean); mode = it.mode; survives = it.survives }

-- no call is quiet, and so are two quiet calls
pub quiet_alone : {S : Type 0} (g : Ghosts S) (h : Held S) → Quiet g h h
quiet_alone g h = record { same = λ _. nothing_alone (state g h); mode = λ out. out; survives = survives_alone (state g h) }

pub quiet_twice : {S : Type 0} (g : Ghosts S) (a b c : Held S) → Quiet g a b → Quiet g b c → Quiet g a c
quiet_twice g a b c one two = search (rules, arith, nothing_twice, survives_twice)
