-- Copying items from the old tables to the new one.
use Rattle.std.specs.Prelude.{◌<◌, ℕ, List, filter, nat_lt, Result, OnOk, IsTrue}
use Rattle.sqlite.specs.Store.{Ghosts}
use Rattle.sqlite.specs.Held.{Held, state}
use Rattle.sqlite.specs.State.{State, HasCleanDisk, KeepsCommit, Survives}
use Rattle.sqlite.specs.declared.error.Error.{Error}
use Rattle.desk_sql.specs.declared.versions.Version.TheVariants.{One}
use Rattle.desk_sql.specs.Lists.{IsNumbered}
use Rattle.desk_sql.specs.Rows.{Tables, EntryRow, entry_row, items_tree}
use Rattle.desk_sql.specs.Calls.{Sees, MaySeeIn}

-- the items whose numbers are below this one
abbrev pub items_below : ℕ → List EntryRow → List EntryRow
items_below n items = filter (λ (e : EntryRow). nat_lt e.num n) items

-- the rows, with only the items below this number
abbrev pub with_items_below : ℕ → Tables → Tables
with_items_below n t = record t { entries = items_below n t.entries }

-- the connection is in a transaction, and if it is open it sees these rows in tables of version 1
pub record MayAdd (s : State) (t : Tables) : Type 0 where
  pub inside : IsTrue s.in_transaction
  pub sees : MaySeeIn One s t

-- the connection is open and in a transaction, and has the new tables beside the old table of items: the old one has
-- all items, the new one those with numbers below `n`, and the other rows are those of `t`
pub record HasCopied (n : ℕ) (s : State) (t : Tables) : Type 0 where
  pub is_open : IsTrue s.is_open
  pub inside : IsTrue s.in_transaction
  pub sees : Sees s (with_items_below n t)
  pub all : IsNumbered (λ (e : EntryRow). e.num) entry_row (s.now.trees (items_tree One)) t.entries

module _ {S : Type 0} (g : Ghosts S) (old new : Held S) where
  -- on tables of version 1 a success adds the new tables, with no item copied
  abbrev pub AddsTables : {V : Type 0} → Result V Error → Type 0
  AddsTables result =
      HasCleanDisk (state g new) → (t : Tables) → MayAdd (state g old) t
      → OnOk result (HasCopied 0 (state g new) t)

  -- where the items below the first number were copied, after a success those below the second are copied
  abbrev pub CopiesItems : {V : Type 0} → Result V Error → ℕ → ℕ → Type 0
  CopiesItems result first next =
      HasCleanDisk (state g new) → (t : Tables) → HasCopied first (state g old) t
      → OnOk result (HasCopied next (state g new) t)

  -- so far the items below this number were copied in one transaction, and nothing is committed
  pub record CopiesSoFar (n : ℕ) : Type 0 where
    pub survives : Survives (state g old) (state g new) (λ _. ⊥)
    pub commit : HasCleanDisk (state g new) → IsTrue (state g old).in_transaction
        → KeepsCommit (state g old) (state g new)
    pub inside : HasCleanDisk (state g new) → IsTrue (state g old).in_transaction
        → IsTrue (state g new).in_transaction
    pub live : 0 < n → HasCleanDisk (state g new) → IsTrue (state g old).in_transaction
        → IsTrue (state g old).is_open
    pub made : HasCleanDisk (state g new) → (t : Tables) → HasCopied 0 (state g old) t
        → HasCopied n (state g new) t
