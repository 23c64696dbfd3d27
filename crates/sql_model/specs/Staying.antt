-- What is left of a store that was up, and what a store sees after a read.
use Rattle.std.specs.Prelude.{◌≡◌, ◌≤◌, ◌⊎◌, IsTrue, refl}
use Rattle.sqlite.specs.Store.{Ghosts}
use Rattle.sqlite.specs.Held.{Held, state}
use Rattle.sqlite.specs.State.{HasCleanDisk, KeepsCommit}
use Rattle.desk_sql.specs.Causes.{IsUp, HasFaulted}

module _ {S : Type 0} (g : Ghosts S) (old new : Held S) where
  -- no fault is forgotten, and a store that was up is so until its disk fails or refuses
  pub record StaysUp : Type 0 where
    pub counts : (state g old).faults ≤ (state g new).faults
    pub up : HasCleanDisk (state g new) → IsUp (state g old)
        → IsUp (state g new) ⊎ HasFaulted (state g old) (state g new)

  -- Nothing was committed; and a store that is still open, and had nothing uncommitted, sees the database that it saw: the
  -- same tables, and in them the same rows, under the same rowids.
  pub record SeesAsBefore : Type 0 where
    pub kept : HasCleanDisk (state g new) → KeepsCommit (state g old) (state g new)
    pub sees : HasCleanDisk (state g new) → IsTrue (state g new).is_open → (state g old).now ≡ (state g old).committed
        → (state g new).now ≡ (state g old).now

-- a store sees as before if no call is made, and after two calls if it does after each of them
pub sees_alone : {S : Type 0} (g : Ghosts S) (h : Held S) → SeesAsBefore g h h
sees_alone g h = record {
  kept = λ clean. record { was_open = λ live. live; committed = λ live. refl };
  sees = λ clean live settled. refl;
}
