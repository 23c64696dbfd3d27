-- The numbers of the versions, and the version that a connection saw.
use Rattle.std.specs.Prelude.{◌≡◌, ℕ}
use Rattle.std.specs.List.{AllByRecursion}
use Rattle.sqlite.specs.Store.{Ghosts}
use Rattle.sqlite.specs.Held.{Held, state}
use Rattle.sqlite.specs.State.{HasCleanDisk}
use Rattle.desk_sql.specs.declared.versions.Version.{Version}
use Rattle.desk_sql.specs.declared.versions.Version.TheVariants.{One, Two}
use Rattle.desk_sql.specs.Calls.{MaySeeIn}
use Rattle.desk_sql.specs.Rows.{Tables, MetaRow}

-- the number of a version in meta
abbrev pub number_of : Version → ℕ
number_of One = 1
number_of Two = 2

-- each row of meta has this version
abbrev pub AreOfVersion : ℕ → Tables → Type 0
AreOfVersion n t = AllByRecursion (λ (m : MetaRow). m.version ≡ n) t.meta

module _ {S : Type 0} (g : Ghosts S) (old new : Held S) where
  -- the tables that the connection saw have this version, whatever tables they are
  abbrev pub SawVersion : ℕ → Type 0
  SawVersion n =
      HasCleanDisk (state g new) → (v : Version) (t : Tables) → MaySeeIn v (state g old) t
      → AreOfVersion n t
