-- What is recoverable from the files of a desk, from one process to the next.
-- An image is what the log and the database file hold; one that may be left is what they may hold after a crash at this moment.
use Rattle.std.specs.Prelude.{◌≡◌, ◌≢◌, ◌⊎◌, ⊤, ℕ, [], None, Some, IsTrue}
use Rattle.sqlite_disk.specs.declared.Disk.{Ghosts}
use Rattle.sqlite_wal.specs.Files.{outcomes}
use Rattle.sqlite_wal.specs.Reads.{AreClean}
use Rattle.sqlite_wal.specs.Recovery.{Image}
use Rattle.sqlite_trees.specs.Tree.{Trees}
use Rattle.sqlite_trees.specs.View.{IsClean}
use Rattle.sqlite_store.specs.declared.store.FileStore.{FileStore}
use Rattle.sqlite_store.specs.FileStore.{state as files_state, view}
use Rattle.sqlite_store.specs.Unopened as unopened
use Rattle.sqlite.specs.Closing.{HoldsAlone}
use Rattle.sqlite.specs.Files.{file_state, HoldsDatabase, IsCleanLeft, IsEmpty}
use Rattle.sqlite.specs.Held.{Held, state}
use Rattle.sqlite.specs.Opening.{HoldsIn}
use Rattle.sqlite.specs.Store as Store
use Rattle.sqlite.specs.State.{HasCleanDisk, IsLive, Opens}
use Rattle.sqlite.specs.declared.file.Leftover.{Leftover}
use Rattle.sqlite.specs.declared.file.Leftover.TheVariants as leftover
use Rattle.program_ends.specs.declared.closing.Left.{Left}
use Rattle.program_ends.specs.declared.closing.Left.TheVariants as left

-- the image holds one of these databases, so the next opening finds it there
abbrev pub Holds : (Trees → Type 0) → Image → Type 0
Holds found image = ∥ ((db : Trees) × HoldsDatabase image db × found db) ∥₁

-- the image is the one that the files held, or holds each database that they held
abbrev pub KeepsFound : Image → Image → Type 0
KeepsFound start image =
    (image ≡ start) ⊎ ((start.db ≢ []) × ((db : Trees) → HoldsDatabase start db → ∥ HoldsDatabase image db ∥₁))

-- Two premises, of a fault within an opening and of one within the copying of a log. The library's code meets them, and no
-- clause of it says so.

-- the opening took the files at the page size of the database that they held
abbrev pub IsTakenAsItWas : Image → ℕ → Type 0
IsTakenAsItWas start taken = (size : ℕ) (db : Trees) → HoldsIn size start db → size ≡ taken

-- while it is open, a crash leaves what the connection committed last
abbrev pub LeavesLastCommit : {S : Type 0} → Store.Ghosts S → Held S → Type 0
LeavesLastCommit g c =
    IsTrue (state g c).is_open → (db : Trees) → (state g c).may_leave db → db ≡ (state g c).committed.trees

module _ {D : Type 0} {g : Ghosts D} where
  -- the connection was opened over files that held this image, and shows what they held
  pub record OpensOver (start : Image) (c : Held (FileStore D g)) : Type 0 where
    pub opens : Opens (file_state c)
    pub live : IsLive (file_state c)
    -- it shows the database that the image holds, and an empty one where the file was absent or had no byte
    pub holds : (db : Trees) → HoldsDatabase start db → (file_state c).now.trees ≡ db
    pub new : start.db ≡ [] → IsEmpty (file_state c).now.trees
    -- a crash leaves just that
    pub only : (db : Trees) → (file_state c).may_leave db → db ≡ (file_state c).now.trees

  -- after an opening that failed the files may be left with this image
  abbrev pub MayHoldUnopened : Leftover D g → Image → Type 0
  MayHoldUnopened (leftover.Files files) image = outcomes g files.log files.db image
  MayHoldUnopened (leftover.Unopened files) image = (unopened.state_of files).may_leave image
  MayHoldUnopened (leftover.Store store) image = (files_state store).may_leave image

  -- The files may be left with this image. Nothing is said of files that the library did not take, nor of those whose log was
  -- removed.
  abbrev pub MayHold : Left D g → Image → Type 0
  MayHold (left.Unopened None) image = ⊥
  MayHold (left.Unopened (Some rest)) image = MayHoldUnopened rest image
  MayHold (left.Closed files) image = outcomes g files.log files.db image
  MayHold (left.Uncopied store) image = (files_state store).may_leave image
  MayHold (left.CutOff store) image = (files_state store).may_leave image
  MayHold (left.Unlogged files) image = ⊥

  -- the disk returned what was written, so far
  abbrev pub IsSoundLeft : Left D g → Type 0
  IsSoundLeft (left.Unopened None) = ⊤
  IsSoundLeft (left.Unopened (Some rest)) = IsCleanLeft rest
  IsSoundLeft (left.Closed files) = AreClean g files.log files.db
  IsSoundLeft (left.Uncopied store) = IsClean (view store)
  IsSoundLeft (left.CutOff store) = IsClean (view store)
  IsSoundLeft (left.Unlogged files) = AreClean g files.log files.db

  -- the store has kept the numbering of its trees
  abbrev pub IsStillNumbered : FileStore D g → Type 0
  IsStillNumbered store = IsTrue (view store).is_numbered

  -- These are supposed of files that held this image. Of a new file whose first opening failed under way nothing is known.
  abbrev pub IsSupposed : Image → Left D g → Type 0
  IsSupposed start (left.Unopened (Some (leftover.Unopened files))) =
      (start.db ≢ []) × IsTakenAsItWas start (unopened.state_of files).page_size
  IsSupposed start (left.Unopened (Some (leftover.Store store))) = (start.db ≢ []) × IsStillNumbered store
  IsSupposed start (left.CutOff store) = IsStillNumbered store
  IsSupposed start _ = ⊤

  -- what an opening that failed left of the files
  abbrev pub LeavesAsFound : Image → Left D g → Type 0
  LeavesAsFound start rest =
      IsSoundLeft rest → IsSupposed start rest → (image : Image) → MayHold rest image → KeepsFound start image

  -- files that were closed have the whole database in the one file, with or without the log
  abbrev pub HasWhole : Held (FileStore D g) → Left D g → Image → Type 0
  HasWhole c (left.Closed files) image = HoldsAlone image (file_state c).committed.trees
  HasWhole c _ image = ⊤

  -- what a connection left of its files as it was closed
  pub record Closes (c : Held (FileStore D g)) (rest : Left D g) : Type 0 where
    pub was_clean : IsSoundLeft rest → HasCleanDisk (file_state c)
    pub whole : IsSoundLeft rest → (image : Image) → MayHold rest image → HasWhole c rest image
    -- each image holds a database that a crash of the connection might leave: nothing is lost, and nothing made up
    pub holds : (start : Image) → IsSoundLeft rest → IsSupposed start rest → (image : Image) → MayHold rest image
        → Holds (file_state c).may_leave image
