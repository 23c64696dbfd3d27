-- What may be left of a desk's files. For the openings and the closings.
use Rattle.std.proofs.Common.{◌≡◌, ◌⊎◌, ℕ, Bool, true, false, List, [], ◌∷◌, if◌then◌else◌, Option, Some, None, length, inl, inr, ap, ap₂, arith, subst, sym}
use Rattle.std.specs.Prelude.{IsTrue, IfSome}
use Rattle.std.proofs.Math.Logic.{∥∥₁_map}
use Rattle.sqlite_disk.specs.declared.Disk as disk
use Rattle.sqlite_disk.specs.declared.Files.{Files}
use Rattle.sqlite_disk.specs.Events.{Event, replay, settled}
use Rattle.sqlite_disk.specs.History.{MayLeave}
use Rattle.sqlite_wal.specs.Recovery.{Image}
use Rattle.sqlite_trees.specs.Tree.{Trees}
use Rattle.sqlite_store.specs.declared.store.FileStore.{FileStore}
use Rattle.sqlite_store.specs.FileStore.{state as files_state, view, recovers}
use Rattle.sqlite.specs.Held.{Held, AreDatabases}
use Rattle.sqlite.specs.Files.{HoldsDatabase, IsEmpty, IsNothing, AreFoundIn, LeavesFiles, file_state, image_of}
use Rattle.sqlite.specs.Opening.{HoldsIn}
use Rattle.sqlite_catalog.specs.Listing.{IsSound}
use Rattle.sqlite_pool.specs.Stored.{stored_size, StandsAs}
use Rattle.sqlite_store.specs.Unopened.{state_of}
use Rattle.sqlite_wal.specs.Files.{outcomes}
use Rattle.sqlite_wal.specs.PageSize.{IsPageSize}
use Rattle.sqlite.specs.declared.file.Leftover.{Leftover}
use Rattle.sqlite.specs.declared.file.Leftover.TheVariants as leftover
use Rattle.sqlite.specs.Closing.{HoldsAlone}
use Rattle.sqlite_wal.proofs.LogLemmas.{SeenMayStay}
use Rattle.sqlite_store.specs.Laws.{stays_at}
use Rattle.sqlite.proofs.FileLemmas.{is_something}
use Rattle.sqlite.proofs.Theorems.{opens_again}
use Rattle.program_ends.specs.declared.closing.Left.TheVariants as left
use Rattle.program_ends.specs.Images.{Holds, IsSupposed, KeepsFound, LeavesAsFound, MayHoldUnopened}

-- a file with no byte is found as an empty database
pub finds_new : (image : Image) (db : Trees) → image.db ≡ [] → AreFoundIn image db → IsEmpty db
finds_new image db none (inl it) = absurd (let present = it.3.found.present in omega (arith, present, ap length none))
finds_new image db none (inr new) = new.1

-- each image of a store that is numbered and sound holds a database that a crash before it might leave
pub store_holds : {D : Type 0} {g : disk.Ghosts D} (c : Held (FileStore D g)) (it : FileStore D g) → IsTrue (view it).is_numbered
    → AreDatabases (recovers it) → ((db : Trees) → recovers it db → (file_state c).may_leave db)
    → (image : Image) → (files_state it).may_leave image → Holds (file_state c).may_leave image
store_holds c it numbered sound quiet image may =
    ∥∥₁_map (opens_again it numbered sound image may) (λ found.
    let r : (db : Trees) × HoldsDatabase image db × (file_state c).may_leave db = (found.0, found.2, quiet found.0 found.1) in r)

-- the last commit, copied, is what a crash might leave
pub copy_holds : {D : Type 0} {g : disk.Ghosts D} (c : Held (FileStore D g)) → SeenMayStay g → IsTrue (file_state c).is_open
    → (image : Image) → HoldsAlone image (file_state c).committed.trees → Holds (file_state c).may_leave image
copy_holds c stays was_open image copied =
    ∥∥₁_map copied.both (λ held.
    let r : (db : Trees) × HoldsDatabase image db × (file_state c).may_leave db =
    ((file_state c).committed.trees, held, stays_at c.store stays was_open) in r)

-- Files of which nothing was asked hold what they held.

either : {A : Type 0} → A ⊎ A → A
either (inl a) = a
either (inr a) = a

module _ (mixing flag : Bool) (a b : List ℕ) (events : List Event) (key : ℕ) (c : List ℕ) (fresh : events ≡ settled key ∷ []) where
  pub fresh_log : flag ≡ true → (let m = replay (if flag then a else b) events in MayLeave mixing m.seen m.synced m.steps c) → c ≡ a
  fresh_log is may = either (rw (is, fresh) at may)

  pub fresh_db : flag ≡ false → (let m = replay (if flag then a else b) events in MayLeave mixing m.seen m.synced m.steps c) → c ≡ b
  fresh_db is may = either (rw (is, fresh) at may)

module _ (flag : Bool) (a b : List ℕ) (events : List Event) (key : ℕ) (fresh : events ≡ settled key ∷ []) where
  pub seen_log : flag ≡ true → (replay (if flag then a else b) events).seen ≡ a
  seen_log is = rw (is, fresh)

  pub seen_db : flag ≡ false → (replay (if flag then a else b) events).seen ≡ b
  seen_db is = rw (is, fresh)

-- files that stand for what they stood for hold the same database
stands_hold : (size : ℕ) (start image : Image) (db : Trees) → StandsAs size start image → HoldsIn size start db → HoldsIn size image db
stands_hold size start image db stands it = record {
  pages = it.pages;
  wanted = it.wanted;
  schema = it.schema;
  found = stands.1 it.pages it.found;
  ours = it.ours;
  reads = it.reads;
  sound = it.sound;
}

same_image : {D : Type 0} (g : disk.Ghosts D) (files : Files D) (start : Image)
    → ((c : List ℕ) → g.may_leave files.log c → c ≡ start.log) → ((c : List ℕ) → g.may_leave files.db c → c ≡ start.db)
    → (image : Image) → outcomes g files.log files.db image → image ≡ start
same_image g files start log db image was =
    ap₂ (λ (a b : List ℕ). let i : Image = record { log = a; db = b } in i) (log image.log was.0) (db image.db was.1)

module _ {D : Type 0} {g : disk.Ghosts D} (files : Files D) (start : Image)
    (log : (c : List ℕ) → g.may_leave files.log c → c ≡ start.log) (db : (c : List ℕ) → g.may_leave files.db c → c ≡ start.db)
    (seen : image_of g files ≡ start) where
  -- what an opening of such files left of them
  pub unopened_left : (rest : Leftover D g) → LeavesFiles files rest → IsSupposed start (left.Unopened (Some rest))
      → (image : Image) → MayHoldUnopened rest image → KeepsFound start image
  unopened_left (leftover.Files now) leaves tell image may = inl (same_image g files start log db image (leaves image may))
  unopened_left (leftover.Unopened now) leaves (some, size) image may = inr (
    some,
    λ found held.
        elim leaves [
          | inl new ↦ absurd (is_something start found held (subst IsNothing seen new.0))
          | inr old ↦
              let here : HoldsIn (state_of now).page_size start found =
              subst (λ n. HoldsIn n start found) (size held.0 found held.2) held.2 in
              elim (old.4 image may).same [
                | inl was ↦ ∣ subst (λ (i : Image). HoldsDatabase i found) (sym (same_image g files start log db image was)) held ∣₁
                | inr stands ↦ ∣ (
                  (state_of now).page_size,
                  subst (λ n. IsPageSize (stored_size n)) (size held.0 found held.2) held.1,
                  stands_hold (state_of now).page_size start image found
                      (subst (λ (i : Image). StandsAs (state_of now).page_size i image) seen stands) here,
                ) ∣₁
              ]
        ],
  )
  unopened_left (leftover.Store it) leaves (some, numbered) image may = inr (
    some,
    λ found held.
        let one : (other : Trees) → recovers it other → other ≡ found =
        λ other is. (leaves other is).1 found (subst (λ (i : Image). HoldsDatabase i found) (sym seen) held) in
        let sound : AreDatabases (recovers it) =
        λ other is. (held.2.schema, subst (IsSound held.2.schema) (sym (one other is)) held.2.sound) in
        ∥∥₁_map (opens_again it numbered sound image may) (λ again.
        subst (HoldsDatabase image) (one again.0 again.1) again.2),
  )

pub left_as_found : {D : Type 0} {g : disk.Ghosts D} (start : Image) (rest : Option (Leftover D g))
    → IfSome rest (λ r. LeavesAsFound start (left.Unopened (Some r))) → LeavesAsFound start (left.Unopened rest)
left_as_found start None some sound tell image may = absurd may
left_as_found start (Some rest) some sound tell image may = some sound tell image may

pub some_then : {A : Type 0} {P Q : A → Type 0} (o : Option A) → ((a : A) → P a → Q a) → IfSome o P → IfSome o Q
some_then None f p = tt
some_then (Some a) f p = f a p
