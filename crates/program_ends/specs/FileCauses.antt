-- Which cause an error has, and how a closing ends.
use Rattle.std.specs.Prelude.{◌≡◌, ◌≢◌, ◌⊎◌, ◌++◌, ◌&&◌, ◌||◌, ◌==◌, ℕ, nat_eq, nat_lt, Bool, true, false, not, codes, IsTrue, ⊤, if◌then◌else◌, List, [], ◌∷◌, Option, Some, None}
use Rattle.std.specs.List.{list_any, starts_with}
use Rattle.std.specs.Option.{option_map_or}
use Rattle.std.specs.Str.{NoCharPasses}
use Rattle.std.specs.declared.io.ErrorKind.{ErrorKind}
use Rattle.std.specs.declared.io.ErrorKind.TheVariants as kind
use Rattle.program_ends.specs.declared.causes.Cause.{Cause}
use Rattle.program_ends.specs.declared.causes.Cause.TheVariants as cause
use Rattle.program_ends.specs.declared.ends.End.{End}
use Rattle.program_ends.specs.declared.ends.End.TheVariants as finish
use Rattle.program_ends.specs.declared.faults.ProgramFault.TheVariants as fault
use Rattle.desk_sql.specs.Schema.{no_schema}
use Rattle.sqlite.specs.State.{store_error}
use Rattle.sqlite.specs.declared.error.Error.{Error}
use Rattle.sqlite.specs.declared.error.Error.TheVariants.{SqliteFailure}
use Rattle.sqlite.specs.declared.error.ErrorCode.TheVariants as code
use Rattle.sqlite_disk.specs.declared.Disk.{Ghosts}
use Rattle.sqlite_schema.specs.Names.{same_name}
use Rattle.sqlite_schema.specs.declared.schema.Schema.{Schema}
use Rattle.sqlite_schema.specs.declared.schema.Table.{Table}
use Rattle.sqlite_trees.specs.declared.error.StoreError.{StoreError}
use Rattle.program_ends.specs.declared.closing.Left.{Left}
use Rattle.program_ends.specs.declared.closing.Left.TheVariants as left

-- the cause of an error of the system
abbrev pub cause_of_kind : ErrorKind → Option Cause
cause_of_kind kind.NotFound = Some cause.Absent
cause_of_kind kind.PermissionDenied = Some cause.NotPermitted
cause_of_kind kind.ReadOnlyFilesystem = Some cause.NotPermitted
cause_of_kind kind.IsADirectory = Some cause.NoFile
cause_of_kind kind.NotADirectory = Some cause.NoFolder
cause_of_kind kind.StorageFull = Some cause.FullDisk
cause_of_kind kind.QuotaExceeded = Some cause.FullDisk
cause_of_kind _ = None

-- the cause of an error of the library
abbrev pub cause_of_store : Error → Option Cause
cause_of_store (SqliteFailure code.DatabaseBusy) = Some cause.InUse
cause_of_store (SqliteFailure code.NotADatabase) = Some cause.Damaged
cause_of_store (SqliteFailure code.DatabaseCorrupt) = Some cause.Damaged
cause_of_store (SqliteFailure code.DiskFull) = Some cause.FullDisk
cause_of_store (SqliteFailure code.SystemIoFailure) = Some cause.FailedDisk
cause_of_store _ = None

-- an error of the copying has the cause of the error as which the library reports it
abbrev pub cause_of_closing : StoreError → Option Cause
cause_of_closing error = cause_of_store (store_error error)

-- a cause that shows at the path alone: none that says what the file holds, or who has it open
abbrev pub is_of_path : Cause → Bool
is_of_path cause.Absent = true
is_of_path cause.NoFolder = true
is_of_path cause.NotMade = true
is_of_path cause.SecondLink = true
is_of_path cause.NotPermitted = true
is_of_path cause.NoFile = true
is_of_path cause.FullDisk = true
is_of_path _ = false

-- these are no first bytes of a database, of which there may be fewer
abbrev pub begins_otherwise : (first : List ℕ) → Bool
begins_otherwise first = not (starts_with nat_eq (codes "SQLite format 3\0") first)

-- there is a second hard link, by how many there are, where that is known
abbrev pub has_second : Option ℕ → Bool
has_second links = option_map_or (nat_lt 1) links false

-- a file that can be opened is refused where it or its log has a second hard link
abbrev pub cause_of_links : (of_file of_log : Option ℕ) → Option Cause
cause_of_links of_file of_log = if has_second of_file || has_second of_log then Some cause.SecondLink else None

-- the path of a log: that of a file, and `-wal`
abbrev pub IsLogPath : List ℕ → Type 0
IsLogPath path = (file : List ℕ) × (path ≡ file ++ codes "-wal")

-- no character of the text is a slash
abbrev pub HasNoSlash : List ℕ → Type 0
HasNoSlash = NoCharPasses (λ c. c == 47)

-- the folder of a path that has a slash, by what stands before its last one: the root where nothing does
abbrev pub folder_before : List ℕ → List ℕ
folder_before [] = codes "/"
folder_before (c ∷ cs) = c ∷ cs

-- the folder of a path; of one without a slash the present folder
abbrev pub IsFolder : (path folder : List ℕ) → Type 0
IsFolder path folder =
    (HasNoSlash path × (folder ≡ codes "."))
    ⊎ ((before name : List ℕ) × (path ≡ before ++ 47 ∷ name) × HasNoSlash name × (folder ≡ folder_before before))

-- a job ended since its store could not be opened
abbrev pub is_unopened : End → Bool
is_unopened (finish.Fault fault.OpeningStore) = true
is_unopened _ = false

-- a job ended since its store failed, as it was opened or later
abbrev pub has_failed : End → Bool
has_failed (finish.Fault fault.Store) = true
has_failed job = is_unopened job

-- the cause of a job's end where the disk refused so many writes for want of room
abbrev pub cause_of_refusals : End → ℕ → Option Cause
cause_of_refusals job refused = if has_failed job && nat_lt 0 refused then Some cause.FullDisk else None

-- a desk keeps its version in this table
abbrev pub is_meta : Table → Bool
is_meta table = same_name table.name (codes "meta")

-- there are tables, and not those of a desk
abbrev pub HasOtherTables : Schema → Type 0
HasOtherTables schema = (schema ≢ no_schema) × IsTrue (not (list_any is_meta schema.tables))

module _ {D : Type 0} {g : Ghosts D} where
  -- how a closing ended that left the files so
  abbrev pub end_of_left : Left D g → End
  end_of_left (left.Uncopied store) = finish.Fault fault.Store
  end_of_left (left.CutOff store) = finish.Fault fault.Store
  end_of_left _ = finish.Done

  -- the log was not copied, and was removed if it was new
  abbrev pub IsUnlogged : Left D g → Type 0
  IsUnlogged (left.Unlogged files) = ⊤
  IsUnlogged _ = ⊥
