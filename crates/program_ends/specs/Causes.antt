-- Why the program ended as it did, in words for a user, and how they are printed after the line of the end.
use Rattle.std.specs.Prelude.{◌==◌, if◌then◌else◌, ℕ, List, codes, Option, None, Some}
use Rattle.std.specs.Io.KnownBytes.{Keeps}
use Rattle.saga_core.specs.Written.{WroteFront}
use Rattle.commands.specs.declared.replies.CsvCause.{CsvCause}
use Rattle.commands.specs.declared.replies.CsvCause.TheVariants as csv
use Rattle.commands.specs.declared.replies.Refusal.TheVariants as refusal
use Rattle.program_ends.specs.Ends.{TellsError}
use Rattle.program_ends.specs.declared.ends.End.{End}
use Rattle.program_ends.specs.declared.ends.End.TheVariants as finish
use Rattle.program_ends.specs.declared.causes.Cause.{Cause}
use Rattle.program_ends.specs.declared.causes.Cause.TheVariants as cause

-- the line of what an allotment file has to be like, where it has this fault
abbrev pub csv_line : CsvCause → List ℕ
csv_line csv.Size = codes "An allotment file has at most 262144 bytes. Divide it into several batches.\n"
csv_line csv.Header = codes "The first line has to be kind,supplier,product,night,places.\n"
csv_line csv.Many = codes "An allotment file has at most 2000 rows. Divide it into several batches.\n"
csv_line csv.Shape = codes "A row has five fields of text, as flight,AL,A1,2030-06-01,10.\n"
csv_line csv.Kind = codes "A kind is flight, room, transfer or cover.\n"
csv_line csv.Code = codes "A supplier or product is 1 to 8 capital letters A to Z and digits.\n"
csv_line csv.Night = codes "A night is a date from 2000-01-01 to 2099-12-31, as 2030-06-01.\n"
csv_line csv.Places = codes "Places are a number from 0 to 100000, without sign or leading zeros.\n"
csv_line csv.Twice = codes "The cell of this row stands in an earlier row. Leave one of them out.\n"
csv_line csv.Empty = codes "The file has no row after its first line.\n"

-- the line of a cause: what the matter is, and what to do
abbrev pub cause_line : Cause → List ℕ
cause_line cause.Absent = codes "The file is absent. Look at its name.\n"
cause_line cause.NoFolder = codes "The folder of the file is absent. Make it, or look at its name.\n"
cause_line cause.NotMade = codes "The file is absent and cannot be made. Its folder may be read-only, or the disk full.\n"
cause_line cause.InUse = codes "The file is in use. End the program that has it open, or wait for it.\n"
cause_line cause.SecondLink = codes "The file or its log has a second hard link, as 'ln' and 'cp -l' make. Remove one.\n"
cause_line cause.NotPermitted = codes "The file or its folder may not be read and written. Ask its owner for that.\n"
cause_line cause.NoFile = codes "This is a folder, or another thing that is no file. Name a file.\n"
cause_line cause.NoDatabase = codes "The file is no database, and is left as it was. Look at its name.\n"
cause_line cause.OtherTables = codes "The database is another program's, and is left as it was. Look at its name.\n"
cause_line cause.Damaged = codes "The database is damaged, or of a form that cannot be read. Take a backup of it.\n"
cause_line cause.FullDisk = codes "The disk is full. Make room on it, and run again.\n"
cause_line cause.FailedDisk = codes "The disk failed in a read or a write. Look after it, and run again.\n"
cause_line cause.OldVersion = codes "The database is of an older version. Make a copy of it, and run 'desk migrate'.\n"
cause_line cause.OtherVersion = codes "The database is of an unknown version. Take the program that made it.\n"
cause_line (cause.WrongFile fault) = csv_line fault
cause_line cause.BadName = codes "The name of a batch is 1 to 24 of a-z, 0-9 and '-'.\n"
cause_line cause.PortInUse = codes "The port is in use. End the program that listens there, or take another port.\n"
cause_line cause.AddressInUse = codes "The port or the path of --house is in use. End the program that listens there.\n"
cause_line cause.NoSocket = codes "A folder or another file is at the path of --house, or there with .new. Take another.\n"
cause_line cause.NoDesk = codes "No desk serves at the path of --at. Start one with --house, or name its file.\n"
cause_line cause.NoAnswer = codes "No whole report came from the path of --at. Ask again; an older desk has none.\n"

-- the cause that an end alone shows: the version before the newest or another one, or a fault of an allotment file
abbrev pub cause_of_version : ℕ → Cause
cause_of_version version = if version == 1 then cause.OldVersion else cause.OtherVersion

abbrev pub cause_of_end : End → Option Cause
cause_of_end (finish.Refused (refusal.UnknownSchema version)) = Some (cause_of_version version)
cause_of_end (finish.Refused (refusal.BadCsv row fault)) = Some (cause.WrongFile fault)
cause_of_end _ = None

-- the cause that the end of a load shows: a load that is refused for a form has a bad name
abbrev pub cause_of_load : End → Option Cause
cause_of_load (finish.Refused refusal.BadBody) = Some cause.BadName
cause_of_load e = cause_of_end e

-- nothing was written without a cause, and a prefix of its line with one
abbrev pub TellsCause : Option Cause → Option (List ℕ) → Option (List ℕ) → Type 0
TellsCause None held holds = Keeps held holds
TellsCause (Some c) held holds = WroteFront held holds (cause_line c)

-- the text of an end on standard error, and after it the line of its cause
pub record Explains (e : End) (c : Option Cause) (held holds : Option (List ℕ)) : Type 0 where
  pub between : Option (List ℕ)
  pub told : TellsError e held between
  pub why : TellsCause c between holds
