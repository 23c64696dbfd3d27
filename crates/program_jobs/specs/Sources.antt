-- Which bytes are read of an allotment file, and why they may not be.
use Rattle.std.specs.Prelude.{◌≡◌, ◌+◌, ⊤, ℕ, List, take, Option, IfSome}
use Rattle.std.specs.String.{string_bytes}
use Rattle.commands.specs.Limits.{most_bytes}
use Rattle.program_ends.specs.declared.faults.ProgramFault.{ProgramFault}
use Rattle.program_ends.specs.declared.faults.ProgramFault.TheVariants as fault
use Rattle.program_jobs.specs.declared.tasks.Source.{Source}
use Rattle.program_jobs.specs.declared.tasks.Source.TheVariants as source

-- these are the bytes that were there, where that is known, or the first so many of them
abbrev pub ArePrefixOf : ℕ → Option (List ℕ) → List ℕ → Type 0
ArePrefixOf most there bytes = IfSome there (λ all. bytes ≡ take most all)

-- these are the bytes of the input or of the file of that name, of each at most one more than an allotment file may have
abbrev pub AreReadFrom : (List ℕ → Option (List ℕ)) → Option (List ℕ) → Source → List ℕ → Type 0
AreReadFrom files input source.Input bytes = ArePrefixOf (most_bytes + 1) input bytes
AreReadFrom files input (source.File name) bytes = ArePrefixOf (most_bytes + 1) (files (string_bytes name)) bytes

-- memory ran out, or the input failed
abbrev pub IsFaultOfInput : ProgramFault → Type 0
IsFaultOfInput fault.Memory = ⊤
IsFaultOfInput fault.Read = ⊤
IsFaultOfInput _ = ⊥

-- memory ran out, or the file of a name cannot be read
abbrev pub IsFaultOfFile : ProgramFault → Type 0
IsFaultOfFile fault.Memory = ⊤
IsFaultOfFile fault.File = ⊤
IsFaultOfFile _ = ⊥

-- the one or the other
abbrev pub IsFaultOfSource : Source → ProgramFault → Type 0
IsFaultOfSource source.Input f = IsFaultOfInput f
IsFaultOfSource (source.File name) f = IsFaultOfFile f
