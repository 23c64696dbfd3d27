-- The end of a job whose store could not be opened.
use Rattle.commands.specs.declared.replies.Refusal.TheVariants as refusal
use Rattle.program_ends.specs.declared.ends.End.{End}
use Rattle.program_ends.specs.declared.ends.End.TheVariants as finish
use Rattle.program_ends.specs.declared.faults.ProgramFault.TheVariants as fault
use Rattle.tables.specs.declared.faults.OpenFault.{OpenFault}
use Rattle.tables.specs.declared.faults.OpenFault.TheVariants as opening

-- the end if a store cannot be opened as a desk: a store of another version is refused
abbrev pub end_of_open : OpenFault → End
end_of_open (opening.UnknownSchema version) = finish.Refused (refusal.UnknownSchema version)
end_of_open opening.Store = finish.Fault fault.OpeningStore
end_of_open opening.Memory = finish.Fault fault.OpeningMemory
