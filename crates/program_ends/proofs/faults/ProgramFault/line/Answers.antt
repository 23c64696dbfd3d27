-- Each line is a literal, with its number in digits.
use Rattle.std.proofs.Common.{rules}
use Rattle.std.specs.Fmt.{digits}
use Rattle.program_ends.proofs.faults.ProgramFault.line.Goals as goal

pub returns-in-Memory : goal.returns-in-Memory
unfolding digits
returns-in-Memory c = search rules

pub returns-in-Store : goal.returns-in-Store
unfolding digits
returns-in-Store c = search rules

pub returns-in-OpeningStore : goal.returns-in-OpeningStore
unfolding digits
returns-in-OpeningStore c = search rules

pub returns-in-OpeningMemory : goal.returns-in-OpeningMemory
unfolding digits
returns-in-OpeningMemory c = search rules

pub returns-in-Read : goal.returns-in-Read
unfolding digits
returns-in-Read c = search rules

pub returns-in-Write : goal.returns-in-Write
unfolding digits
returns-in-Write c = search rules

pub returns-in-File : goal.returns-in-File
unfolding digits
returns-in-File c = search rules

pub returns-in-Net : goal.returns-in-Net
unfolding digits
returns-in-Net c = search rules
