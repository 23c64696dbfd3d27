-- Why a run over a reader and a writer ends early.
use Rattle.std.specs.Prelude.{⊤, Bool, true, false}
use Rattle.commands.specs.declared.replies.Fault.{Fault}
use Rattle.commands.specs.declared.replies.Fault.TheVariants as fault
use Rattle.saga_core.specs.declared.serve_faults.ServeFault.{ServeFault}
use Rattle.saga_core.specs.declared.serve_faults.ServeFault.TheVariants.{Memory, Store, Read}

-- the fault of a run that represents a fault of a book
abbrev pub served_fault : Fault → ServeFault
served_fault fault.Memory = Memory
served_fault fault.Store = Store

-- faults that reading the input may report
abbrev pub IsOfReading : ServeFault → Type 0
IsOfReading Read = ⊤
IsOfReading Memory = ⊤
IsOfReading _ = ⊥

-- the fault is one of the store
abbrev pub is_store : ServeFault → Bool
is_store Store = true
is_store _ = false
