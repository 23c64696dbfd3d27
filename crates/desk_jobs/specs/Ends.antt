-- How a job ends, and the lines that it writes.
use Rattle.std.specs.Prelude.{⊤, ℕ, List, [], ◌∷◌, codes, decimal, Option, Result, Ok, Err, IfErr, OnOk}
use Rattle.std.specs.Io.KnownBytes.{Appends}
use Rattle.commands.specs.Texts.{reply_line, sentence}
use Rattle.commands.specs.declared.replies.Reply.{Reply}
use Rattle.commands.specs.declared.replies.Reply.TheVariants as reply
use Rattle.saga_core.specs.StreamScenes.{ended}
use Rattle.saga_core.specs.Written.{WroteFront}
use Rattle.saga_core.specs.declared.serve_faults.ServeFault.{ServeFault}
use Rattle.saga_core.specs.declared.serve_faults.ServeFault.TheVariants as serve
use Rattle.program_ends.specs.Ends.{IfDone, fault_of_run}
use Rattle.program_ends.specs.declared.ends.End.{End}
use Rattle.program_ends.specs.declared.ends.End.TheVariants as finish
use Rattle.program_ends.specs.declared.faults.ProgramFault.{ProgramFault}
use Rattle.program_ends.specs.declared.faults.ProgramFault.TheVariants as fault

-- the line with the number of recovery's events: `recovered 3`
abbrev pub recovered_line : ℕ → List ℕ
recovered_line made = ended (sentence (codes "recovered" ∷ decimal made ∷ []))

-- the reply is not a refusal
abbrev pub IsAccepted : Reply → Type 0
IsAccepted (reply.Refused refusal) = ⊥
IsAccepted _ = ⊤

-- the line of a reply that is not a refusal was written, and nothing else
abbrev pub TellsAccepted : Option (List ℕ) → Option (List ℕ) → Type 0
TellsAccepted held holds =
    (told : Reply) × IsAccepted told × Appends held holds (ended (reply_line told))

-- memory ran out, or the store failed
abbrev pub IsOfBook : ServeFault → Type 0
IsOfBook serve.Memory = ⊤
IsOfBook serve.Store = ⊤
IsOfBook _ = ⊥

-- memory ran out, or the output failed
abbrev pub IsOfWriting : ServeFault → Type 0
IsOfWriting serve.Memory = ⊤
IsOfWriting serve.Write = ⊤
IsOfWriting _ = ⊥

-- a line was written; or memory ran out, or the output failed, and a prefix of it was
pub record SendsLine {T : Type 0} (held holds : Option (List ℕ)) (line : List ℕ) (result : Result T ServeFault) : Type 0 where
  pub sent : OnOk result (Appends held holds line)
  pub front : WroteFront held holds line
  pub fault : IfErr result IsOfWriting

-- The faults of jobs.

-- the fault of a desk that was opened and recovered: of memory or the store, or of these while it was opened
abbrev pub IsFaultOfRecovery : ProgramFault → Type 0
IsFaultOfRecovery fault.Memory = ⊤
IsFaultOfRecovery fault.Store = ⊤
IsFaultOfRecovery fault.OpeningStore = ⊤
IsFaultOfRecovery fault.OpeningMemory = ⊤
IsFaultOfRecovery _ = ⊥

-- the fault of a run: one of recovery, or of the input or the output
abbrev pub IsFaultOfRun : ProgramFault → Type 0
IsFaultOfRun fault.Read = ⊤
IsFaultOfRun fault.Write = ⊤
IsFaultOfRun f = IsFaultOfRecovery f

-- the fault of a load into a recovered desk: of memory, the store or the output
abbrev pub IsFaultOfLoad : ProgramFault → Type 0
IsFaultOfLoad fault.Memory = ⊤
IsFaultOfLoad fault.Store = ⊤
IsFaultOfLoad fault.Write = ⊤
IsFaultOfLoad _ = ⊥

-- a text was written, or memory ran out, or the output failed
abbrev pub EndsWriting : End → Type 0
EndsWriting finish.Done = ⊤
EndsWriting (finish.Fault fault.Memory) = ⊤
EndsWriting (finish.Fault fault.Write) = ⊤
EndsWriting _ = ⊥

-- the same of a line: it was written if all was done, and a prefix of it in any case
pub record TellsLine (held holds : Option (List ℕ)) (line : List ℕ) (end : End) : Type 0 where
  pub told : IfDone end (Appends held holds line)
  pub front : WroteFront held holds line
  pub writing : EndsWriting end

-- the end of a run over a recovered desk: all lines were answered, or a fault came
abbrev pub end_of_run : {T : Type 0} → Result T ServeFault → End
end_of_run (Ok count) = finish.Done
end_of_run (Err f) = finish.Fault (fault_of_run f)
