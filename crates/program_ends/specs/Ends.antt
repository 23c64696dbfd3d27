-- How the program ends, and what it prints at its end.
use Rattle.std.specs.Prelude.{◌≡◌, ◌⊎◌, ⊤, ℕ, List, [], ◌∷◌, codes, decimal, Option, Result, Ok, Err}
use Rattle.std.specs.String.{string_bytes}
use Rattle.std.specs.Io.KnownBytes.{Keeps}
use Rattle.saga_core.specs.Written.{WroteFront}
use Rattle.commands.specs.Texts.{refusal_line, sentence}
use Rattle.commands.specs.declared.replies.Refusal.{Refusal}
use Rattle.reports.specs.declared.faults.ReportFault.{ReportFault}
use Rattle.reports.specs.declared.faults.ReportFault.TheVariants as report
use Rattle.saga_core.specs.StreamScenes.{ended}
use Rattle.saga_core.specs.declared.serve_faults.ServeFault.{ServeFault}
use Rattle.saga_core.specs.declared.serve_faults.ServeFault.TheVariants as serve
use Rattle.command_line.specs.declared.jobs.JobFault.{JobFault}
use Rattle.command_line.specs.declared.jobs.JobFault.TheVariants as job
use Rattle.program_ends.specs.declared.ends.End.{End}
use Rattle.program_ends.specs.declared.ends.End.TheVariants as finish
use Rattle.program_ends.specs.declared.faults.ProgramFault.{ProgramFault}
use Rattle.program_ends.specs.declared.faults.ProgramFault.TheVariants as fault

-- the number of a fault
abbrev pub fault_number : ProgramFault → ℕ
fault_number fault.Memory = 17
fault_number fault.Store = 18
fault_number fault.OpeningStore = 21
fault_number fault.OpeningMemory = 22
fault_number fault.Read = 24
fault_number fault.Write = 25
fault_number fault.File = 26
fault_number fault.Net = 27

-- the name of a fault
abbrev pub fault_name : ProgramFault → List ℕ
fault_name fault.Memory = codes "Memory"
fault_name fault.Store = codes "Store"
fault_name fault.OpeningStore = codes "Store"
fault_name fault.OpeningMemory = codes "Memory"
fault_name fault.Read = codes "Read"
fault_name fault.Write = codes "Write"
fault_name fault.File = codes "File"
fault_name fault.Net = codes "Net"

-- the line of a fault: `fault 17 Memory`
abbrev pub fault_line : ProgramFault → List ℕ
fault_line f = ended (sentence (codes "fault" ∷ decimal (fault_number f) ∷ fault_name f ∷ []))

-- the fault of the program that represents the fault of a run
abbrev pub fault_of_run : ServeFault → ProgramFault
fault_of_run serve.Memory = fault.Memory
fault_of_run serve.Store = fault.Store
fault_of_run serve.Read = fault.Read
fault_of_run serve.Write = fault.Write

-- the fault of the program that represents the fault of a report
abbrev pub fault_of_report : ReportFault → ProgramFault
fault_of_report report.Memory = fault.Memory
fault_of_report report.Store = fault.Store
fault_of_report report.Write = fault.Write

-- the end of a result: all was done, or its fault
abbrev pub end_of_result : {T : Type 0} → Result T ProgramFault → End
end_of_result (Ok done) = finish.Done
end_of_result (Err f) = finish.Fault f

-- the first end; or the second, if the first was done
abbrev pub end_of_both : End → End → End
end_of_both finish.Done after = after
end_of_both first after = first

-- the end of words without a job: the usage, or out of memory
abbrev pub end_of_job : JobFault → End
end_of_job (job.Usage text) = finish.Usage text
end_of_job job.Memory = finish.Fault fault.Memory

-- the text that is printed if a word of the command line is not UTF-8
abbrev pub not_text : List ℕ
not_text =
    codes "error: invalid UTF-8 was detected in one or more arguments\n\nFor more information, try '--help'.\n"

-- the end is wrong usage, with this text; or out of memory for the text
abbrev pub IsUsageFor : List ℕ → End → Type 0
IsUsageFor text (finish.Usage shown) = string_bytes shown ≡ text
IsUsageFor text (finish.Fault fault.Memory) = ⊤
IsUsageFor text _ = ⊥

-- the exit status: 0 done, 1 refused or fault, 2 usage
abbrev pub status_of : End → ℕ
status_of finish.Done = 0
status_of (finish.Refused refusal) = 1
status_of (finish.Fault f) = 1
status_of (finish.Usage text) = 2

-- an end of a job: any but a usage
abbrev pub EndsJob : End → Type 0
EndsJob (finish.Usage text) = ⊥
EndsJob _ = ⊤

-- an end of a job in which not all was done
abbrev pub EndsBadly : End → Type 0
EndsBadly finish.Done = ⊥
EndsBadly e = EndsJob e

-- an end that is no refusal
abbrev pub IsNotRefused : End → Type 0
IsNotRefused (finish.Refused why) = ⊥
IsNotRefused _ = ⊤

-- this holds of the refusal, if the end is one
abbrev pub IfRefused : End → (Refusal → Type 0) → Type 0
IfRefused (finish.Refused why) So = So why
IfRefused _ So = ⊤

-- this holds of the fault, if the end is one
abbrev pub IfFault : End → (ProgramFault → Type 0) → Type 0
IfFault (finish.Fault f) So = So f
IfFault _ So = ⊤

-- this holds if all was done
abbrev pub IfDone : End → Type 0 → Type 0
IfDone finish.Done So = So
IfDone _ So = ⊤

-- the text on standard output: a refusal, or nothing
abbrev pub told_out : End → List ℕ
told_out (finish.Refused refusal) = ended (refusal_line refusal)
told_out _ = []

-- nothing, or a prefix of the line of a fault, was written
abbrev pub TellsNoneOrFault : Option (List ℕ) → Option (List ℕ) → Type 0
TellsNoneOrFault held holds =
    Keeps held holds ⊎ ((f : ProgramFault) × WroteFront held holds (fault_line f))

-- the text on standard error: a fault, a usage, or the fault because of which a refusal was not printed
abbrev pub TellsError : End → Option (List ℕ) → Option (List ℕ) → Type 0
TellsError finish.Done held holds = Keeps held holds
TellsError (finish.Refused refusal) held holds = TellsNoneOrFault held holds
TellsError (finish.Fault f) held holds = WroteFront held holds (fault_line f)
TellsError (finish.Usage text) held holds = WroteFront held holds (string_bytes text)
