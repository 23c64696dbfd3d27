-- The fault of a report for a fault of its source.
use Rattle.std.specs.Prelude.{Result, Ok, Err}
use Rattle.commands.specs.declared.replies.Fault.{Fault}
use Rattle.commands.specs.declared.replies.Fault.TheVariants as fault
use Rattle.reports.specs.declared.faults.ReportFault.{ReportFault}
use Rattle.reports.specs.declared.faults.ReportFault.TheVariants.{Memory, Store}

-- the fault of a report that represents a fault of its source
abbrev pub report_fault : Fault → ReportFault
report_fault fault.Memory = Memory
report_fault fault.Store = Store

-- the same result, with the fault of a report
abbrev pub reported : {T : Type 0} → Result T Fault → Result T ReportFault
reported (Ok value) = Ok value
reported (Err fault) = Err (report_fault fault)
