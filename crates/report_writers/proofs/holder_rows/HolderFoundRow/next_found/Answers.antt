-- The row that is returned is that of the first remaining holder.
use Rattle.std.proofs.Common.{map}
use Rattle.sqlite.specs.Held.{state}
use Rattle.sql_lists.specs.HolderLists.{HoldersRest}
use Rattle.sql_model.proofs.Staying.{of_error}
use Rattle.report_writers.specs.HoldersLeft.{found_of}
use Rattle.report_writers.proofs.HandedRows.{first_of_row, none_of_row, some_after}
use Rattle.report_writers.proofs.HandedHolders.{holder_same}
use Rattle.report_writers.proofs.holder_rows.HolderFoundRow.next_found.Goals as goal

pub returns-in-Ok-Some-clause-next : goal.returns-in-Ok-Some-clause-next
returns-in-Ok-Some-clause-next g c clean =
    first_of_row _ (HoldersRest g.S.Store c.next_holder.new.rows.conn.now) (c.in-Ok-Some.ensures.next clean)
    found_of holder_same c.in-Ok-Some.field-0-is c.holder_of.result c.holder_of.ensures.told

pub returns-in-Ok-None-clause-next : goal.returns-in-Ok-None-clause-next
returns-in-Ok-None-clause-next g c clean =
    none_of_row _ (HoldersRest g.S.Store c.next_holder.new.rows.conn.now) (c.in-Ok-None.ensures.next clean)
    found_of c.in-Ok-None.field-0-is

-- an error of the store has a reason
pub returns-in-Err-clause-store : goal.returns-in-Err-clause-store
returns-in-Err-clause-store g c clean good up store =
    of_error (state g.S.Store c.args.rows.now.conn.now) (state g.S.Store c.next_holder.new.rows.conn.now) c.in-Err.error c.fault_of.result
    c.fault_of.ensures.memory (c.in-Err.ensures.reason clean (map found_of good.0) good.1 up) (cc)

-- some holders remain then too
pub returns-in-Ok-Some-clause-good : goal.returns-in-Ok-Some-clause-good
returns-in-Ok-Some-clause-good g c clean good = some_after _ (returns-in-Ok-Some-clause-next g c clean) good.0 good.1

pub returns-in-Ok-None-clause-good : goal.returns-in-Ok-None-clause-good
returns-in-Ok-None-clause-good g c clean good = some_after _ (returns-in-Ok-None-clause-next g c clean) good.0 good.1
