-- The row that is returned is that of the first remaining holder.
use Rattle.std.proofs.Common.{◌≡◌, ◌∙◌, true, false, ap, option_map}
use Rattle.sqlite.specs.Held.{state}
use Rattle.sql_lists.specs.HoldingLists.{HoldingsRest, holding_found}
use Rattle.sql_model.proofs.Staying.{of_error}
use Rattle.report_writers.specs.HoldingsLeft.{holding_short, holding_told}
use Rattle.report_writers.proofs.HoldingValues.{holding_good, holding_same, holdings_text}
use Rattle.report_writers.proofs.HandedRows.{first_in_form, found_so, good_rows_after, none_in_form}
use Rattle.report_writers.proofs.holding_rows.HoldingFoundRow.next_found.Goals as goal

pub returns-in-Some-clause-next : goal.returns-in-Some-clause-next
returns-in-Some-clause-next g c clean =
    first_in_form _ (HoldingsRest g.S.Store c.next_holding.new.rows.conn.now) (c.in-Ok-Some.ensures.next clean)
    holding_short holding_told (ap (option_map holding_found) c.in-Ok-Some.field-0-is) c.in-Some.holding
    (λ z e. holding_same c.in-Some.holding z (c.in-Some.ensures.told ∙ e))

pub returns-in-Ok-None-clause-next : goal.returns-in-Ok-None-clause-next
returns-in-Ok-None-clause-next g c clean =
    none_in_form _ (HoldingsRest g.S.Store c.next_holding.new.rows.conn.now) (c.in-Ok-None.ensures.next clean)
    holding_short holding_told (ap (option_map holding_found) c.in-Ok-None.field-0-is)

-- each good row is that of a holder
pub returns-in-Ok-Some-clause-store : goal.returns-in-Ok-Some-clause-store
returns-in-Ok-Some-clause-store g c clean good up store =
    let first = found_so _ (HoldingsRest g.S.Store c.next_holding.new.rows.conn.now) (c.in-Ok-Some.ensures.next clean)
    (ap (option_map holding_found) c.in-Ok-Some.field-0-is) in
    let there : false ≡ true =
    c.in-None.ensures.there (holding_good (HoldingsRest g.S.Store c.args.rows.now.conn.now) (HoldingsRest g.S.Store c.next_holding.new.rows.conn.now)
    (holding_found c.in-Ok-Some.found) first good.0 good.1 good.2) in
    absurd (cc)

-- an error of the store has a reason
pub returns-clause-store : goal.returns-clause-store
returns-clause-store g c clean good up store =
    of_error (state g.S.Store c.args.rows.now.conn.now) (state g.S.Store c.next_holding.new.rows.conn.now) c.in-Err.error c.fault_of.result
    c.fault_of.ensures.memory (c.in-Err.ensures.reason clean good.0 good.1 (holdings_text good.0 good.2) up) (cc)

-- the later rows are good too
pub returns-in-Some-clause-good : goal.returns-in-Some-clause-good
returns-in-Some-clause-good g c clean good = good_rows_after _ (HoldingsRest g.S.Store c.next_holding.new.rows.conn.now) (c.in-Ok-Some.ensures.next clean) good.0 good.1 good.2

pub returns-in-Ok-None-clause-good : goal.returns-in-Ok-None-clause-good
returns-in-Ok-None-clause-good g c clean good = good_rows_after _ (HoldingsRest g.S.Store c.next_holding.new.rows.conn.now) (c.in-Ok-None.ensures.next clean) good.0 good.1 good.2
