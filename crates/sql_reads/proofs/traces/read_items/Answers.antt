-- The rows of the items after the event that began a journey are its history.
use Rattle.std.proofs.Common.{◌≡◌, ◌∙◌, sym, rules}
use Rattle.desk_sql.specs.FoundRows.{item_of}
use Rattle.desk_sql.specs.declared.journeys.ItemFound.{ItemFound}
use Rattle.ledger.specs.Ledger.{history}
use Rattle.sql_model.specs.Reading.{item_in}
use Rattle.sql_model.proofs.Readings.{items_read}
use Rattle.sql_reads.specs.ItemSearch.{HasNoItemTo}
use Rattle.sql_reads.specs.Reading.{TellItems}
use Rattle.sql_reads.proofs.ReadJourneys.{some_one}
use Rattle.sql_reads.proofs.ReadLemmas.{also_ok, found_rows, query_fails, read_so}
use Rattle.sql_reads.proofs.ReadReasons.{all_some}
use Rattle.sql_reads.proofs.traces.read_items.Goals as goal

-- each row tells an item of the journey
pub returns-in-Ok : goal.returns-in-Ok
returns-in-Ok g c =
    let id = c.args.id in
    let after = c.args.after in
    let rows = c.in-Ok.found.items in
    read_so c.items_told.result (found_rows c.in-Ok.ensures.queries) (λ s desk at.
    also_ok c.items_told.result (λ items. TellItems rows items.items) (λ items. HasNoItemTo id after s → items.items ≡ history s.ledger id)
    (λ items tell first. some_one items.items (history s.ledger id)
    (sym tell ∙ items_read at.tables s at.stands desk id after rows first at.rows.entries.rise at.found)) (search rules))
    (λ s desk spelled first at. (simp c.as_slice.ensures.value at c.items_told.ensures.there)
    (all_some (λ (i : ItemFound). item_in (item_of 0 i)) rows (history s.ledger id)
    (items_read at.tables s at.stands desk id after rows first at.rows.entries.rise at.found)))

pub returns-in-Err : goal.returns-in-Err
returns-in-Err g c = query_fails c.in-Err.ensures.queries c.fault_of.ensures.memory (λ t s st desk spelled first. tt)
