-- The later items can be read too, or something failed.
use Rattle.report_writers.proofs.ReadyLemmas.{items_stay}
use Rattle.report_writers.proofs.item_rows.ItemRowsRowSourceItem.next_row.Goals as goal

pub returns-clause-reason : goal.returns-clause-reason
returns-clause-reason g c first clean ready =
    let made = c.next_item.ensures in
    items_stay g.S.Store _ _ c.next_item.result ready made.quiet clean made.low made.version made.going made.store
