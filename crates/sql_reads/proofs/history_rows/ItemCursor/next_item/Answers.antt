-- The row that is found is that of the first remaining item; no item remains once the journey is finished.
use Rattle.std.proofs.Common.{refl, sym, subst, ◌∙◌}
use Rattle.sql_model.proofs.Quieting.{quiet_keeps}
use Rattle.sql_reads.specs.ItemSearch.{IsNextOf}
use Rattle.sql_reads.proofs.HandedHistory.{item_first, item_none}
use Rattle.sql_reads.proofs.history_rows.ItemCursor.next_item.Goals as goal

pub returns-in-Some-clause-next : goal.returns-in-Some-clause-next
returns-in-Some-clause-next g c clean =
    let self = c.args.self.now in
    item_first g.S.Store self.version c.args.conn.now c.find_next.new.conn self.sought self.pos _ c.position_after-self.result self.finished
    c.is_finished_with-self.result c.in-Ok-Some.found c.in-Some.item refl refl refl
    (quiet_keeps g.S.Store c.args.conn.now c.find_next.new.conn c.find_next.ensures.quiet)
    (λ s desk keeps. subst (IsNextOf self.sought s) c.in-Ok-Some.field-0-is (c.in-Ok-Some.ensures.shows clean s desk keeps).next)
    (sym c.in-Some.is ∙ c.item_told.ensures) c.position_after-self.ensures c.is_finished_with-self.ensures c.if-self-2.false self.failed

pub returns-in-Ok-None-clause-next : goal.returns-in-Ok-None-clause-next
returns-in-Ok-None-clause-next g c clean =
    let self = c.args.self.now in
    item_none g.S.Store self.version c.args.conn.now c.find_next.new.conn self.sought self.pos self.finished
    (quiet_keeps g.S.Store c.args.conn.now c.find_next.new.conn c.find_next.ensures.quiet)
    (λ s desk keeps. subst (IsNextOf self.sought s) c.in-Ok-None.field-0-is (c.in-Ok-None.ensures.shows clean s desk keeps).next)
    c.if-self-2.false self.failed
