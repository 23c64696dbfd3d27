-- All items of the journey come after the event that began it.
use Rattle.std.proofs.Common.{[], Err, refl, ap, sym, ◌∙◌}
use Rattle.sql_model.proofs.Quieting.{quiet_keeps}
use Rattle.sql_reads.proofs.ReadSought.{all_behind}
use Rattle.sql_reads.proofs.history_rows.item_cursor.Goals as goal

pub returns-in-Ok-clause-rows : goal.returns-in-Ok-clause-rows
returns-in-Ok-clause-rows g c clean s desk keeps items is =
    let w = c.in-Ok.sought in
    let read = c.in-Ok.ensures.read c.args.version in
    let at = read.shows clean s desk keeps in
    let all = at.items ∙ sym is in (
      refl,
      record {
        desk = s;
        is_desk = desk;
        keeps = quiet_keeps g.S.Store c.args.conn.now c.find_sought.new.conn read.quiet c.args.version s keeps;
        has_steps = at.steps;
        before = [];
        stands = refl;
        whole = all;
        behind = all_behind s.ledger w.journey w.after at.first ∙ all;
      },
    )

pub returns-in-Ok-clause-quiet : goal.returns-in-Ok-clause-quiet
returns-in-Ok-clause-quiet g c = (c.in-Ok.ensures.read c.args.version).quiet

pub returns-in-Err-clause-quiet : goal.returns-in-Err-clause-quiet
returns-in-Err-clause-quiet g c = (c.in-Err.ensures.read c.args.version).quiet

pub returns-in-Err-clause-store : goal.returns-in-Err-clause-store
returns-in-Err-clause-store g c v clean s desk spelled keeps up store =
    (c.in-Err.ensures.read v).store clean s desk spelled keeps tt up (ap Err cc)
