-- The rows that remain of the query are its only answer, and it changes nothing, whether it starts or not.
use Rattle.std.proofs.Common.{◌<◌, ◌^◌, refl, subst}
use Rattle.allotment.specs.Cells.{kind_number}
use Rattle.desk_sql.proofs.Writing.{pos_is}
use Rattle.sql_lists.proofs.CellAnswers.{kind_small}
use Rattle.sql_lists.proofs.HandedRows.{handed}
use Rattle.sql_lists.proofs.HolderAnswers.{holders_meant, holders_only, holders_take}
use Rattle.sql_lists.proofs.holders.hand_holders.Goals as goal

pub returns : goal.returns
returns g c =
    let x = c.args.cell.now in
    let few = kind_small x.kind in
    let small = subst (λ n. n < 2 ^ 63) c.day_of.ensures.day c.day_of.ensures.small in
    let it = c.query in
    let made = it.ensures in
    let both = handed holders_meant g.S.Store tt c.args.conn it.follows.lender-at-none it.result (holders_take (kind_number x.kind) x.night x.supplier x.product)
    (holders_only x small _) it.follows.holds-at-none made.same_reference made.begun made.mode made.survives
    (simp (c.from.ensures, c.number.ensures, pos_is, c.day_of.ensures.day, c.as_bytes.ensures.value, c.as_str.ensures.text, c.as_bytes-2.ensures.value, c.as_str-2.ensures.text) refl) in
    ((refl, it.follows.holds, both.0), record { fault = tt; started = both.1 })
