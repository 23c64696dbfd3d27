-- The rows that remain of the query are its only answer, and it changes nothing, whether it starts or not.
-- More than 60 lines: four ways out.
use Rattle.std.proofs.Common.{◌<◌, ◌^◌, true, false, None, Some, refl, subst}
use Rattle.allotment.specs.Cells.{kind_number}
use Rattle.saga_core.specs.CellFilters.{last_day}
use Rattle.desk_sql.proofs.Writing.{pos_is}
use Rattle.sql_lists.proofs.CellAnswers.{cells_only, cells_take, kind_small}
use Rattle.sql_lists.proofs.HandedRows.{handed}
use Rattle.sql_lists.proofs.ListMeanings.{cells_meant}
use Rattle.sql_lists.proofs.cells.hand_cells.Goals as goal

pub returns-in-None-None : goal.returns-in-None-None
returns-in-None-None g c =
    let f = c.args.filter.now in
    let small = kind_small c.args.kind in
    let early = subst (λ n. n < 2 ^ 63) c.first_day.ensures.day c.first_day.ensures.small in
    let late = subst (λ n. n < 2 ^ 63) c.last_day.ensures.day c.last_day.ensures.small in
    let it = c.query in
    let made = it.ensures in
    let both = handed cells_meant g.S.Store (Some (false, false)) c.args.conn it.follows.lender-at-none it.result (cells_take (kind_number c.args.kind) f.from (last_day f.to) None None)
    (cells_only c.args.kind f None None c.in-None-None.is-0 c.in-None-None.is-1 _) it.follows.holds-at-none made.same_reference made.begun made.mode made.survives
    (simp (c.from.ensures, c.number.ensures, pos_is, c.first_day.ensures.day, c.last_day.ensures.day) refl) in
    ((refl, it.follows.holds, both.0), record { fault = tt; started = both.1 })

pub returns-in-None-Some : goal.returns-in-None-Some
returns-in-None-Some g c =
    let f = c.args.filter.now in
    let small = kind_small c.args.kind in
    let early = subst (λ n. n < 2 ^ 63) c.first_day.ensures.day c.first_day.ensures.small in
    let late = subst (λ n. n < 2 ^ 63) c.last_day.ensures.day c.last_day.ensures.small in
    let it = c.query-in-None-Some in
    let made = it.ensures in
    let both = handed cells_meant g.S.Store (Some (false, true)) c.args.conn it.follows.lender-at-none it.result (cells_take (kind_number c.args.kind) f.from (last_day f.to) None (Some c.in-None-Some.product))
    (cells_only c.args.kind f None (Some c.in-None-Some.product) c.in-None-Some.is-0 c.in-None-Some.is-1 _) it.follows.holds-at-none made.same_reference made.begun made.mode made.survives
    (simp (c.from.ensures, c.number.ensures, pos_is, c.first_day.ensures.day, c.last_day.ensures.day, c.as_bytes.ensures.value, c.as_str.ensures.text) refl) in
    ((refl, it.follows.holds, both.0), record { fault = tt; started = both.1 })

pub returns-in-Some-None : goal.returns-in-Some-None
returns-in-Some-None g c =
    let f = c.args.filter.now in
    let small = kind_small c.args.kind in
    let early = subst (λ n. n < 2 ^ 63) c.first_day.ensures.day c.first_day.ensures.small in
    let late = subst (λ n. n < 2 ^ 63) c.last_day.ensures.day c.last_day.ensures.small in
    let it = c.query-in-Some-None in
    let made = it.ensures in
    let both = handed cells_meant g.S.Store (Some (true, false)) c.args.conn it.follows.lender-at-none it.result (cells_take (kind_number c.args.kind) f.from (last_day f.to) (Some c.in-Some-None.supplier) None)
    (cells_only c.args.kind f (Some c.in-Some-None.supplier) None c.in-Some-None.is-0 c.in-Some-None.is-1 _) it.follows.holds-at-none made.same_reference made.begun made.mode made.survives
    (simp (c.from.ensures, c.number.ensures, pos_is, c.first_day.ensures.day, c.last_day.ensures.day, c.as_bytes-in-Some-None.ensures.value, c.as_str-in-Some-None.ensures.text) refl) in
    ((refl, it.follows.holds, both.0), record { fault = tt; started = both.1 })

pub returns-in-Some-Some : goal.returns-in-Some-Some
returns-in-Some-Some g c =
    let f = c.args.filter.now in
    let small = kind_small c.args.kind in
    let early = subst (λ n. n < 2 ^ 63) c.first_day.ensures.day c.first_day.ensures.small in
    let late = subst (λ n. n < 2 ^ 63) c.last_day.ensures.day c.last_day.ensures.small in
    let it = c.query-in-Some-Some in
    let made = it.ensures in
    let both = handed cells_meant g.S.Store (Some (true, true)) c.args.conn it.follows.lender-at-none it.result (cells_take (kind_number c.args.kind) f.from (last_day f.to) (Some c.in-Some-Some.supplier) (Some c.in-Some-Some.product))
    (cells_only c.args.kind f (Some c.in-Some-Some.supplier) (Some c.in-Some-Some.product) c.in-Some-Some.is-0 c.in-Some-Some.is-1 _) it.follows.holds-at-none made.same_reference made.begun made.mode made.survives
    (simp (c.from.ensures, c.number.ensures, pos_is, c.first_day.ensures.day, c.last_day.ensures.day, c.as_bytes-in-Some-Some.ensures.value, c.as_str-in-Some-Some.ensures.text, c.as_bytes-in-Some-Some-2.ensures.value, c.as_str-in-Some-Some-2.ensures.text) refl) in
    ((refl, it.follows.holds, both.0), record { fault = tt; started = both.1 })
