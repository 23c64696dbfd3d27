-- The rows that remain of the query are its only answer, and it changes nothing, whether it starts or not.
use Rattle.std.proofs.Common.{true, false, None, Some, refl}
use Rattle.desk_sql.proofs.Writing.{pos_is}
use Rattle.sql_lists.specs.JourneyLists.{InPhases, least_phase, most_phase}
use Rattle.sql_lists.proofs.HandedRows.{handed}
use Rattle.sql_lists.proofs.JourneyAnswers.{filter_only, journeys_take, least_small, most_small}
use Rattle.sql_lists.proofs.ListMeanings.{journeys_meant}
use Rattle.sql_lists.proofs.journeys.hand_journeys.Goals as goal

pub returns-in-None : goal.returns-in-None
returns-in-None g c =
    let f = c.args.filter.now in
    let small = least_small f.phases in
    let few = most_small f.phases in
    let it = c.query in
    let made = it.ensures in
    let both = handed journeys_meant g.S.Store (InPhases false) c.args.conn it.follows.lender-at-none it.result (journeys_take (least_phase f.phases) (most_phase f.phases) None)
    (filter_only f None c.in-None.is _) it.follows.holds-at-none made.same_reference made.begun made.mode made.survives
    (simp (c.range_of-least.ensures.least, c.range_of-least.ensures.most, pos_is) refl) in
    ((refl, it.follows.holds, both.0), record { fault = tt; started = both.1 })

pub returns-in-Some : goal.returns-in-Some
returns-in-Some g c =
    let f = c.args.filter.now in
    let small = least_small f.phases in
    let few = most_small f.phases in
    let it = c.query-in-Some in
    let made = it.ensures in
    let both = handed journeys_meant g.S.Store (InPhases true) c.args.conn it.follows.lender-at-none it.result (journeys_take (least_phase f.phases) (most_phase f.phases) (Some c.in-Some.agent))
    (filter_only f (Some c.in-Some.agent) c.in-Some.is _) it.follows.holds-at-none made.same_reference made.begun made.mode made.survives
    (simp (c.range_of-least.ensures.least, c.range_of-least.ensures.most, pos_is, c.as_bytes.ensures.value, c.as_str.ensures.text) refl) in
    ((refl, it.follows.holds, both.0), record { fault = tt; started = both.1 })
