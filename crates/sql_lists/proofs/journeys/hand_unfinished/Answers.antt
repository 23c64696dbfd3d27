-- The rows that remain of the query are its only answer, and it changes nothing, whether it starts or not.
use Rattle.std.proofs.Common.{[], ◌∷◌, refl}
use Rattle.desk_sql.specs.FoundRows.{is_unfinished_after}
use Rattle.desk_sql.specs.Rows.{whole}
use Rattle.desk_sql.proofs.DeskQueries.{unfinished_test}
use Rattle.desk_sql.proofs.Writing.{pos_is}
use Rattle.sql_lists.specs.JourneyLists.{UnfinishedAbove}
use Rattle.sql_lists.proofs.HandedRows.{handed}
use Rattle.sql_lists.proofs.JourneyAnswers.{journeys_only}
use Rattle.sql_lists.proofs.ListMeanings.{journeys_meant, unfinished_takes}
use Rattle.sql_lists.proofs.journeys.hand_unfinished.Goals as goal

pub returns : goal.returns
returns g c =
    let small = c.requires in
    let after = c.args.after in
    let it = c.query in
    let made = it.ensures in
    let both = handed journeys_meant g.S.Store UnfinishedAbove c.args.conn it.follows.lender-at-none it.result (unfinished_takes after)
    (journeys_only UnfinishedAbove (whole after ∷ []) (is_unfinished_after after) (unfinished_test after) _) it.follows.holds-at-none made.same_reference made.begun made.mode made.survives
    (simp pos_is refl) in
    ((refl, it.follows.holds, both.0), record { fault = tt; started = both.1 })
