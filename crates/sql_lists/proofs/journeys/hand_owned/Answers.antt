-- The rows that remain of the query are its only answer, and it changes nothing, whether it starts or not.
use Rattle.std.proofs.Common.{[], ◌∷◌, refl}
use Rattle.sqlite.specs.declared.types.Value.TheVariants.{Text}
use Rattle.desk_sql.specs.FoundRows.{is_owned_after}
use Rattle.desk_sql.specs.Rows.{whole}
use Rattle.desk_sql.proofs.Writing.{pos_is}
use Rattle.sql_lists.specs.JourneyLists.{OwnedAbove}
use Rattle.sql_lists.proofs.HandedRows.{handed}
use Rattle.sql_lists.proofs.JourneyAnswers.{journeys_only, owned_test}
use Rattle.sql_lists.proofs.ListMeanings.{journeys_meant, owned_takes}
use Rattle.sql_lists.proofs.journeys.hand_owned.Goals as goal

pub returns : goal.returns
returns g c =
    let small = c.requires in
    let agent = c.args.agent.now in
    let after = c.args.after in
    let it = c.query in
    let made = it.ensures in
    let both = handed journeys_meant g.S.Store OwnedAbove c.args.conn it.follows.lender-at-none it.result (owned_takes agent after)
    (journeys_only OwnedAbove (whole after ∷ Text agent ∷ []) (is_owned_after agent after) (owned_test agent after) _) it.follows.holds-at-none made.same_reference made.begun made.mode made.survives
    (simp (pos_is, c.as_bytes.ensures.value, c.as_str.ensures.text) refl) in
    ((refl, it.follows.holds, both.0), record { fault = tt; started = both.1 })
