-- The rows that remain of the query are its only answer, and it changes nothing, whether it starts or not.
use Rattle.std.proofs.Common.{refl}
use Rattle.sql_lists.proofs.HandedRows.{handed}
use Rattle.sql_lists.proofs.HoldingAnswers.{holdings_meant, holdings_only, holdings_take}
use Rattle.sql_lists.proofs.holdings.hand_holdings.Goals as goal

pub returns : goal.returns
returns g c =
    let f = c.args.filter.now in
    let it = c.query in
    let made = it.ensures in
    let both = handed holdings_meant g.S.Store tt c.args.conn it.follows.lender-at-none it.result (holdings_take f.kind f.supplier f.product f.from f.to)
    (holdings_only f _) it.follows.holds-at-none made.same_reference made.begun made.mode made.survives
    (simp (c.kind_value.ensures.value, c.name_value.ensures.value, c.name_value-2.ensures.value, c.night_value.ensures.value, c.night_value-2.ensures.value) refl) in
    ((refl, it.follows.holds, both.0), record { fault = tt; started = both.1 })
