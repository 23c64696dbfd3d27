-- What was written is told, whichever the report.
use Rattle.std.proofs.Common.{sym, subst}
use Rattle.report_kinds.specs.Texts.{IsOfJourney}
use Rattle.report_writers.proofs.ShowLemmas.{in_report}
use Rattle.report_writers.proofs.writing.write_report.Goals as goal

pub returns-in-Stock-clause-shows : goal.returns-in-Stock-clause-shows
returns-in-Stock-clause-shows g c =
    in_report g.S.Store (g.O.Write.contents c.args.out.now) (g.O.Write.contents c.write_stock.new.out) c.written.result c.in-Stock.is
    (c.write_stock.ensures.shows c.args.version) c.written.ensures.fails (λ s shown stock is. c.written.ensures.told _ _ _ (shown stock is))

pub returns-in-Journeys-clause-shows : goal.returns-in-Journeys-clause-shows
returns-in-Journeys-clause-shows g c =
    in_report g.S.Store (g.O.Write.contents c.args.out.now) (g.O.Write.contents c.write_journeys.new.out) c.written-in-Journeys.result c.in-Journeys.is
    (c.write_journeys.ensures.shows c.args.version) c.written-in-Journeys.ensures.fails (λ s shown stock is. c.written-in-Journeys.ensures.told _ _ _ shown)

pub returns-in-Holders-clause-shows : goal.returns-in-Holders-clause-shows
returns-in-Holders-clause-shows g c =
    in_report g.S.Store (g.O.Write.contents c.args.out.now) (g.O.Write.contents c.write_holders.new.out) c.written-in-Holders.result c.in-Holders.is
    (c.write_holders.ensures.shows c.args.version) c.written-in-Holders.ensures.fails (λ s shown stock is. c.written-in-Holders.ensures.told _ _ _ shown)

pub returns-in-Holdings-clause-shows : goal.returns-in-Holdings-clause-shows
returns-in-Holdings-clause-shows g c =
    in_report g.S.Store (g.O.Write.contents c.args.out.now) (g.O.Write.contents c.write_holdings.new.out) c.written-in-Holdings.result c.in-Holdings.is
    (c.write_holdings.ensures.shows c.args.version) c.written-in-Holdings.ensures.fails (λ s shown stock is. c.written-in-Holdings.ensures.told _ _ _ (shown stock is))

pub returns-in-Months-clause-shows : goal.returns-in-Months-clause-shows
returns-in-Months-clause-shows g c =
    in_report g.S.Store (g.O.Write.contents c.args.out.now) (g.O.Write.contents c.write_months.new.out) c.written-in-Months.result c.in-Months.is
    (c.write_months.ensures.shows c.args.version) c.written-in-Months.ensures.fails (λ s shown stock is. c.written-in-Months.ensures.told _ _ _ (shown stock is))

pub returns-in-History-clause-shows : goal.returns-in-History-clause-shows
returns-in-History-clause-shows g c =
    in_report g.S.Store (g.O.Write.contents c.args.out.now) (g.O.Write.contents c.write_history.new.out) c.write_history.result c.in-History.is c.write_history.ensures.shows (λ fails. fails) (λ s shown. shown)

pub returns-in-History-clause-absent : goal.returns-in-History-clause-absent
returns-in-History-clause-absent g c none = subst IsOfJourney (sym c.in-History.is) tt

pub returns-in-Why-clause-shows : goal.returns-in-Why-clause-shows
returns-in-Why-clause-shows g c =
    in_report g.S.Store (g.O.Write.contents c.args.out.now) (g.O.Write.contents c.write_why.new.out) c.write_why.result c.in-Why.is c.write_why.ensures.shows (λ fails. fails) (λ s shown. shown)

pub returns-in-Why-clause-absent : goal.returns-in-Why-clause-absent
returns-in-Why-clause-absent g c none = subst IsOfJourney (sym c.in-Why.is) tt
