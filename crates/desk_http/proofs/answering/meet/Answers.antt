-- A view changes nothing, and executes no command.
use Rattle.desk_http.proofs.AnswerLemmas.{view_obeys}
use Rattle.desk_http.proofs.answering.meet.Goals as goal

pub returns-in-SeeJourney-clause-meets : goal.returns-in-SeeJourney-clause-meets
returns-in-SeeJourney-clause-meets g c = rw c.in-SeeJourney.is (view_obeys c.see_journey.ensures.sees)

pub returns-in-SeePlan-clause-meets : goal.returns-in-SeePlan-clause-meets
returns-in-SeePlan-clause-meets g c = rw c.in-SeePlan.is (view_obeys c.see_plan.ensures.sees)

pub returns-in-SeeWhy-clause-meets : goal.returns-in-SeeWhy-clause-meets
returns-in-SeeWhy-clause-meets g c = rw c.in-SeeWhy.is (view_obeys c.see_why.ensures.sees)

pub returns-in-SeeBegun-clause-meets : goal.returns-in-SeeBegun-clause-meets
returns-in-SeeBegun-clause-meets g c = rw c.in-SeeBegun.is (view_obeys c.see_begun.ensures.sees)

pub returns-in-SeeUnfinished-clause-meets : goal.returns-in-SeeUnfinished-clause-meets
returns-in-SeeUnfinished-clause-meets g c = rw c.in-SeeUnfinished.is (view_obeys c.see_unfinished.ensures.sees)

pub returns-in-SeeMine-clause-meets : goal.returns-in-SeeMine-clause-meets
returns-in-SeeMine-clause-meets g c = rw c.in-SeeMine.is (view_obeys c.see_mine.ensures.sees)

pub returns-in-SeeStock-clause-meets : goal.returns-in-SeeStock-clause-meets
returns-in-SeeStock-clause-meets g c = rw c.in-SeeStock.is (view_obeys c.see_stock.ensures.sees)

pub returns-in-SeeCells-clause-meets : goal.returns-in-SeeCells-clause-meets
returns-in-SeeCells-clause-meets g c = rw c.in-SeeCells.is (view_obeys c.see_cells.ensures.sees)

pub returns-in-SeeHealth-clause-meets : goal.returns-in-SeeHealth-clause-meets
returns-in-SeeHealth-clause-meets g c = rw c.in-SeeHealth.is (view_obeys c.see_health.ensures.sees)

pub returns-in-SeeMetrics-clause-meets : goal.returns-in-SeeMetrics-clause-meets
returns-in-SeeMetrics-clause-meets g c = rw c.in-SeeMetrics.is (view_obeys c.see_metrics.ensures.sees)

pub returns-in-SeeReport-clause-meets : goal.returns-in-SeeReport-clause-meets
returns-in-SeeReport-clause-meets g c = rw c.in-SeeReport.is (view_obeys c.see_report.ensures.sees)
