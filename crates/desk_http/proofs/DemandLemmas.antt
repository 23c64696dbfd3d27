-- A body that is refused, for demand_by; the tests for a report and of the house, for its demands; and which demand shows the metrics,
-- for page_of.
use Rattle.std.proofs.Common.{◌≡◌, ◌∙◌, refl, sym, ap, ℕ, List, Bool, Option, Some, None, Result, Ok, Err, if◌then◌else◌}
use Rattle.commands.specs.Request.{Request}
use Rattle.commands.specs.declared.replies.Refusal.{Refusal}
use Rattle.commands.specs.declared.replies.Refusal.TheVariants.{BadBody, WrongMethod}
use Rattle.http_messages.specs.Heads.{Parts}
use Rattle.http_pages.specs.Admitting.{plain}
use Rattle.http_pages.specs.declared.routes.Denied.{Denied}
use Rattle.http_pages.specs.declared.routes.Verb.TheVariants.{Get}
use Rattle.saga_core.specs.declared.report.Report.{Report}
use Rattle.desk_http.specs.Demands.{Demand, SeeMetrics, Sender, Stop, admitted_of_house, asked_of_house, asked_report, carried, denied_by, report_demand}
use Rattle.desk_http.specs.DemandValues.{AsksFor, Demands, demand_said}
use Rattle.desk_http.specs.Monitored.{AsksForMetrics}
use Rattle.desk_http.specs.declared.demands.Demand as values
use Rattle.desk_http.specs.declared.demands.Demand.TheVariants as demanded
use Rattle.desk_http.specs.declared.demands.Unmet.{Unmet}
use Rattle.desk_http.specs.declared.demands.Unmet.TheVariants.{Memory, Refused}

-- a body that is refused makes no demand
pub refused_body : (said : Result Request Refusal) (sender : Sender) (e : Unmet) → AsksFor said (Err e)
    → Demands (denied_by (carried sender said)) (Err e)
refused_body (Ok asked) sender (Refused denied) told = cc
refused_body (Err why) sender (Refused denied) told = let same : plain why ≡ denied = cc in ap Err same
refused_body said sender Memory told = tt

-- a report, where the method is GET
abbrev pub report_if : Bool → Option Report → Result Demand Denied
report_if gets found = if gets then asked_report found else Err (record { refusal = WrongMethod; allow = Some Get })

-- the demand of the house, by whether it asks to stop, for metrics or for a report
abbrev pub house_if : (stops metrics reports : Bool) → Parts → List ℕ → Result Demand Denied
house_if stops metrics reports parts body =
    if stops then Ok Stop
    else if metrics then Ok SeeMetrics
    else if reports then report_demand parts
    else asked_of_house (admitted_of_house parts) parts body

-- words that ask for no report are malformed
pub none_asked : (found : Option Report) (unmet : Unmet) → found ≡ None → unmet ≡ Refused (plain BadBody)
    → Demands (asked_report found) (Err unmet)
none_asked found Memory is denied = tt
none_asked found (Refused other) is denied =
    let same : other ≡ plain BadBody = cc in ap asked_report is ∙ ap Err (sym same)

-- what means that the metrics are shown is that demand
pub metrics_said : (demand : values.Demand) → demand_said demand ≡ SeeMetrics → demand ≡ demanded.SeeMetrics
metrics_said demanded.SeeMetrics = λ is. refl
metrics_said _ = λ is. cc

-- a demand that is to see the metrics, and that a value represents, is that value
pub metrics_asked : (said : Result Demand Denied) (demand : values.Demand) → said ≡ Ok (demand_said demand) → AsksForMetrics said
    → demand ≡ demanded.SeeMetrics
metrics_asked said demand is asks = let same : demand_said demand ≡ SeeMetrics = cc in metrics_said demand same

-- a denial is no demand
pub denied_asks_nothing : (said : Result Demand Denied) (denied : Denied) → said ≡ Err denied → AsksForMetrics said → ⊥
denied_asks_nothing said denied is asks = cc
