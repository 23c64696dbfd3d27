-- What a monitor reads: the page of the counts that were given.
use Rattle.std.specs.Prelude.{◌≡◌, ⊤, ℕ, Bool, List, codes, None, Result, Ok}
use Rattle.http_log.specs.MetricsText.{metrics_text}
use Rattle.http_log.specs.declared.counting.Metrics.{Metrics}
use Rattle.http_messages.specs.Heads.{Parts, is_method, parts_of}
use Rattle.http_messages.specs.Messages.{Message, NoHead, Asks}
use Rattle.http_pages.specs.Pages.{Paged, monitored_page, page_text}
use Rattle.http_pages.specs.declared.routes.Denied.{Denied}
use Rattle.saga_core.specs.declared.records.Counts.{Counts}
use Rattle.desk_http.specs.Demands.{Demand, SeeMetrics, demand_of}
use Rattle.desk_http.specs.Hosts.{refusal_at}
use Rattle.desk_http.specs.Pages.{closes}
use Rattle.desk_http.specs.declared.doors.Door.{Door}

-- the page shows what was counted so, and what some desk has
pub record ShowsCounted (counted : Metrics) (page : Paged) : Type 0 where
  pub counts : Counts
  pub shown : page ≡ monitored_page (metrics_text counts counted)

-- these are the bytes of a page that shows what was counted so
pub record AreCounted (counted : Metrics) (parts : Parts) (closing : Bool) (bytes : List ℕ) : Type 0 where
  pub page : Paged
  pub shows : ShowsCounted counted page
  pub text : bytes ≡ page_text (is_method (codes "HEAD") parts) closing page

-- the demand is to see the metrics
abbrev pub AsksForMetrics : Result Demand Denied → Type 0
AsksForMetrics demand = demand ≡ Ok SeeMetrics

-- a message that asks for metrics, and is not refused, gets what was counted so
abbrev pub GetsCounted : Metrics → Door → Message → List ℕ → Type 0
GetsCounted counted door NoHead bytes = ⊤
GetsCounted counted door (Asks h body) bytes =
    refusal_at door (parts_of h) ≡ None → AsksForMetrics (demand_of door (parts_of h) body)
    → AreCounted counted (parts_of h) (closes door (Asks h body)) bytes
