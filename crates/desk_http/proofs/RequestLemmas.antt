-- What a request can demand at a door: a command, which keeps the limits and is that of its request; what the house alone is shown,
-- where the house asks; or what anybody may be shown. For the laws over all messages, and for executions.
use Rattle.std.proofs.Common.{◌≡◌, refl, subst, ℕ, List, [], ◌∷◌, ◌++◌, Bool, true, false, if◌then◌else◌, Option, Some, None, Result, Ok, Err, IsTrue, codes}
use Rattle.std.specs.Prelude.{⊤}
use Rattle.httparse.specs.Grammar.{RequestHead}
use Rattle.allotment.specs.Texts.{line_feed}
use Rattle.allotment_csv.proofs.LimitLemmas.{batch_keeps_limits}
use Rattle.allotment_csv.specs.Files.{batch_of}
use Rattle.allotment_csv.specs.declared.faults.CsvFault.{CsvFault}
use Rattle.allotment_csv.specs.declared.faults.CsvFault.TheVariants as csv
use Rattle.commands.specs.Asks.{Asked}
use Rattle.commands.specs.BatchData.{Batched}
use Rattle.commands.specs.Request as asks
use Rattle.commands.specs.Request.{Request}
use Rattle.commands.specs.declared.replies.Refusal.{Refusal}
use Rattle.commands.specs.declared.replies.Refusal.TheVariants.{WrongMethod}
use Rattle.http_messages.specs.Heads.{Parts, agent_of, is_method, is_unnamed, key_of, parts_of}
use Rattle.http_messages.specs.Messages.{Asks}
use Rattle.http_pages.specs.declared.routes.Denied.{Denied}
use Rattle.http_pages.specs.declared.routes.Route.{Route}
use Rattle.http_pages.specs.declared.routes.Route.TheVariants.{LoadBatch, Begin, Step, Abort, Save, ShowHealth}
use Rattle.http_pages.specs.declared.routes.Verb.TheVariants.{Get}
use Rattle.ledger.specs.Answer.{is_request}
use Rattle.plan.proofs.JsonKeptLemmas.{json_keeps_limits}
use Rattle.plan.specs.PlanJson.{plan_in_json}
use Rattle.plan.specs.PlanModel.{Planned}
use Rattle.plan.specs.declared.faults.BadPlan.{BadPlan}
use Rattle.report_words.specs.Targets.{asks_for_report, report_asked}
use Rattle.saga_core.specs.declared.report.Report.{Report}
use Rattle.serde_json.specs.Data.{Data}
use Rattle.desk_http.specs.Demands.{Carry, Demand, SeeMetrics, SeePage, SeeReport, admitted_by, admitted_of_house, agents_demand, asked_by, asked_by_nobody, asked_if, asked_of_house, asks_for_metrics, asks_for_page, asks_to_stop, bare, begin_by, begin_of, carried, carried_by, demand_of, demanded, denied_by, house_demand, load_of, page_demand, sender_of, value_in}
use Rattle.desk_http.specs.Hosts.{refusal_at}
use Rattle.desk_http.specs.Laws.{is_for_house}
use Rattle.desk_http.specs.Pages.{Command, command_in}
use Rattle.desk_http.specs.declared.doors.Asker.{Asker}
use Rattle.desk_http.specs.declared.doors.Asker.TheVariants as who
use Rattle.desk_http.specs.declared.doors.Door.{Door}
use Rattle.desk_http.specs.declared.doors.Door.TheVariants.{Port, House, Page}
use Rattle.desk_http.proofs.AgainLemmas.{carry_of}
use Rattle.desk_http.proofs.DemandLemmas.{house_if, report_if}

-- an ask is that of the agent whom its request names, and its text is the target, a line feed and the body; without an ask the
-- request names nobody
abbrev pub IsAskOf : Parts → List ℕ → Option Asked → Type 0
IsAskOf parts body None = is_unnamed parts ≡ true
IsAskOf parts body (Some ask) = (agent_of parts ≡ Some ask.agent) × (ask.text ≡ parts.target ++ line_feed ∷ body)

-- a command keeps the limits, and its ask is that of its request
pub record IsCommandOf (parts : Parts) (body : List ℕ) (asked : Request) (ask : Option Asked) : Type 0 where
  pub limits : IsTrue (is_request asked)
  pub asks : IsAskOf parts body ask

-- the request is the house's
abbrev IsTheHouses : Door → Parts → Type 0
IsTheHouses door parts = (door ≡ House) × (is_unnamed parts ≡ true)

-- a request with these parts and this body may demand this at a door
abbrev MayDemand : Door → Parts → List ℕ → Result Demand Denied → Type 0
MayDemand door parts body (Ok (Carry asked ask)) = IsCommandOf parts body asked ask
MayDemand door parts body (Ok SeeMetrics) = IsTheHouses door parts
MayDemand door parts body (Ok (SeeReport report)) = IsTheHouses door parts
MayDemand door parts body _ = ⊤

-- Limits.

-- what a body asks for keeps the limits
abbrev IsWithin : Result Request Refusal → Type 0
IsWithin (Ok asked) = IsTrue (is_request asked)
IsWithin (Err why) = ⊤

load_within : (name bytes : List ℕ) (r : Result Batched CsvFault) → batch_of name bytes ≡ r → IsWithin (load_of r)
load_within name bytes (Ok b) is = batch_keeps_limits name bytes b is
load_within name bytes (Err (csv.BadCsv row cause)) is = tt
load_within name bytes (Err _) is = tt

begin_within : (d : Data) (r : Result Planned BadPlan) → plan_in_json d ≡ r → IsWithin (begin_of r)
begin_within d (Ok p) is = json_keeps_limits d p is
begin_within d (Err fault) is = tt

value_within : (o : Option Data) → IsWithin (begin_by o)
value_within (Some d) = begin_within d (plan_in_json d) refl
value_within None = tt

bare_within : (body : List ℕ) (made : Request) → IsTrue (is_request made) → IsWithin (bare body made)
bare_within [] made good = good
bare_within (byte ∷ body) made good = tt

-- Demands.

-- what holds of both sides of a test holds of its outcome
by_test : (So : Result Demand Denied → Type 0) (b : Bool) (one other : Result Demand Denied) → (b ≡ true → So one) → So other
    → So (if b then one else other)
by_test So true one other first second = first refl
by_test So false one other first second = second

module _ (door : Door) (parts : Parts) (body : List ℕ) where
  -- who asks by the request
  abbrev IsAsker : Asker → Type 0
  IsAsker (who.Agent agent) = agent_of parts ≡ Some agent
  IsAsker who.House = is_unnamed parts ≡ true

  carried_may : (asker : Asker) → IsAsker asker → (r : Result Request Refusal) → IsWithin r
      → MayDemand door parts body (denied_by (carried (sender_of asker parts body) r))
  carried_may asker is (Err why) within = tt
  carried_may asker is (Ok asked) within = by_key asker (key_of parts) is
    where
      by_key : (a : Asker) (key : Option (List ℕ)) → IsAsker a
          → MayDemand door parts body (denied_by (carried_by a key (sender_of asker parts body) asked))
      by_key (who.Agent agent) (Some key) is = record { limits = within; asks = (is, refl) }
      by_key (who.Agent agent) None is = tt
      by_key who.House key is = record { limits = within; asks = is }

  -- on each route
  demanded_may : (asker : Asker) → IsAsker asker → (route : Route)
      → MayDemand door parts body (denied_by (demanded route (sender_of asker parts body)))
  demanded_may asker is (LoadBatch name) = carried_may asker is (load_of (batch_of name body)) (load_within name body (batch_of name body) refl)
  demanded_may asker is Begin = carried_may asker is (begin_by (value_in body)) (value_within (value_in body))
  demanded_may asker is (Step id) = carried_may asker is (bare body (asks.Step id)) (bare_within body (asks.Step id) refl)
  demanded_may asker is (Abort id position) = carried_may asker is (bare body (asks.Abort id position)) (bare_within body (asks.Abort id position) refl)
  demanded_may asker is (Save id) = carried_may asker is (bare body (asks.Save id)) (bare_within body (asks.Save id) refl)
  demanded_may asker is _ = tt

  agents_may : MayDemand door parts body (agents_demand parts body)
  agents_may = by_route (admitted_by parts)
    where
      nobody : (route : Route) → MayDemand door parts body (asked_by_nobody route)
      nobody ShowHealth = tt
      nobody _ = tt

      by_agent : (o : Option (List ℕ)) → agent_of parts ≡ o → (route : Route) → MayDemand door parts body (asked_by o parts body route)
      by_agent (Some agent) is route = demanded_may (who.Agent agent) is route
      by_agent None is route = nobody route

      by_route : (r : Result Route Denied) → MayDemand door parts body (asked_if r parts body)
      by_route (Ok route) = by_agent (agent_of parts) refl route
      by_route (Err denied) = tt

-- a request of the house, by whether it asks to stop, for metrics or for a report
houses_may : (parts : Parts) (body : List ℕ) (stops metrics reports : Bool) → is_unnamed parts ≡ true
    → MayDemand House parts body (house_if stops metrics reports parts body)
houses_may parts body true metrics reports unnamed = tt
houses_may parts body false true reports unnamed = (refl, unnamed)
houses_may parts body false false true unnamed = by_get (is_method (codes "GET") parts) (report_asked parts.target)
  where
    by_get : (gets : Bool) (found : Option Report) → MayDemand House parts body (report_if gets found)
    by_get true (Some report) = (refl, unnamed)
    by_get true None = tt
    by_get false found = tt
houses_may parts body false false false unnamed = by_route (admitted_of_house parts)
  where
    by_route : (r : Result Route Denied) → MayDemand House parts body (asked_of_house r parts body)
    by_route (Ok route) = demanded_may House parts body who.House unnamed route
    by_route (Err denied) = tt

-- at each door
may_demand : (door : Door) (parts : Parts) (body : List ℕ) → MayDemand door parts body (demand_of door parts body)
may_demand Port parts body = agents_may Port parts body
may_demand House parts body =
    by_test (MayDemand House parts body) (is_unnamed parts) (house_demand parts body) (agents_demand parts body)
    (houses_may parts body (asks_to_stop parts) (asks_for_metrics parts) (asks_for_report parts.target)) (agents_may House parts body)
may_demand (Page site) parts body =
    by_test (MayDemand (Page site) parts body) (asks_for_page parts) (page_demand site.page parts) (agents_demand parts body)
    (λ _. by_test (MayDemand (Page site) parts body) (is_method (codes "GET") parts) (Ok (SeePage site.page))
    (Err (record { refusal = WrongMethod; allow = Some Get })) (λ _. tt) tt) (agents_may (Page site) parts body)

-- For each message.

-- a command that a message makes is that of its request
pub command_of : (door : Door) (h : RequestHead) (body : List ℕ) (c : Command) → command_in door (Asks h body) ≡ Some c
    → IsCommandOf (parts_of h) body c.0 c.1
command_of door h body c makes =
    let parts = parts_of h in
    subst (MayDemand door parts body) (carry_of (refusal_at door parts) (demand_of door parts body) c makes).1
    (may_demand door parts body)

-- what the house alone is shown is asked for at its own door, by a request that names nobody
pub reports_for_house : (door : Door) (parts : Parts) (body : List ℕ) → is_for_house (demand_of door parts body) ≡ true
    → (door ≡ House) × (is_unnamed parts ≡ true)
reports_for_house door parts body = by_demand (demand_of door parts body) (may_demand door parts body)
  where
    by_demand : (d : Result Demand Denied) → MayDemand door parts body d → is_for_house d ≡ true → IsTheHouses door parts
    by_demand (Ok SeeMetrics) is shown = is
    by_demand (Ok (SeeReport report)) is shown = is
    by_demand _ is shown = cc
