-- The demand of a request, or the first thing that is wrong with the request.
use Rattle.std.specs.Prelude.{ℕ, ◌&&◌, Bool, true, List, [], ◌∷◌, ◌++◌, codes, bytes_eq, if◌then◌else◌, Option, Some, None, is_some, Result, Ok, Err}
use Rattle.std.specs.Str.{is_utf8}
use Rattle.serde_json.specs.Data.{Data}
use Rattle.serde_json.specs.Read.{read}
use Rattle.allotment.specs.Texts.{line_feed}
use Rattle.plan.specs.PlanModel.{Planned}
use Rattle.plan.specs.PlanJson.{plan_in_json}
use Rattle.plan.specs.declared.faults.BadPlan.{BadPlan}
use Rattle.commands.specs.Asks.{Asked}
use Rattle.commands.specs.BatchData.{Batched}
use Rattle.commands.specs.Request as asks
use Rattle.commands.specs.Request.{Request}
use Rattle.commands.specs.declared.replies.Refusal.{Refusal}
use Rattle.commands.specs.declared.replies.Refusal.TheVariants as refusal
use Rattle.allotment_csv.specs.Files.{batch_of}
use Rattle.allotment_csv.specs.declared.faults.CsvFault.{CsvFault}
use Rattle.allotment_csv.specs.declared.faults.CsvFault.TheVariants as csv
use Rattle.saga_core.specs.declared.cell_filters.CellFilter.{CellFilter}
use Rattle.http_messages.specs.Heads.{Parts, agent_of, is_method, is_unnamed, key_of}
use Rattle.http_pages.specs.Admitting.{admitted, plain}
use Rattle.http_pages.specs.Routes.{route_of}
use Rattle.http_pages.specs.declared.routes.Denied.{Denied}
use Rattle.http_pages.specs.declared.answers.HtmlPage.{HtmlPage}
use Rattle.http_pages.specs.declared.routes.Route.{Route}
use Rattle.http_pages.specs.declared.routes.Route.TheVariants.{LoadBatch, Begin, Step, Abort, Save, ShowJourney, ShowPlan, ShowWhy, ShowBegun, ShowUnfinished, ShowStock, ShowCells, ShowMine, ShowHealth, ShowAgent}
use Rattle.http_pages.specs.declared.routes.Verb.TheVariants.{Get}
use Rattle.saga_core.specs.declared.report.Report.{Report}
use Rattle.report_words.specs.Targets.{asks_for_report, report_asked}
use Rattle.desk_http.specs.declared.doors.Asker.{Asker}
use Rattle.desk_http.specs.declared.doors.Asker.TheVariants as who
use Rattle.desk_http.specs.declared.doors.Door.{Door}
use Rattle.desk_http.specs.declared.doors.Door.TheVariants as doors

-- What a body says.

-- a batch is loaded, and a bad file is refused
abbrev pub load_of : Result Batched CsvFault → Result Request Refusal
load_of (Ok batch) = Ok (asks.Load batch.name batch.rows)
load_of (Err (csv.BadCsv row cause)) = Err (refusal.BadCsv row cause)
load_of (Err _) = Err refusal.BadBody

-- a plan is begun, and a bad one is refused
abbrev pub begin_of : Result Planned BadPlan → Result Request Refusal
begin_of (Ok plan) = Ok (asks.Begin plan)
begin_of (Err fault) = Err (refusal.BadPlan fault)

-- the JSON value of a body, if it is UTF-8 and JSON
abbrev pub value_in : List ℕ → Option Data
value_in body = if is_utf8 body then read body else None

-- the plan of a value is begun; without a value the body is malformed
abbrev pub begin_by : Option Data → Result Request Refusal
begin_by (Some value) = begin_of (plan_in_json value)
begin_by None = Err refusal.BadBody

-- the request, if the body is empty, or the refusal of a malformed body
abbrev pub bare : List ℕ → Request → Result Request Refusal
bare [] asked = Ok asked
bare (byte ∷ later) asked = Err refusal.BadBody

-- The demand of a request.

-- a command to execute, of an agent under a key or of the house; a view for whoever asks, or for anybody; a report; or
-- that the desk stops
pub data Demand : Type 0 where
  Carry : (asked : Request) (ask : Option Asked) → Demand
  SeeJourney : (asker : Asker) (id : ℕ) → Demand
  SeePlan : (asker : Asker) (id : ℕ) → Demand
  SeeWhy : (asker : Asker) (id : ℕ) → Demand
  SeeBegun : (asker : Asker) (key : List ℕ) → Demand
  SeeUnfinished : (asker : Asker) → Demand
  SeeMine : (asker : Asker) (after : ℕ) → Demand
  SeeStock : Demand
  SeeCells : (filter : CellFilter) → Demand
  SeeHealth : Demand
  SeeMetrics : Demand
  SeeAgent : (asker : Asker) → Demand
  SeePage : (page : HtmlPage) → Demand
  SeeReport : (report : Report) → Demand
  Stop : Demand

-- who sends a request, its key, its target and its body
pub record Sender : Type 0 where
  pub asker : Asker
  pub key : Option (List ℕ)
  pub target : List ℕ
  pub body : List ℕ

-- the text under which a reply is kept: the target, a line feed and the body
abbrev pub text_of : Sender → List ℕ
text_of sender = sender.target ++ line_feed ∷ sender.body

-- an agent's command is executed under the sender's key, and refused without a key; the house's needs none
abbrev pub carried_by : Asker → Option (List ℕ) → Sender → Request → Result Demand Refusal
carried_by (who.Agent agent) (Some key) sender asked =
    Ok (Carry asked (Some (record { agent = agent; key = key; text = text_of sender })))
carried_by (who.Agent agent) None sender asked = Err refusal.NoKey
carried_by who.House key sender asked = Ok (Carry asked None)

-- the command that a body makes, of its sender
abbrev pub carried : Sender → Result Request Refusal → Result Demand Refusal
carried sender (Ok asked) = carried_by sender.asker sender.key sender asked
carried sender (Err why) = Err why

-- the demand of a sender on a route
abbrev pub demanded : Route → Sender → Result Demand Refusal
demanded (LoadBatch name) sender = carried sender (load_of (batch_of name sender.body))
demanded Begin sender = carried sender (begin_by (value_in sender.body))
demanded (Step id) sender = carried sender (bare sender.body (asks.Step id))
demanded (Abort id position) sender = carried sender (bare sender.body (asks.Abort id position))
demanded (Save id) sender = carried sender (bare sender.body (asks.Save id))
demanded (ShowJourney id) sender = Ok (SeeJourney sender.asker id)
demanded (ShowPlan id) sender = Ok (SeePlan sender.asker id)
demanded (ShowWhy id) sender = Ok (SeeWhy sender.asker id)
demanded (ShowBegun key) sender = Ok (SeeBegun sender.asker key)
demanded ShowUnfinished sender = Ok (SeeUnfinished sender.asker)
demanded ShowStock sender = Ok SeeStock
demanded (ShowCells filter) sender = Ok (SeeCells filter)
demanded (ShowMine after) sender = Ok (SeeMine sender.asker after)
demanded ShowHealth sender = Ok SeeHealth
demanded ShowAgent sender = Ok (SeeAgent sender.asker)

-- a refusal that does not depend on the method
abbrev pub denied_by : {X : Type 0} → Result X Refusal → Result X Denied
denied_by (Ok x) = Ok x
denied_by (Err why) = Err (plain why)

-- who sends a request with these parts and this body
abbrev pub sender_of : Asker → Parts → List ℕ → Sender
sender_of asker parts body =
    record { asker = asker; key = key_of parts; target = parts.target; body = body }

-- At the port.

-- without an agent a request is refused, unless it is for how many events and journeys there are
abbrev pub asked_by_nobody : Route → Result Demand Denied
asked_by_nobody ShowHealth = Ok SeeHealth
asked_by_nobody _ = Err (plain refusal.NoAgent)

-- the demand of an agent on a route, or of a request without one
abbrev pub asked_by : Option (List ℕ) → Parts → List ℕ → Route → Result Demand Denied
asked_by (Some agent) parts body route =
    denied_by (demanded route (sender_of (who.Agent agent) parts body))
asked_by None parts body route = asked_by_nobody route

-- the demand of a request whose head was admitted
abbrev pub asked_if : Result Route Denied → Parts → List ℕ → Result Demand Denied
asked_if (Ok route) parts body = asked_by (agent_of parts) parts body route
asked_if (Err denied) parts body = Err denied

-- the route of a head, or the first thing that is wrong with it: path, method, agent, key, parts of the path
abbrev pub admitted_by : Parts → Result Route Denied
admitted_by parts =
    admitted (route_of parts.method parts.target) (is_some (agent_of parts)) (is_some (key_of parts))
    (is_method (codes "POST") parts)

-- the demand of an agent's request, or the first thing that is wrong with it
abbrev pub agents_demand : Parts → List ℕ → Result Demand Denied
agents_demand parts body = asked_if (admitted_by parts) parts body

-- At the administrator's socket.

-- it asks the desk to stop
abbrev pub asks_to_stop : Parts → Bool
asks_to_stop parts = is_method (codes "POST") parts && bytes_eq parts.target (codes "/stop")

-- it asks for what a monitor reads
abbrev pub asks_for_metrics : Parts → Bool
asks_for_metrics parts = is_method (codes "GET") parts && bytes_eq parts.target (codes "/metrics")

-- the demand of the house on a route that was admitted
abbrev pub asked_of_house : Result Route Denied → Parts → List ℕ → Result Demand Denied
asked_of_house (Ok route) parts body = denied_by (demanded route (sender_of who.House parts body))
asked_of_house (Err denied) parts body = Err denied

-- the route of a request of the house, or the first thing that is wrong with it: path, method, parts of the path
abbrev pub admitted_of_house : Parts → Result Route Denied
admitted_of_house parts =
    admitted (route_of parts.method parts.target) true true (is_method (codes "POST") parts)

-- the report that is asked for; words that ask for none are malformed
abbrev pub asked_report : Option Report → Result Demand Denied
asked_report (Some report) = Ok (SeeReport report)
asked_report None = Err (plain refusal.BadBody)

-- the demand of a request for a report, which has the method GET
abbrev pub report_demand : Parts → Result Demand Denied
report_demand parts =
    if is_method (codes "GET") parts then asked_report (report_asked parts.target)
    else Err (record { refusal = refusal.WrongMethod; allow = Some Get })

-- the demand of a request of the house, or the first thing that is wrong with it
abbrev pub house_demand : Parts → List ℕ → Result Demand Denied
house_demand parts body =
    if asks_to_stop parts then Ok Stop
    else if asks_for_metrics parts then Ok SeeMetrics
    else if asks_for_report parts.target then report_demand parts
    else asked_of_house (admitted_of_house parts) parts body

-- At the door with a page.

-- its target is that of the page for browsers
abbrev pub asks_for_page : Parts → Bool
asks_for_page parts = bytes_eq parts.target (codes "/")

-- the page for browsers, which has the method GET and is for anybody
abbrev pub page_demand : HtmlPage → Parts → Result Demand Denied
page_demand page parts =
    if is_method (codes "GET") parts then Ok (SeePage page)
    else Err (record { refusal = refusal.WrongMethod; allow = Some Get })

-- the demand of a request at a door: at the house's, one that names nobody is the house's; at that with a page, one for
-- the page gets it
abbrev pub demand_of : Door → Parts → List ℕ → Result Demand Denied
demand_of doors.Port parts body = agents_demand parts body
demand_of doors.House parts body =
    if is_unnamed parts then house_demand parts body else agents_demand parts body
demand_of (doors.Page site) parts body =
    if asks_for_page parts then page_demand site.page parts else agents_demand parts body
