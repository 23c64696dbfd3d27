-- The page of a message, and the state of the desk after it.
use Rattle.std.specs.Prelude.{◌≡◌, ℕ, ◌&&◌, ◌||◌, not, Bool, true, false, List, [], ◌∷◌, filter, take, bytes_eq, codes, if◌then◌else◌, Option, Some, None, is_some, option_and_then, Result, Ok, Err}
use Rattle.allotment.specs.declared.cells.Cell.{Cell}
use Rattle.allotment.specs.declared.places.Held.{Held}
use Rattle.commands.specs.Asks.{Asked}
use Rattle.commands.specs.Names.{house}
use Rattle.commands.specs.Request.{Request}
use Rattle.commands.specs.declared.replies.Refusal.{Refusal}
use Rattle.commands.specs.declared.replies.Refusal.TheVariants.{BadHead, NoJourney}
use Rattle.commands.specs.declared.replies.Reply.{Reply}
use Rattle.commands.specs.declared.replies.Reply.TheVariants.{Begun}
use Rattle.ledger.specs.Answer.{State, outcome}
use Rattle.ledger.specs.Ledger.{Event, history}
use Rattle.saga_core.specs.declared.cell_filters.CellFilter.{CellFilter}
use Rattle.saga_core.specs.Views.{IsStock, brief_of, counts_of, kept_under, owned_above, record_of, unfinished_of}
use Rattle.saga_core.specs.declared.records.Brief.{Brief}
use Rattle.saga_core.specs.declared.records.Record.{Record}
use Rattle.http_messages.specs.Heads.{Parts, asks_to_close, is_method, is_unnamed, parts_of}
use Rattle.http_messages.specs.Messages.{Message, NoHead, Asks}
use Rattle.http_pages.specs.Bodies.{agent_data, brief_data, health_data, journey_data, mine_data, stopping_data, unfinished_data}
use Rattle.http_pages.specs.declared.bodies.Owners.{Owners}
use Rattle.http_pages.specs.declared.bodies.Owners.TheVariants.{Hidden, Shown}
use Rattle.serde_json.specs.Data.{Data}
use Rattle.plan.specs.PlanData.{plan_data}
use Rattle.http_pages.specs.Pages.{Paged, browsed_page, denied_page, monitored_page, page_text, refused_page, reply_page, report_page, value_page}
use Rattle.http_pages.specs.declared.routes.Denied.{Denied}
use Rattle.http_log.specs.MetricsText.{metrics_text}
use Rattle.http_log.specs.declared.counting.Metrics.{Metrics}
use Rattle.previews.specs.Layouts.{why_data}
use Rattle.previews.specs.Previews.{begun_as, nights_ahead, preview_of}
use Rattle.report_kinds.specs.Texts.{OfReport, asked_cells}
use Rattle.reports.specs.Layouts.{stock_report}
use Rattle.desk_http.specs.Demands.{Demand, Carry, SeeJourney, SeePlan, SeeWhy, SeeBegun, SeeUnfinished, SeeMine, SeeStock, SeeCells, SeeHealth, SeeMetrics, SeeAgent, SeePage, SeeReport, Stop, asks_to_stop, demand_of}
use Rattle.desk_http.specs.Hosts.{refusal_at}
use Rattle.desk_http.specs.declared.doors.Asker.{Asker}
use Rattle.desk_http.specs.declared.doors.Asker.TheVariants as who
use Rattle.desk_http.specs.declared.doors.Door.{Door}
use Rattle.desk_http.specs.declared.doors.Door.TheVariants as doors

-- Views.

-- who asks sees the journeys of this agent: an agent its own, and the house those of all
abbrev pub sees : Asker → List ℕ → Bool
sees (who.Agent agent) owner = bytes_eq agent owner
sees who.House owner = true

-- the journey of this number, if who asks sees it
abbrev pub own_journey : List Event → Asker → ℕ → Option Record
own_journey l asker id =
    option_and_then (λ (r : Record). if sees asker r.agent then Some r else None) (record_of l id)

-- a journey with its history; one that is not seen looks the same as one that does not exist
abbrev pub journey_page : List Event → ℕ → Option Record → Paged
journey_page l id (Some r) = value_page (journey_data id r.cursor (history l id))
journey_page l id None = refused_page NoJourney

-- the plan of a journey; one that is not seen looks the same as one that does not exist
abbrev pub plan_page : Option Record → Paged
plan_page (Some r) = value_page (plan_data r.plan)
plan_page None = refused_page NoJourney

-- why a journey goes on or does not: its preview, with what is free of each night of its next want
abbrev pub why_shown : List Event → ℕ → Record → Data
why_shown l id r = let o = preview_of l id (begun_as r) in why_data o (nights_ahead l o.next)

-- the page of that; a journey that is not seen looks the same as one that does not exist
abbrev pub why_page : List Event → ℕ → Option Record → Paged
why_page l id (Some r) = value_page (why_shown l id r)
why_page l id None = refused_page NoJourney

-- the summaries of the unfinished journeys that who asks sees, by rising number
abbrev pub own_unfinished : List Event → Asker → List Brief
own_unfinished l asker = filter (λ (b : Brief). sees asker b.agent) (unfinished_of l)

-- whose journeys are who asks's own: the agent's, and for the house those of the agent `desk`
abbrev pub owner_of : Asker → List ℕ
owner_of (who.Agent agent) = agent
owner_of who.House = house

-- whether who asks is shown whose each journey is: the house is
abbrev pub owners_for : Asker → Owners
owners_for (who.Agent agent) = Hidden
owners_for who.House = Shown

-- the first hundred of the own journeys of who asks above a number, by rising number
abbrev pub mine_of : List Event → Asker → ℕ → List Brief
mine_of l asker after = take 100 (owned_above l (owner_of asker) after)

-- own journeys as they are shown: to the house each with its agent
abbrev pub mine_shown : Asker → List Brief → Data
mine_shown asker briefs = mine_data (owners_for asker) briefs

-- the journey that a reply says was begun
abbrev pub begun_in : Reply → Option ℕ
begun_in (Begun id) = Some id
begun_in _ = None

-- the summary of the journey of this number, if who asks sees it
abbrev pub own_brief : List Event → Asker → ℕ → Option Brief
own_brief l asker id =
    option_and_then (λ (b : Brief). if sees asker b.agent then Some b else None) (brief_of l id)

-- the summary of the journey that who asks began under this key, by the reply that is kept
abbrev pub own_begun : State → Asker → List ℕ → Option Brief
own_begun s asker key =
    option_and_then (own_brief s.ledger asker) (option_and_then begun_in (kept_under s (owner_of asker) key))

-- a journey as a list of own journeys shows it
abbrev pub brief_shown : Asker → Brief → Data
brief_shown asker brief = brief_data (owners_for asker) brief

-- the page of a journey that was begun under a key; a key under which none was begun gets that of no journey
abbrev pub begun_page : Asker → Option Brief → Paged
begun_page asker (Some brief) = value_page (brief_shown asker brief)
begun_page asker None = refused_page NoJourney

-- unfinished journeys as they are shown: to the house each with its agent
abbrev pub unfinished_shown : Asker → List Brief → Data
unfinished_shown asker briefs = unfinished_data (owners_for asker) briefs

-- the page shows the stock
pub record ShowsStock (l : List Event) (page : Paged) : Type 0 where
  pub rows : List (Cell × Held)
  pub are : IsStock l rows
  pub shown : page ≡ report_page (stock_report rows)

-- the page shows the cells of the stock that a filter lets through: the lines of these in the stock report
abbrev pub ShowsCells : CellFilter → List Event → Paged → Type 0
ShowsCells f l page =
    (stock : List (Cell × Held)) → IsStock l stock → page ≡ report_page (stock_report (asked_cells f stock))

-- the page of a report by its text; without one, that there is no such journey
abbrev pub told_page : Option (List ℕ) → Paged
told_page (Some text) = report_page text
told_page None = refused_page NoJourney

-- the page shows what the desk has, and what somebody counted
pub record ShowsMetrics (l : List Event) (page : Paged) : Type 0 where
  pub counted : Metrics
  pub shown : page ≡ monitored_page (metrics_text (counts_of l) counted)

-- Pages.

-- the page reports the outcome of a demand, or the denial
abbrev pub Says : State → Result Demand Denied → Paged → Type 0
Says s (Err denied) page = page ≡ denied_page denied.refusal denied.allow
Says s (Ok (Carry asked ask)) page = page ≡ reply_page (outcome s ask asked).reply
Says s (Ok (SeeJourney asker id)) page = page ≡ journey_page s.ledger id (own_journey s.ledger asker id)
Says s (Ok (SeePlan asker id)) page = page ≡ plan_page (own_journey s.ledger asker id)
Says s (Ok (SeeWhy asker id)) page = page ≡ why_page s.ledger id (own_journey s.ledger asker id)
Says s (Ok (SeeBegun asker key)) page = page ≡ begun_page asker (own_begun s asker key)
Says s (Ok (SeeUnfinished asker)) page =
    page ≡ value_page (unfinished_shown asker (own_unfinished s.ledger asker))
Says s (Ok (SeeMine asker after)) page =
    page ≡ value_page (mine_shown asker (mine_of s.ledger asker after))
Says s (Ok SeeStock) page = ShowsStock s.ledger page
Says s (Ok (SeeCells f)) page = ShowsCells f s.ledger page
Says s (Ok SeeHealth) page = page ≡ value_page (health_data (counts_of s.ledger))
Says s (Ok SeeMetrics) page = ShowsMetrics s.ledger page
Says s (Ok (SeeAgent asker)) page = page ≡ value_page (agent_data (owner_of asker))
Says s (Ok (SeePage html)) page = page ≡ browsed_page html.text.now html.policy.now
Says s (Ok (SeeReport report)) page = OfReport report s.ledger (λ text. page ≡ told_page text)
Says s (Ok Stop) page = page ≡ value_page stopping_data

-- a head that is refused gets that refusal, and any other head gets the outcome of its demand
abbrev pub SaysUnless : Option Refusal → Door → State → Parts → List ℕ → Paged → Type 0
SaysUnless (Some why) door s parts body page = page ≡ refused_page why
SaysUnless None door s parts body page = Says s (demand_of door parts body) page

-- the page closes: the connection ends after it
abbrev pub closes : Door → Message → Bool
closes door NoHead = true
closes door (Asks h body) = is_some (refusal_at door (parts_of h)) || asks_to_close (parts_of h)

-- the message is a request of the house that the desk stop
abbrev pub stops : Door → Message → Bool
stops doors.Port m = false
stops (doors.Page site) m = false
stops doors.House NoHead = false
stops doors.House (Asks h body) =
    is_unnamed (parts_of h) && asks_to_stop (parts_of h) && not (is_some (refusal_at doors.House (parts_of h)))

-- the page's bytes, by what it reports
pub record IsPageOf (door : Door) (s : State) (m : Message) (parts : Parts) (body bytes : List ℕ) : Type 0 where
  pub page : Paged
  pub says : SaysUnless (refusal_at door parts) door s parts body page
  pub text : bytes ≡ page_text (is_method (codes "HEAD") parts) (closes door m) page

-- these are the bytes of the page of a message that came in at a door
abbrev pub IsPage : Door → State → Message → List ℕ → Type 0
IsPage door s NoHead bytes = bytes ≡ page_text false true (refused_page BadHead)
IsPage door s (Asks h body) bytes = IsPageOf door s (Asks h body) (parts_of h) body bytes

-- The state of the desk after a page.

-- a command of an agent, with its ask, or of the house
abbrev pub Command : Type 0
Command = Request × Option Asked

-- the command of a demand, if it has one
abbrev pub command_by : Result Demand Denied → Option Command
command_by (Ok (Carry asked ask)) = Some (asked, ask)
command_by (Ok (SeeJourney asker id)) = None
command_by (Ok (SeePlan asker id)) = None
command_by (Ok (SeeWhy asker id)) = None
command_by (Ok (SeeBegun asker key)) = None
command_by (Ok (SeeUnfinished asker)) = None
command_by (Ok (SeeMine asker after)) = None
command_by (Ok SeeStock) = None
command_by (Ok (SeeCells f)) = None
command_by (Ok SeeHealth) = None
command_by (Ok SeeMetrics) = None
command_by (Ok (SeeAgent asker)) = None
command_by (Ok (SeePage html)) = None
command_by (Ok (SeeReport report)) = None
command_by (Ok Stop) = None
command_by (Err denied) = None

-- no command, if the head is refused
abbrev pub command_unless : Option Refusal → Result Demand Denied → Option Command
command_unless (Some why) demand = None
command_unless None demand = command_by demand

-- the command that a message makes at a door, if any
abbrev pub command_in : Door → Message → Option Command
command_in door NoHead = None
command_in door (Asks h body) =
    command_unless (refusal_at door (parts_of h)) (demand_of door (parts_of h) body)

-- a command is executed, and anything else changes nothing
abbrev pub state_by : State → Option Command → State
state_by s (Some command) = (outcome s command.1 command.0).state
state_by s None = s

-- the state of the desk after a message that came in at a door
abbrev pub state_after : Door → State → Message → State
state_after door s m = state_by s (command_in door m)

-- Messages at the port, in order.

-- these are the pages of these messages
abbrev pub ArePages : State → List Message → List (List ℕ) → Type 0
ArePages s [] pages = pages ≡ []
ArePages s (m ∷ later) [] = ⊥
ArePages s (m ∷ later) (page ∷ pages) = IsPage doors.Port s m page × ArePages (state_after doors.Port s m) later pages

-- the state of the desk after these messages
abbrev pub state_after_all : State → List Message → State
state_after_all s [] = s
state_after_all s (m ∷ later) = state_after_all (state_after doors.Port s m) later

-- none of these messages closes
abbrev pub stays_open : List Message → Bool
stays_open [] = true
stays_open (m ∷ later) = if closes doors.Port m then false else stays_open later
