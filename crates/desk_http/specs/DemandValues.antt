-- What values of the program mean as demands.
use Rattle.std.specs.Prelude.{◌≡◌, ⊤, Option, option_map, Result, Ok, Err}
use Rattle.serde_json.specs.Data.{Data}
use Rattle.serde_json.specs.View.{view}
use Rattle.serde_json.specs.declared.value.Value.{Value}
use Rattle.commands.specs.Orders.{request_of}
use Rattle.commands.specs.Request.{Request}
use Rattle.commands.specs.declared.asks.Command.{Command}
use Rattle.commands.specs.declared.replies.Refusal.{Refusal}
use Rattle.http_pages.specs.declared.routes.Denied.{Denied}
use Rattle.desk_http.specs.Demands as sent
pub use Rattle.desk_http.specs.Demands.{denied_by}
use Rattle.desk_http.specs.declared.demands.Demand.{Demand}
use Rattle.desk_http.specs.declared.demands.Demand.TheVariants.{Carry, SeeJourney, SeePlan, SeeWhy, SeeBegun, SeeUnfinished, SeeMine, SeeStock, SeeCells, SeeHealth, SeeMetrics, SeeAgent, SeePage, SeeReport, Stop}
use Rattle.desk_http.specs.declared.demands.Unmet.{Unmet}
use Rattle.desk_http.specs.declared.demands.Unmet.TheVariants.{Refused, Memory}
use Rattle.desk_http.specs.declared.demands.Sender.{Sender}

-- the value that was found is this one
abbrev pub ReadsAs : Option Data → Option Value → Type 0
ReadsAs value found = option_map view found ≡ value

-- the sender of a request, with its target and body
abbrev pub sender_said : Sender → sent.Sender
sender_said sender = record {
  asker = sender.asker;
  key = sender.key;
  target = sender.target.now;
  body = sender.body.now;
}

-- the demand that a value represents
abbrev pub demand_said : Demand → sent.Demand
demand_said (Carry command ask) = sent.Carry (request_of command) ask
demand_said (SeeJourney asker id) = sent.SeeJourney asker id
demand_said (SeePlan asker id) = sent.SeePlan asker id
demand_said (SeeWhy asker id) = sent.SeeWhy asker id
demand_said (SeeBegun asker key) = sent.SeeBegun asker key
demand_said (SeeUnfinished asker) = sent.SeeUnfinished asker
demand_said (SeeMine asker after) = sent.SeeMine asker after
demand_said SeeStock = sent.SeeStock
demand_said (SeeCells filter) = sent.SeeCells filter
demand_said SeeHealth = sent.SeeHealth
demand_said SeeMetrics = sent.SeeMetrics
demand_said (SeeAgent asker) = sent.SeeAgent asker
demand_said (SeePage page) = sent.SeePage page
demand_said (SeeReport report) = sent.SeeReport report
demand_said Stop = sent.Stop

-- the value is the command of this request, or the refusal of it, or out of memory
abbrev pub AsksFor : Result Request Refusal → Result Command Unmet → Type 0
AsksFor said (Ok command) = said ≡ Ok (request_of command)
AsksFor said (Err (Refused denied)) = denied_by said ≡ Err denied
AsksFor said (Err Memory) = ⊤

-- the value is this demand, or its denial, or out of memory
abbrev pub Demands : Result sent.Demand Denied → Result Demand Unmet → Type 0
Demands said (Ok demand) = said ≡ Ok (demand_said demand)
Demands said (Err (Refused denied)) = said ≡ Err denied
Demands said (Err Memory) = ⊤
