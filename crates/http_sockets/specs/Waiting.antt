-- Where somebody may wait, and who is accepted.
use Rattle.std.specs.Prelude.{◌≡◌, ◌↔◌, ⊤, ◌==◌, ◌||◌, ℕ, Bool, true, false, if◌then◌else◌, Option, Some, None, Result, Ok, Err, IsTrue, is_some, option_map, unwrap_or}
use Rattle.std.specs.declared.io.Error.{Error}
use Rattle.desk_http.specs.declared.doors.Door.{Door}
use Rattle.desk_http.specs.declared.doors.Door.TheVariants.{House, Port}
use Rattle.http_sockets.specs.Doors.{IsDoorOf}
use Rattle.http_sockets.specs.Listening.{IsForLater, IsOfOne}
use Rattle.http_sockets.specs.declared.listeners.Accepted.{Accepted}
use Rattle.http_sockets.specs.declared.listeners.Accepted.TheVariants.{Came, Lost, Nobody}
use Rattle.http_sockets.specs.declared.listeners.Listeners.{Listeners}
use Rattle.http_sockets.specs.declared.listeners.TheConstants.{PORT}
use Rattle.http_sockets.specs.declared.places.Socket.{Socket}

-- whether somebody may wait at the port, and at the path, if that is listened on
pub record Waiting : Type 0 where
  pub at_port : Bool
  pub at_path : Option Bool

abbrev pub waiting_at : Listeners → Waiting
waiting_at listeners = record {
  at_port = listeners.port.may_wait;
  at_path = option_map (λ house. house.listener.may_wait) listeners.house;
}

-- nobody is known to wait; a path is listened on, or is not
abbrev pub none_heard : (has_path : Bool) → Waiting
none_heard has_path = record { at_port = false; at_path = if has_path then Some false else None }

-- somebody may wait at the listener of a token: at the port by its own, else at the path
abbrev pub heard : (token : ℕ) → Waiting → Waiting
heard token waiting =
    if token == PORT then record waiting { at_port = true }
    else record waiting { at_path = option_map (λ _. true) waiting.at_path }

-- somebody may wait at each listener
abbrev pub all_heard : Waiting → Waiting
all_heard waiting = record { at_port = true; at_path = option_map (λ _. true) waiting.at_path }

abbrev pub may_wait_at_path : Waiting → Bool
may_wait_at_path waiting = unwrap_or waiting.at_path false

-- somebody may wait at one of them
abbrev pub may_wait : Waiting → Bool
may_wait waiting = waiting.at_port || may_wait_at_path waiting

-- no connection was taken
abbrev pub IsNoSocket : Accepted → Type 0
IsNoSocket (Came socket) = ⊥
IsNoSocket _ = ⊤

-- what an error of accepting comes to: that nobody is there now, or that who waited is lost
pub record IsEndedBy (error : Error) (accepted : Accepted) : Type 0 where
  pub none : IsNoSocket accepted
  pub later : IsForLater error → accepted ≡ Nobody
  pub lost : (IsForLater error → ⊥) → accepted ≡ Lost

-- what accepting gave at a listener: after a connection one more may wait, and after an error that one of them alone met
abbrev pub IsTaken : Result Socket Error → Accepted → (may_wait : Bool) → Type 0
IsTaken (Ok socket) accepted may_wait = (accepted ≡ Came socket) × (may_wait ≡ true)
IsTaken (Err error) accepted may_wait = IsEndedBy error accepted × (IsTrue may_wait ↔ IsOfOne error)

-- who comes, if anybody does, comes by this door, and one more may wait there
abbrev pub ComesTo : Door → Accepted → (may_wait : Bool) → Type 0
ComesTo door (Came socket) may_wait = IsDoorOf socket door × (may_wait ≡ true)
ComesTo door _ may_wait = ⊤

-- who is accepted, where somebody may wait at the path, or else at the port, or nowhere, and what changes
abbrev pub AcceptsAt : (at_path at_port : Bool) → Waiting → Waiting → Accepted → Type 0
AcceptsAt true at_port old new accepted = (new.at_port ≡ old.at_port) × (is_some new.at_path ≡ true)
    × ComesTo House accepted (may_wait_at_path new)
AcceptsAt false true old new accepted = (new.at_path ≡ old.at_path) × ComesTo Port accepted new.at_port
AcceptsAt false false old new accepted = (accepted ≡ Nobody) × (new ≡ old)

-- Who is accepted comes to the path where somebody may wait there, else to the port. Nothing changes at the other one.
abbrev pub Accepts : Waiting → Waiting → Accepted → Type 0
Accepts old new accepted = AcceptsAt (may_wait_at_path old) old.at_port old new accepted
