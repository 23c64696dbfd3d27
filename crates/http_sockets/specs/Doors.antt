-- By which door the messages of a socket come in, in which mode they are read, and where their pages go.
use Rattle.std.specs.Prelude.{◌≡◌, ◌≢◌, ⊤, Option, Some, None}
use Rattle.desk_http.specs.declared.doors.Door.{Door}
use Rattle.desk_http.specs.declared.doors.Door.TheVariants.{House}
use Rattle.desk_http.specs.declared.doors.Door.TheVariants as doors
use Rattle.desk_http.specs.declared.doors.Site.{Site}
use Rattle.http_conversations.specs.declared.modes.Mode.{Mode}
use Rattle.http_live.specs.Doors.{ComesByItsDoor, ComesInItsMode, ComesWithBoth, EndsOnlyIf}
use Rattle.http_live.specs.declared.serving.Turn.{Turn}
use Rattle.http_live.specs.declared.serving.Turn.TheVariants.{Comes}
use Rattle.http_sockets.specs.declared.places.ReadEnd.{ReadEnd}
use Rattle.http_sockets.specs.declared.places.WriteEnd.{WriteEnd}
use Rattle.http_sockets.specs.declared.places.Socket.{Socket}
use Rattle.http_sockets.specs.declared.places.Socket.TheVariants.{Port, Path}

-- those at the path come in at the door of the house, and none at the port does
abbrev pub IsDoorOf : Socket → Door → Type 0
IsDoorOf (Path stream) door = door ≡ House
IsDoorOf (Port stream) door = door ≢ House

-- so do those that the end of a socket gives
abbrev pub IsAt : ReadEnd → Door → Type 0
IsAt end door = IsDoorOf end.0.value door

-- both ends are of one socket
abbrev pub IsPair : ReadEnd → WriteEnd → Type 0
IsPair reader writer = writer.0.value ≡ reader.0.value

-- the door of a socket, where this page is served at the port, if one is
abbrev pub door_of : Socket → Option Site → Door
door_of (Path stream) page = House
door_of (Port stream) (Some site) = doors.Page site
door_of (Port stream) None = doors.Port

-- what the end of a socket gives is read in its mode
abbrev pub IsReadBy : ReadEnd → Mode → Type 0
IsReadBy end mode = end.1 ≡ mode

-- a peer has this socket and its door, where this page is served at the port, and is read in this mode
pub record IsPeerOf (socket : Socket) (site : Option Site) (by : Mode) (door : Door) (mode : Mode) (reader : ReadEnd) : Type 0 where
  pub same : reader.0.value ≡ socket
  pub page : door ≡ door_of socket site
  pub now : mode ≡ by

-- so has who comes in this turn, if anybody does
abbrev pub ComesOver : {W : Type 0} → Socket → Option Site → Mode → Turn ReadEnd W → Type 0
ComesOver socket page by (Comes at door mode reader writer) = IsPeerOf socket page by door mode reader
ComesOver socket page by _ = ⊤

-- a turn: who comes in it, if anybody does, comes by the door and in the mode of its socket, and has both ends of it
pub record IsTurn (turn : Turn ReadEnd WriteEnd) : Type 0 where
  pub door : ComesByItsDoor IsAt turn
  pub mode : ComesInItsMode IsReadBy turn
  pub pair : ComesWithBoth IsPair turn
  pub some : EndsOnlyIf ⊥ turn
