-- What accepting at a listener gives. For Listeners.
use Rattle.std.proofs.Common.{Bool, Result, Ok, Err, IfOk, subst, sym}
use Rattle.std.specs.declared.io.Error.{Error}
use Rattle.desk_http.specs.declared.doors.Door.{Door}
use Rattle.http_sockets.specs.Doors.{IsDoorOf}
use Rattle.http_sockets.specs.Waiting.{ComesTo, IsTaken}
use Rattle.http_sockets.specs.declared.listeners.Accepted.{Accepted}
use Rattle.http_sockets.specs.declared.listeners.Accepted.TheVariants.{Came, Lost, Nobody}
use Rattle.http_sockets.specs.declared.places.Socket.{Socket}

-- where each connection of a listener comes by this door, so does the one that was taken; by an error none was
pub comes_to : (door : Door) (gave : Result Socket Error) (accepted : Accepted) (waits : Bool)
    → IfOk gave (λ socket. IsDoorOf socket door) → IsTaken gave accepted waits → ComesTo door accepted waits
comes_to door (Ok socket) accepted waits at taken = subst (λ it. ComesTo door it waits) (sym taken.0) (at, taken.1)
comes_to door (Err error) (Came socket) waits at taken = absurd taken.0.none
comes_to door (Err error) Lost waits at taken = tt
comes_to door (Err error) Nobody waits at taken = tt
