-- The hosts under which the page for browsers is served.
use Rattle.std.specs.Prelude.{ℕ, ◌||◌, Bool, List, ◌++◌, bytes_eq, codes, decimal, if◌then◌else◌, Option, Some}
use Rattle.commands.specs.declared.replies.Refusal.{Refusal}
use Rattle.commands.specs.declared.replies.Refusal.TheVariants.{BadHead}
use Rattle.http_messages.specs.Heads.{Parts, complaint_of, host_of}
use Rattle.desk_http.specs.declared.doors.Door.{Door}
use Rattle.desk_http.specs.declared.doors.Door.TheVariants.{Port, House, Page}

-- a name of this machine with a port
abbrev pub host_text : List ℕ → ℕ → List ℕ
host_text name port = name ++ (codes ":" ++ decimal port)

-- the host is this machine, by one of its three names, with this port
abbrev pub is_own_host : ℕ → List ℕ → Bool
is_own_host port host =
    bytes_eq host (host_text (codes "127.0.0.1") port)
    || bytes_eq host (host_text (codes "localhost") port)
    || bytes_eq host (host_text (codes "[::1]") port)

-- what the head of a request that came in at a door is refused for: at the door with a page, first for another host
abbrev pub refusal_at : Door → Parts → Option Refusal
refusal_at Port parts = complaint_of parts
refusal_at House parts = complaint_of parts
refusal_at (Page site) parts =
    if is_own_host site.port (host_of parts) then complaint_of parts else Some BadHead
