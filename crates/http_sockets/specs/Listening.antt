-- Where the port is listened on, and what an error of a listener comes to.
use Rattle.std.specs.Prelude.{◌≡◌, ◌≢◌, ◌∷◌, ◌⊎◌, [], ℕ, ℤ, pos, Bool, true, false, Option, Some, Result, Ok, Err, IsErrAnd}
use Rattle.std.specs.Net.Addr.{ipv4_octets}
use Rattle.std.specs.Net.Socket.{socket_ip, socket_port}
use Rattle.std.specs.IoError.{error_kind, raw_os_error}
use Rattle.std.specs.declared.io.Error.{Error}
use Rattle.std.specs.declared.io.ErrorKind.TheVariants.{AlreadyExists, ConnectionAborted, Interrupted, NotFound, OutOfMemory, WouldBlock}
use Rattle.std.specs.declared.net.IpAddr.{IpAddr}
use Rattle.std.specs.declared.net.IpAddr.TheVariants.{V4, V6}
use Rattle.std.specs.declared.net.SocketAddr.{SocketAddr}

-- 127.0.0.1, at which only this machine comes
abbrev pub IsOfThisMachine : IpAddr → Type 0
IsOfThisMachine (V4 ip) = ipv4_octets ip ≡ 127 ∷ 0 ∷ 0 ∷ 1 ∷ []
IsOfThisMachine (V6 ip) = ⊥

-- this port of it
pub record IsPortHere (port : ℕ) (address : SocketAddr) : Type 0 where
  pub ip : IsOfThisMachine (socket_ip address)
  pub number : socket_port address ≡ port

-- the numbers of Linux for an error of a system that has no descriptor, or no room, for one more socket: ENFILE, EMFILE, ENOBUFS
abbrev pub IsOutOfRoom : Option ℤ → Type 0
IsOutOfRoom number = (number ≡ Some (pos 23)) ⊎ (number ≡ Some (pos 24)) ⊎ (number ≡ Some (pos 105))

-- whether a socket is to be replaced at a path, by whether one was found there: not where nothing stands there, and another file
-- is an error
abbrev pub IsReplaced : Result Bool Error → Result Bool Error → Type 0
IsReplaced (Ok true) replaced = replaced ≡ Ok true
IsReplaced (Ok false) replaced = IsErrAnd replaced (λ e. error_kind e ≡ AlreadyExists)
IsReplaced (Err e) replaced =
    (error_kind e ≡ NotFound → replaced ≡ Ok false) × (error_kind e ≢ NotFound → replaced ≡ Err e)

-- nobody waits now, or there is no memory or no room for one more
abbrev pub IsForLater : Error → Type 0
IsForLater e =
    (error_kind e ≡ WouldBlock) ⊎ (error_kind e ≡ Interrupted) ⊎ (error_kind e ≡ OutOfMemory) ⊎ IsOutOfRoom (raw_os_error e)

-- somebody else may wait nevertheless: the call was interrupted, or who waited has gone
abbrev pub IsOfOne : Error → Type 0
IsOfOne e = (error_kind e ≡ Interrupted) ⊎ (error_kind e ≡ ConnectionAborted)
