-- For which reason no turn comes from the sockets any more.
use Rattle.std.specs.Prelude.{◌≡◌, ◌≤◌, ◌⊎◌, ℕ, Bool, true, Some, is_none}
use Rattle.std.specs.List.{list_all}
use Rattle.http_sockets.specs.declared.places.Places.{Places}
use Rattle.http_sockets.specs.declared.sockets.Sockets.{Sockets}

-- no slot has a peer
abbrev pub are_free : Places → Bool
are_free places = list_all (λ place. is_none place.socket) places.places.items

-- the desk was told to stop, and the time for the pages that wait has ended
pub record HasWaited (sockets : Sockets) : Type 0 where
  pub last : ℕ
  pub told : sockets.last ≡ Some last
  pub ended : last ≤ sockets.tick

-- as many peers came as may come, and all have left
pub record HaveLeft (sockets : Sockets) : Type 0 where
  pub came : sockets.to_come ≡ Some 0
  pub free : are_free sockets.places ≡ true

abbrev pub IsAtEnd : Sockets → Type 0
IsAtEnd sockets = HasWaited sockets ⊎ HaveLeft sockets

-- the system has failed to report what happens
abbrev pub is_failed : Sockets → Bool
is_failed sockets = sockets.has_failed

abbrev pub IsOver : Sockets → Type 0
IsOver sockets = (is_failed sockets ≡ true) ⊎ IsAtEnd sockets
