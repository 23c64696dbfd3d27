-- The first message of bytes in a mode, as it is returned; and when 100 Continue is due.
use Rattle.std.specs.Prelude.{◌≡◌, ℕ, ◌≤◌, Bool, false, List, length, take, Option, Some, None}
use Rattle.http_messages.specs.Requests.{IsTaken}
use Rattle.http_messages.specs.WideReading.{IsDue}
use Rattle.http_conversations.specs.Modes.{Said, Says, SaysNothing}
use Rattle.http_conversations.specs.declared.modes.Arrived.{Arrived}
use Rattle.http_conversations.specs.declared.modes.Mode.{Mode}
use Rattle.http_conversations.specs.declared.modes.Mode.TheVariants.{Strict, Lenient}

-- this was read from what was said
pub record IsRead (arrived : Arrived) (x : Said) : Type 0 where
  pub message : IsTaken arrived.message x.meant
  pub layout : arrived.layout ≡ x.layout

-- the first so many of these bytes say this in a mode, and it was read
pub record IsFirstOfBy (mode : Mode) (bytes : List ℕ) (arrived : Arrived) (count : ℕ) : Type 0 where
  pub said : Said
  pub is_read : IsRead arrived said
  pub within : count ≤ length bytes
  pub says : Says mode (take count bytes) said

-- the first message of these bytes was read, or none of them is whole
abbrev pub IsFirstBy : Mode → List ℕ → Option (Arrived × ℕ) → Type 0
IsFirstBy mode bytes (Some found) = IsFirstOfBy mode bytes found.0 found.1
IsFirstBy mode bytes None = SaysNothing mode bytes

-- 100 Continue is due in a mode, and was not sent for this message: never in strict mode
abbrev pub IsDueBy : Mode → List ℕ → Bool → Type 0
IsDueBy Strict bytes was_sent = ⊥
IsDueBy Lenient bytes was_sent = IsDue bytes × (was_sent ≡ false)
