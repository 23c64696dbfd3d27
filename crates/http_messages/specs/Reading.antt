-- The first message of bytes, as it is returned.
use Rattle.std.specs.Prelude.{ℕ, ◌≤◌, List, length, take, Option, Some, None}
use Rattle.http_messages.specs.Requests.{IsTaken}
use Rattle.http_messages.specs.Messages as sent
use Rattle.http_messages.specs.Messages.{HasNoMessage, IsMessage}
use Rattle.http_messages.specs.declared.requests.Message.{Message}

-- the first so many of these bytes are a message, and it was taken
pub record IsFirstOf (bytes : List ℕ) (taken : Message) (count : ℕ) : Type 0 where
  pub message : sent.Message
  pub is_taken : IsTaken taken message
  pub within : count ≤ length bytes
  pub is_message : IsMessage (take count bytes) message

-- the first message of these bytes was taken, or none of them is whole
abbrev pub IsFirst : List ℕ → Option (Message × ℕ) → Type 0
IsFirst bytes (Some found) = IsFirstOf bytes found.0 found.1
IsFirst bytes None = HasNoMessage bytes
