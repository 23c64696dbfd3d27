-- What bytes say in a mode: the message of the profile that is meant, and how its page is laid out.
use Rattle.std.specs.Prelude.{◌≡◌, ◌⊎◌, ◌≤◌, ◌<◌, ℕ, List, ◌++◌, length}
use Rattle.httparse.specs.Grammar.{RequestHead}
use Rattle.http_messages.specs.Heads.{parts_of}
use Rattle.http_messages.specs.Messages as sent
use Rattle.http_messages.specs.Messages.{HasNoMessage, IsMessage}
use Rattle.http_messages.specs.Framing.{asked_kind}
use Rattle.http_messages.specs.Wide as wide
use Rattle.http_messages.specs.Wide.{BeginsWith, Wide}
use Rattle.http_messages.specs.declared.denials.Denial.{Denial}
use Rattle.http_messages.specs.declared.denials.Denial.TheVariants.{TooLarge}
use Rattle.http_messages.specs.WideReading.{IsOpen, IsWideMessage, rest_of}
use Rattle.http_messages.specs.Plain.{plain_parts}
use Rattle.http_messages.specs.declared.wide_messages.WideMessage.TheVariants as taken
use Rattle.http_conversations.specs.declared.modes.TheConstants.{MOST_TEXT}
use Rattle.http_conversations.specs.declared.modes.Layout.{Layout}
use Rattle.http_conversations.specs.declared.modes.Layout.TheVariants as layout
use Rattle.http_conversations.specs.declared.modes.Mode.{Mode}
use Rattle.http_conversations.specs.declared.modes.Mode.TheVariants as mode

-- the message of the profile that is meant, and how its page is laid out
pub record Said : Type 0 where
  pub meant : sent.Message
  pub layout : Layout

-- the message is not read, and its page is laid out so
abbrev pub unread : Layout → Said
unread l = record { meant = sent.NoHead; layout = l }

-- the message of the profile asks what this head asks with this body
pub record IsMeantBy (h : RequestHead) (body : List ℕ) (x : Said) : Type 0 where
  pub plain : RequestHead
  pub parts : parts_of plain ≡ plain_parts (parts_of h) body
  pub meant : x.meant ≡ sent.Asks plain body
  pub layout : x.layout ≡ layout.Wide (asked_kind h.method)

-- a message that is not read gets the page of its status
abbrev pub IsDeniedFor : List ℕ → Wide → Said → Type 0
IsDeniedFor bytes w x = (why : Denial) × IsWideMessage bytes (taken.Denied why) w × (x ≡ unread (layout.Denied why))

-- what is meant by a wide message
abbrev pub Means : List ℕ → Wide → Said → Type 0
Means bytes wide.NoMethod x = x ≡ unread layout.Nothing
Means bytes (wide.Asks h body) x = IsMeantBy h body x
Means bytes w x = IsDeniedFor bytes w x

-- these bytes are this message, whatever follows them
abbrev pub IsWideText : List ℕ → Wide → Type 0
IsWideText bytes w = (more : List ℕ) → BeginsWith (bytes ++ more) w (rest_of w more)

-- these bytes are a message, of which this is meant
abbrev pub IsSaidWidely : List ℕ → Said → Type 0
IsSaidWidely bytes x = (w : Wide) × IsWideText bytes w × Means bytes w x

-- as many bytes as a message may have, and no message is whole
pub record IsTooLong (bytes : List ℕ) (x : Said) : Type 0 where
  pub none : IsOpen bytes
  pub long : MOST_TEXT ≤ length bytes
  pub denied : x ≡ unread (layout.Denied TooLarge)

-- these bytes say this in a mode
abbrev pub Says : Mode → List ℕ → Said → Type 0
Says mode.Strict bytes x = IsMessage bytes x.meant × (x.layout ≡ layout.Profile)
Says mode.Lenient bytes x = IsSaidWidely bytes x ⊎ IsTooLong bytes x

-- the bytes begin with no whole message; in lenient mode they are fewer than a message may have
abbrev pub SaysNothing : Mode → List ℕ → Type 0
SaysNothing mode.Strict bytes = HasNoMessage bytes
SaysNothing mode.Lenient bytes = IsOpen bytes × (length bytes < MOST_TEXT)
