-- The law of what is said in lenient mode, and that of the text of an ask in each mode.
use Rattle.std.specs.Prelude.{◌≡◌, ℕ, false, List, ◌∷◌, ◌++◌}
use Rattle.http_messages.specs.Wide.{Wide, WideMessages, ends_with}
use Rattle.desk_http.specs.Laws.{HasShortAsk}
use Rattle.desk_http.specs.declared.doors.Door.{Door}
use Rattle.http_conversations.specs.Modes.{IsWideText, Said, Says}
use Rattle.http_conversations.specs.declared.modes.Mode.{Mode}

-- A message that some bytes are is the first one of each stream that begins with them, and unless it ends the connection,
-- the messages after it are those of what follows the bytes.
abbrev pub SaidIsFirst : Type 0
SaidIsFirst =
    (bytes more : List ℕ) (w m : Wide) (later : List Wide) → IsWideText bytes w → WideMessages (bytes ++ more) (m ∷ later)
    → (m ≡ w) × (ends_with w ≡ false → WideMessages more later)

-- The text of the ask of what bytes say in a mode, if it makes a command of an agent, has no more bytes than a head and a body
-- may have, at each door.
abbrev pub AsksAreShort : Type 0
AsksAreShort = (mode : Mode) (door : Door) (bytes : List ℕ) (x : Said) → Says mode bytes x → HasShortAsk door x.meant
