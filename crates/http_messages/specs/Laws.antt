-- Laws of all streams.
use Rattle.std.specs.Prelude.{◌≡◌, ℕ, List, ◌++◌, Some}
use Rattle.std.specs.List.{concat}
use Rattle.httparse.specs.Grammar.{RequestHead}
use Rattle.http_messages.specs.Heads.{IsHead}
use Rattle.http_messages.specs.Messages.{AreEach, AreMessages, BeginsWithAll, Message, first_told}

-- a stream has one list of messages
abbrev pub HasOneReading : Type 0
HasOneReading =
    (stream : List ℕ) (ms others : List Message) → AreMessages stream ms → AreMessages stream others → ms ≡ others

-- a head is decided where it ends, and not before, whatever follows
abbrev pub HeadsAreTold : Type 0
HeadsAreTold = (front rest : List ℕ) (h : RequestHead) → IsHead front h → first_told (front ++ rest) ≡ Some front

-- messages that stand one after another are the first of every stream that begins with them
abbrev pub MessagesStay : Type 0
MessagesStay = (texts : List (List ℕ)) (ms : List Message) (rest : List ℕ) → AreEach texts ms
    → BeginsWithAll (concat texts ++ rest) ms rest
