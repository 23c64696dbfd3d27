-- Why the store failed at a message, and when a book may go on after messages. `could`, `can` and `reason` are those of
-- Rattle.saga_core.specs.Reasons: a book may act for asks before some messages and after them, and a step between two states failed.
use Rattle.std.specs.Prelude.{◌≡◌, ◌⊎◌, Bool, true, false, List, [], ◌∷◌, ◌++◌, None}
use Rattle.std.specs.List.{flat_map}
use Rattle.ledger.specs.Answer.{State}
use Rattle.saga_core.specs.Runs.{Asks}
use Rattle.desk_http.specs.Pages.{command_in, state_after}
use Rattle.desk_http.specs.Worlds.{asks_by}
use Rattle.http_conversations.specs.Modes.{Said, Says}
use Rattle.http_conversations.specs.Worlds.{Exchange}

-- an exchange, and what its message says
pub record Meant : Type 0 where
  pub exchange : Exchange
  pub message : Said
  pub is_message : Says exchange.mode exchange.bytes message

-- what the message of an exchange asks for
abbrev pub asks_with : Meant → Asks
asks_with m = asks_by (command_in m.exchange.door m.message.meant)

-- the state after it
abbrev pub state_with : State → Meant → State
state_with s m = state_after m.exchange.door s m.message.meant

-- what messages ask for, in order
abbrev pub asks_of : List Meant → Asks
asks_of meant = flat_map asks_with meant

-- these are the messages of exchanges that a book was asked for: each that has its page, and perhaps some that lost theirs
abbrev pub AreAsked : List Exchange → List Meant → Type 0
AreAsked [] meant = meant ≡ []
AreAsked (x ∷ later) meant =
    ((m : Meant) × (rest : List Meant) × (m.exchange ≡ x) × (meant ≡ m ∷ rest) × AreAsked later rest)
    ⊎ ((x.page ≡ None) × AreAsked later meant)

-- messages lead from one state to another: each was carried out, unless its page was lost and it was not
abbrev pub Reaches : State → List Meant → State → Type 0
Reaches s [] t = t ≡ s
Reaches s (m ∷ later) t = Reaches (state_with s m) later t ⊎ ((m.exchange.page ≡ None) × Reaches s later t)

-- there was a reason why the step of the last exchange failed, from a state to which the messages before it lead
pub record FailsAtLast (reason : State → State → Type 0) (s : State) (exchanges : List Exchange) (meant : List Meant) : Type 0 where
  pub before : List Meant
  pub last : Meant
  pub at_last : meant ≡ before ++ last ∷ []
  pub earlier : List Exchange
  pub is_last : exchanges ≡ earlier ++ last.exchange ∷ []
  pub at : State
  pub reaches : Reaches s before at
  pub reason_is : reason at (state_with at last)

-- unless the store failed, the book may act for later asks on a state to which the messages lead; if it did, there was a reason
abbrev pub MayGoOn : (State → Asks → Type 0) → (State → State → Type 0) → Bool → State → List Exchange → List Meant → Asks → Type 0
MayGoOn can reason false s exchanges meant later = (t : State) × Reaches s meant t × can t later
MayGoOn can reason true s exchanges meant later = FailsAtLast reason s exchanges meant

-- what the messages of exchanges leave of a book that could act for what they ask for, and for later asks
pub record EndsFor (could can : State → Asks → Type 0) (reason : State → State → Type 0) (store_failed : Bool)
    (exchanges : List Exchange) : Type 0 where
  pub meant : List Meant
  pub asked : AreAsked exchanges meant
  pub ends : (s : State) (later : Asks) → could s (asks_of meant ++ later)
      → MayGoOn can reason store_failed s exchanges meant later

-- the same of a book that is still sound, with the reasons since each first book
abbrev pub HasReasons : {B : Type 0} → (B → Type 0) → (B → B → State → Asks → Type 0) → (B → B → State → State → Type 0)
    → (old new : B) → Bool → List Exchange → Type 0
HasReasons {B} is_sound may reason old new store_failed exchanges =
    is_sound new → (first : B) → EndsFor (may first old) (may first new) (reason first new) store_failed exchanges
