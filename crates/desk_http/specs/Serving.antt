-- The result of serving a connection at the port: what was written, and the state of the book after it.
use Rattle.std.specs.Prelude.{◌≡◌, ◌⊎◌, ℕ, true, List, [], ◌∷◌, ◌++◌, length, take}
use Rattle.std.specs.List.{concat}
use Rattle.ledger.specs.Answer.{State}
use Rattle.http_messages.specs.Messages.{Message, BeginsWith, BeginsWithAll, HasNoMessage}
use Rattle.desk_http.specs.Pages.{ArePages, IsPage, closes, state_after, state_after_all, stays_open}
use Rattle.desk_http.specs.declared.doors.Door.TheVariants.{Port}
use Rattle.saga_core.specs.StreamScenes.{Scene, Wrote}
use Rattle.saga_core.specs.declared.serve_faults.ServeFault.{ServeFault}
use Rattle.saga_core.specs.declared.serve_faults.ServeFault.TheVariants.{Memory, Store, Read, Write}

-- the messages are a prefix of the input, before the rest; their pages are these
pub record Answered (s : State) (input : List ℕ) (messages : List Message) (rest : List ℕ) (pages : List (List ℕ))
    : Type 0 where
  pub begins : BeginsWithAll input messages rest
  pub are : ArePages s messages pages

-- the last of these messages closes, and no earlier one does
abbrev pub EndsWithClosing : List Message → Type 0
EndsWithClosing messages =
    (front : List Message) × (last : Message) × (messages ≡ front ++ last ∷ [])
    × (stays_open front ≡ true) × (closes Port last ≡ true)

-- none of these messages closes, and no message follows them
abbrev pub EndsWithInput : List Message → List ℕ → Type 0
EndsWithInput messages rest = (stays_open messages ≡ true) × HasNoMessage rest

-- all messages were answered, up to and including the first that closes: their pages were written, and nothing else
pub record ServesAll (x : Scene) (s : State) (input : List ℕ) (count : ℕ) : Type 0 where
  pub messages : List Message
  pub rest : List ℕ
  pub pages : List (List ℕ)
  pub answered : Answered s input messages rest pages
  pub ends : EndsWithClosing messages ⊎ EndsWithInput messages rest
  pub sent : Wrote x (concat pages)
  pub counted : count ≡ length pages
  pub left : x.stands (state_after_all s messages)

-- the rest of the input has a next message, for which this holds
abbrev pub ForNext : List ℕ → (Message → Type 0) → Type 0
ForNext rest So = (next : Message) × (after : List ℕ) × BeginsWith rest next after × So next

-- besides, a prefix of the page of this message was written, and the book represents the state after the message
abbrev pub IsCut : Scene → State → List (List ℕ) → Message → Type 0
IsCut x t pages next =
    (page : List ℕ) × (part : ℕ) × IsPage Port t next page × Wrote x (concat pages ++ take part page)
    × x.stands (state_after Port t next)

-- the state at each fault, where these pages were written, this state was reached, and this rest of the input follows
abbrev pub Leaves : ServeFault → Scene → State → List (List ℕ) → List ℕ → Type 0
Leaves Read x t pages rest = Wrote x (concat pages) × x.stands t
Leaves Write x t pages rest = ForNext rest (IsCut x t pages)
Leaves Memory x t pages rest =
    Wrote x (concat pages) × (x.stands t ⊎ ForNext rest (λ next. x.stands (state_after Port t next)))
Leaves Store x t pages rest =
    Wrote x (concat pages) × ForNext rest (λ next. x.leaves t (state_after Port t next))

-- a prefix of the messages was answered, of which none closes, and then a fault came
pub record ServesSome (x : Scene) (s : State) (input : List ℕ) (fault : ServeFault) : Type 0 where
  pub messages : List Message
  pub rest : List ℕ
  pub pages : List (List ℕ)
  pub answered : Answered s input messages rest pages
  pub stays : stays_open messages ≡ true
  pub leaves : Leaves fault x (state_after_all s messages) pages rest
