-- How the first message that waits is answered, where that leads the book, and what it leaves.
use Rattle.std.specs.Prelude.{◌≡◌, ◌⊎◌, Bool, true, false, Option, Some, None, ℕ, List, [], ◌∷◌, ◌++◌, take, Result, Ok, Err, OnErr}
use Rattle.std.proofs.Common.{inl, inr}
use Rattle.ledger.specs.Answer.{State}
use Rattle.commands.specs.declared.replies.Fault.{Fault}
use Rattle.commands.specs.declared.replies.Fault.TheVariants.{Memory, Store}
use Rattle.desk_http.specs.Pages.{state_after}
use Rattle.http_conversations.specs.Pages.{IsPageAt}
use Rattle.http_conversations.specs.Reading.{IsRead}
use Rattle.http_conversations.specs.Modes.{Said, Says}
use Rattle.http_conversations.specs.declared.modes.Arrived.{Arrived}
use Rattle.http_conversations.specs.History.{AnswersOne, HasNoTurn, History, Passes, TakesFirst, exchange}
use Rattle.http_conversations.specs.declared.conversation.Stage.TheVariants.{Failed}

-- memory ran out for a page, and its message was carried out or not; or the store failed, and a crash leaves one of these states
abbrev pub LeavesAt : (State → Type 0) → (State → State → Type 0) → Fault → State → State → Type 0
LeavesAt stands leaves Memory s t = stands s ⊎ stands t
LeavesAt stands leaves Store s t = leaves s t

module _ (sound : Type 0) (stood stands : State → Type 0) (leaves : State → State → Type 0) (second : Option ℕ) where
  -- Where what was taken leads the book: the page of a message is that of the state in which it was carried out, and in lenient
  -- mode has the date of this second, if the clock was read. Where no message was taken, the book stands as it stood.
  abbrev pub LeadsAs : (result : Result Bool Fault) (old new : History) → TakesFirst result old new → Type 0
  LeadsAs (Ok true) old new taken =
      sound → (s : State) → stood s
      → IsPageAt old.door second s taken.message taken.page × stands (state_after old.door s taken.message.meant)
  LeadsAs (Ok false) old new same = (s : State) → stood s → stands s
  LeadsAs (Err fault) old new (inl lost) =
      sound → (s : State) → stood s → LeavesAt stands leaves fault s (state_after old.door s lost.message.meant)
  LeadsAs (Err fault) old new (inr unseen) = (fault ≡ Memory) × ((s : State) → stood s → stands s)

  -- the first message that waits was answered, or it was not its turn, or a fault came
  pub record AnswersFirst (result : Result Bool Fault) (old new : History) : Type 0 where
    -- what was taken of what waits
    pub takes : TakesFirst result old new
    pub leads : LeadsAs result old new takes

-- the message that was taken was read as this
pub record SeesLast (arrived : Arrived) (old new : History) : Type 0 where
  pub count : ℕ
  pub page : Option (List ℕ)
  pub is_last : new.exchanges ≡ old.exchanges ++ exchange old count page ∷ []
  pub said : Said
  pub is_read : IsRead arrived said
  pub says : Says old.mode (take count old.waiting) said

-- the message that was taken is shown, as it was read; nothing is where none was taken
abbrev pub Sees : Option Arrived → History → History → Type 0
Sees (Some arrived) old new = SeesLast arrived old new
Sees None old new = new.exchanges ≡ old.exchanges

-- The same of a book. Where it was not its turn, nothing changed. The message is shown.
pub record AnswersAndShows {B : Type 0} (is_sound : B → Type 0) (stands : B → State → Type 0) (leaves : B → State → State → Type 0) (from to : B)
    (second : Option ℕ) (result : Result Bool Fault) (shown : Option Arrived) (old new : History) : Type 0 where
  pub first : AnswersFirst (is_sound to) (stands from) (stands to) (leaves to) second result old new
  pub none : result ≡ Ok false → HasNoTurn old × (new ≡ old) × (to ≡ from)
  pub seen : Sees shown old new

-- what that leaves of a conversation
pub record LeavesTaken (result : Result Bool Fault) (old new : History) : Type 0 where
  pub passes : Passes old new
  -- a message got its page, which waits
  pub one : result ≡ Ok true → AnswersOne old new
  pub fault : OnErr result (new.stage ≡ Failed)
