-- Where exchanges lead the desk, from one state to another.
use Rattle.std.specs.Prelude.{◌≡◌, ◌⊎◌, ◌+◌, ◌≤◌, ℕ, Bool, true, false, List, [], ◌∷◌, ◌++◌, length, Option, Some, None, Result, Err}
use Rattle.ledger.specs.Answer.{State}
use Rattle.commands.specs.declared.replies.Fault.{Fault}
use Rattle.commands.specs.declared.replies.Fault.TheVariants.{Memory, Store}
use Rattle.saga_core.specs.Runs.{Asks}
use Rattle.saga_core.specs.declared.serve_faults.ServeFault.{ServeFault}
use Rattle.saga_core.specs.declared.serve_faults.ServeFault.TheVariants as serve
use Rattle.desk_http.specs.Pages.{state_after}
use Rattle.desk_http.specs.declared.doors.Door.{Door}
use Rattle.http_conversations.specs.Pages.{IsPageBy}
use Rattle.http_conversations.specs.Modes.{Said, Says}
use Rattle.http_conversations.specs.Worlds.{Exchange}
use Rattle.http_conversations.specs.Exchanges.{StopAtLast, since}
use Rattle.http_conversations.specs.Reasons.{HasReasons}

-- the message, which came in at a door, gets its page, and is carried out; where the page was lost, it is carried out or not
abbrev pub Comes : Door → State → Said → Option (List ℕ) → State → Type 0
Comes door s m (Some page) t = IsPageBy door s m page × (t ≡ state_after door s m.meant)
Comes door s m None t = (t ≡ s) ⊎ (t ≡ state_after door s m.meant)

-- an exchange leads from one state to the next
pub record LeadsBy (s : State) (x : Exchange) (t : State) : Type 0 where
  pub message : Said
  pub is_message : Says x.mode x.bytes message
  pub comes : Comes x.door s message x.page t

-- exchanges lead from one state to another, each from where the one before led
abbrev pub Leads : State → List Exchange → State → Type 0
Leads s [] t = t ≡ s
Leads s (x ∷ later) t = (next : State) × LeadsBy s x next × Leads next later t

-- the book stands where the exchanges lead
abbrev pub LeadsTo : (State → Type 0) → State → List Exchange → Type 0
LeadsTo stands s exchanges = (t : State) × Leads s exchanges t × stands t

-- the store failed at the last exchange: a crash leaves the state before its message, or the one after
pub record BreaksOff (leaves : State → State → Type 0) (s : State) (exchanges : List Exchange) : Type 0 where
  pub before : List Exchange
  pub last : Exchange
  pub at_last : exchanges ≡ before ++ last ∷ []
  pub message : Said
  pub is_message : Says last.mode last.bytes message
  pub is_lost : last.page ≡ None
  pub at : State
  pub leads : Leads s before at
  pub left : leaves at (state_after last.door at message.meant)

-- where the exchanges lead, if the store did not fail at the last, or if it did
abbrev pub Ends : Bool → (State → Type 0) → (State → State → Type 0) → State → List Exchange → Type 0
Ends false stands leaves s exchanges = LeadsTo stands s exchanges
Ends true stands leaves s exchanges = BreaksOff leaves s exchanges

-- a book went on by the exchanges between these two lists, in each state that it stood for, while it is sound
pub record GoesOn (sound : Type 0) (stood stands : State → Type 0) (leaves : State → State → Type 0)
    (store_failed : Bool) (before after : List Exchange) : Type 0 where
  pub exchanges : List Exchange
  pub more : after ≡ before ++ exchanges
  pub ends : sound → (s : State) → stood s → Ends store_failed stands leaves s exchanges

-- The same by one exchange at most, which stops the desk, or does not. Where the store failed at it, there was a reason.
pub record GoesOnByOne {B : Type 0} (is_sound : B → Type 0) (stands : B → State → Type 0)
    (leaves : B → State → State → Type 0) (may : B → B → State → Asks → Type 0) (reason : B → B → State → State → Type 0)
    (old new : B) (store_failed stopped : Bool) (before after : List Exchange) : Type 0 where
  pub goes_on : GoesOn (is_sound new) (stands old) (stands new) (leaves new) store_failed before after
  pub at_most_one : length after ≤ length before + 1
  pub stopping : StopAtLast stopped (since before after)
  pub reasons : HasReasons is_sound may reason old new store_failed (since before after)

-- the store failed
abbrev pub has_broken : {T : Type 0} → Result T Fault → Bool
has_broken (Err Store) = true
has_broken _ = false

-- the fault of an answer as one of the book
abbrev pub fault_by : ServeFault → Fault
fault_by serve.Store = Store
fault_by _ = Memory
