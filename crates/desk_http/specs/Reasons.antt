-- Why a book fails with Store at a message, and when it may act after one. `could`, `can` and `reason` are those of
-- Rattle.saga_core.specs.Reasons: a book may act for asks, before a call and after it; a step between two states failed.
use Rattle.std.specs.Prelude.{◌⊎◌, ◌++◌, Bool, List, ℕ, Option, Result, Ok, Err}
use Rattle.ledger.specs.Answer.{State}
use Rattle.saga_core.specs.Calls.{Serves}
use Rattle.saga_core.specs.Runs.{Asks}
use Rattle.http_messages.specs.Heads.{Parts}
use Rattle.http_messages.specs.Messages.{Message}
use Rattle.http_pages.specs.Pages.{page_said}
use Rattle.http_pages.specs.declared.answers.Page.{Page}
use Rattle.saga_core.specs.declared.serve_faults.ServeFault.{ServeFault}
use Rattle.saga_core.specs.declared.serve_faults.ServeFault.TheVariants.{Memory, Store}
use Rattle.desk_http.specs.Answering.{Comes, Shows}
use Rattle.desk_http.specs.Demands.{Demand, demand_of}
use Rattle.desk_http.specs.Hosts.{refusal_at}
use Rattle.desk_http.specs.Pages.{Command, Says, SaysUnless, command_by, command_in, command_unless, state_by}
use Rattle.desk_http.specs.Worlds.{asks_by}
use Rattle.desk_http.specs.declared.doors.Door.{Door}

-- What is read of a book.

-- after a view the book may act for the same asks on the same state; Store has a reason
abbrev pub MayStill : {T : Type 0} → (State → Asks → Type 0) → (State → State → Type 0) → State → Asks → Result T ServeFault → Type 0
MayStill can reason s asks (Ok shown) = can s asks
MayStill can reason s asks (Err Memory) = can s asks
MayStill can reason s asks (Err Store) = reason s s
MayStill can reason s asks (Err _) = ⊥

-- what a view leaves of a book that could act
abbrev pub ViewsOn : {T : Type 0} → (State → Asks → Type 0) → (State → Asks → Type 0) → (State → State → Type 0)
    → Result T ServeFault → Type 0
ViewsOn could can reason result = (s : State) (asks : Asks) → could s asks → MayStill can reason s asks result

module _ {B : Type 0} (is_sound : B → Type 0) (stands : B → State → Type 0) (leaves : B → State → State → Type 0) (has_failed : B → Bool)
    (may : B → B → State → Asks → Type 0) (reason : B → B → State → State → Type 0) (old new : B) where
  -- a view shows this of a state that the book represents, and leaves the book as it was; or the book has failed
  pub record Views {T : Type 0} (So : State → T → Type 0) (result : Result T ServeFault) : Type 0 where
    pub shows : is_sound new → (s : State) → stands old s → Shows (stands new) (leaves new) s (So s) result
    pub serves : Serves is_sound leaves has_failed old new Store result
    pub may_act : is_sound new → (first : B) → ViewsOn (may first old) (may first new) (reason first new) result

  -- the page shows what this demand is to see
  abbrev pub Sees : Demand → Result Page ServeFault → Type 0
  Sees demand result = Views (λ s page. Says s (Ok demand) (page_said page)) result

-- What a message asks of a book.

-- after a message the book may act for later asks on the next state; out of memory on that one, or still on the first
abbrev pub MayGoOn : {T : Type 0} → (State → Asks → Type 0) → (State → State → Type 0) → (s next : State) → Asks
    → Result T ServeFault → Type 0
MayGoOn can reason s next later (Ok made) = can next later
MayGoOn can reason s next later (Err Memory) = can s later ⊎ can next later
MayGoOn can reason s next later (Err Store) = reason s next
MayGoOn can reason s next later (Err _) = ⊥

-- the book may act for what it could act for
abbrev pub MayStillAct : (could can : State → Asks → Type 0) → Type 0
MayStillAct could can = (s : State) (asks : Asks) → could s asks → can s asks

module _ {T : Type 0} (could can : State → Asks → Type 0) (reason : State → State → Type 0) where
  -- a book that could act for this command, if there is one, and for later asks, was asked for the command
  abbrev pub ActsBy : Option Command → Result T ServeFault → Type 0
  ActsBy command result =
      (s : State) (later : Asks) → could s (asks_by command ++ later) → MayGoOn can reason s (state_by s command) later result

  -- the same; or memory ran out before it was asked
  abbrev pub GoesOn : Option Command → Result T ServeFault → Type 0
  GoesOn command (Err Memory) = MayStillAct could can ⊎ ActsBy command (Err Memory)
  GoesOn command result = ActsBy command result

-- what a message leaves of it that came in at a door
module _ {T : Type 0} (could can : State → Asks → Type 0) (reason : State → State → Type 0) where
  abbrev pub GoesOnAt : Door → Message → Result T ServeFault → Type 0
  GoesOnAt door m result = GoesOn could can reason (command_in door m) result

module _ {B : Type 0} (is_sound : B → Type 0) (stands : B → State → Type 0) (leaves : B → State → State → Type 0)
    (may : B → B → State → Asks → Type 0) (reason : B → B → State → State → Type 0) (old new : B) where
  -- the command, if there is one, was executed and the result satisfies `So`, or a fault came before or after that; and the
  -- book goes on so
  pub record Obeys {T : Type 0} (command : Option Command) (So : State → T → Type 0) (result : Result T ServeFault) : Type 0 where
    pub comes : is_sound new → (s : State) → stands old s
        → Comes (stands new) (leaves new) s (state_by s command) (So s) result
    pub may_act : is_sound new → (first : B) → GoesOn (may first old) (may first new) (reason first new) command result

  -- the page reports the outcome of a demand
  abbrev pub Meets : Demand → Result Page ServeFault → Type 0
  Meets demand result = Obeys (command_by (Ok demand)) (λ s page. Says s (Ok demand) (page_said page)) result

  -- the page reports the outcome of a request with these parts and this body, whose head may be refused
  abbrev pub Tells : Door → Parts → List ℕ → Result Page ServeFault → Type 0
  Tells door parts body result =
      Obeys (command_unless (refusal_at door parts) (demand_of door parts body))
      (λ s page. SaysUnless (refusal_at door parts) door s parts body (page_said page)) result
