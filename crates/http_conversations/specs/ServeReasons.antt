-- What serving one reader and one writer comes to, and why the store failed, if it did. For serve.
use Rattle.std.specs.Prelude.{Bool, false, List, ℕ, Option, Result, Ok, Err, IfSome}
use Rattle.std.specs.Io.KnownBytes.{Consumes}
use Rattle.ledger.specs.Answer.{State}
use Rattle.saga_core.specs.Runs.{Asks}
use Rattle.saga_core.specs.StreamFaults.{is_store}
use Rattle.saga_core.specs.StreamScenes.{Scene, scene}
use Rattle.saga_core.specs.declared.serve_faults.ServeFault.{ServeFault}
use Rattle.desk_http.specs.Serving.{ServesAll, ServesSome}
use Rattle.http_conversations.specs.History.{History, IsServed}
use Rattle.http_conversations.specs.Reasons.{HasReasons}
use Rattle.http_conversations.specs.Serving.{IsAtPort}
use Rattle.http_conversations.specs.declared.serving.Served.{Served}

-- all messages were answered, and so many pages were written; or some were, and then this fault came
abbrev pub ServesTo : Scene → State → List ℕ → Result Served ServeFault → Type 0
ServesTo x s input (Ok served) = ServesAll x s input served.pages
ServesTo x s input (Err fault) = ServesSome x s input fault

-- the store failed
abbrev pub has_store_failed : {T : Type 0} → Result T ServeFault → Bool
has_store_failed (Ok value) = false
has_store_failed (Err fault) = is_store fault

module _ {B : Type 0} (is_sound : B → Type 0) (may : B → B → State → Asks → Type 0) (reason : B → B → State → State → Type 0) where
  -- A conversation at the port, in strict mode, has this history, and received what was read. If the store failed, there was a
  -- reason at the last of its exchanges; if not, the book may act on after them.
  pub record HasServed (remains remaining : Option (List ℕ)) (old new : B) (store_failed : Bool) (h : History) : Type 0 where
    pub served : ∥ IsServed h ∥₁
    pub at_port : IsAtPort h
    pub read : Consumes remains remaining h.received
    pub reasons : HasReasons is_sound may reason old new store_failed h.exchanges

  -- a conversation goes on from one history to another, whatever was read and answered before
  abbrev pub ServesOn : (remains remaining : Option (List ℕ)) (old new : B) → Bool → History → History → Type 0
  ServesOn remains remaining old new store_failed h k =
      (first : Option (List ℕ)) (begun : B)
      → HasServed first remains begun old false h → HasServed first remaining begun new store_failed k

-- What serving comes to, in each state that the book represented, where it is still sound and the input is known; and the history
-- of the conversation, by which the store failed for a reason.
pub record ServesReader {B : Type 0} (is_sound : B → Type 0) (stands : B → State → Type 0) (leaves : B → State → State → Type 0)
    (may : B → B → State → Asks → Type 0) (reason : B → B → State → State → Type 0) (held holds remains remaining : Option (List ℕ))
    (old new : B) (result : Result Served ServeFault) : Type 0 where
  pub answers : is_sound new → (s : State) → stands old s
      → IfSome remains (λ input. ServesTo (scene held holds (stands new) (leaves new)) s input result)
  pub reasons : (h : History) × HasServed is_sound may reason remains remaining old new (has_store_failed result) h
