-- The answer to a message, and the state of the book after it.
use Rattle.std.specs.Prelude.{◌≡◌, ◌⊎◌, Bool, IfErr, IfOk, Result, Ok, Err}
use Rattle.ledger.specs.Answer.{State}
use Rattle.http_messages.specs.Messages.{Message}
use Rattle.http_pages.specs.Pages.{Paged, page_text}
use Rattle.desk_http.specs.Pages.{IsPage, closes, state_after}
use Rattle.desk_http.specs.declared.answering.Answer.{Answer}
use Rattle.desk_http.specs.declared.doors.Door.{Door}
use Rattle.saga_core.specs.declared.serve_faults.ServeFault.{ServeFault}
use Rattle.saga_core.specs.declared.serve_faults.ServeFault.TheVariants.{Memory, Store}

-- the page was laid out as bytes, closes and stops the desk as it was to; or out of memory
pub record LaidOut (result : Result Answer ServeFault) (page : Paged) (is_head ends stopped : Bool) : Type 0 where
  pub bytes : IfOk result (λ answer. answer.bytes.items ≡ page_text is_head ends page)
  pub closes : IfOk result (λ answer. answer.closes ≡ ends)
  pub stops : IfOk result (λ answer. answer.stops ≡ stopped)
  pub memory : IfErr result (λ fault. fault ≡ Memory)

module _ (stands : State → Type 0) (leaves : State → State → Type 0) (s : State) where
  -- the request was executed and its result satisfies `So`; or a fault came before it was executed or after that
  abbrev pub Comes : {T : Type 0} → State → (T → Type 0) → Result T ServeFault → Type 0
  Comes after So (Ok made) = So made × stands after
  Comes after So (Err Memory) = stands s ⊎ stands after
  Comes after So (Err Store) = leaves s after
  Comes after So (Err _) = ⊥

  -- the result is shown, and nothing changes
  abbrev pub Shows : {T : Type 0} → (T → Type 0) → Result T ServeFault → Type 0
  Shows So result = Comes s So result

  -- these are the bytes of the page of a message that came in at a door
  abbrev pub Answers : Door → Message → Result Answer ServeFault → Type 0
  Answers door m result =
      Comes (state_after door s m) (λ answer. IsPage door s m answer.bytes.items × (answer.closes ≡ closes door m)) result
