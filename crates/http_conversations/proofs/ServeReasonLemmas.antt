-- What a connection that is served keeps of reasons. For serve, and for what it calls.
use Rattle.std.proofs.Common.{◌≡◌, Bool, false, List, ℕ, [], Option, None, Some, Result, Err, refl, arith}
use Rattle.std.specs.Io.KnownBytes.{Consumes}
use Rattle.ledger.specs.Answer.{State}
use Rattle.commands.specs.declared.replies.Fault.{Fault}
use Rattle.commands.specs.declared.replies.Fault.TheVariants as fault
use Rattle.saga_core.specs.StreamFaults.{IsOfReading, is_store, served_fault}
use Rattle.saga_core.specs.declared.serve_faults.ServeFault.{ServeFault}
use Rattle.saga_core.specs.declared.serve_faults.ServeFault.TheVariants.{Memory}
use Rattle.saga_core.proofs.KnownLemmas.{for_known}
use Rattle.saga_core.specs.Runs.{Asks}
use Rattle.desk_http.specs.declared.doors.Door.TheVariants.{Port}
use Rattle.http_conversations.specs.declared.modes.Mode.TheVariants.{Strict}
use Rattle.http_conversations.specs.Answering.{LeavesTaken}
use Rattle.http_conversations.specs.Calls.{Receives}
use Rattle.http_conversations.specs.History.{History, IsServed, new_history}
use Rattle.http_conversations.specs.Leading.{GoesOnByOne, has_broken}
use Rattle.http_conversations.specs.ServeReasons.{HasServed, ServesReader}
use Rattle.http_conversations.specs.Serving.{IsAsBefore, IsAtPort}
use Rattle.http_conversations.proofs.CallLemmas.{receives_on}
use Rattle.http_conversations.proofs.ReasonLemmas.{ends_none, ends_then}
use Rattle.http_conversations.proofs.ServeLemmas.{starts, stops}
use Rattle.http_conversations.proofs.Steps.{begins, since_more}

consumes_none : (x : Option (List ℕ)) → Consumes x x []
consumes_none None = tt
consumes_none (Some xs) = refl

-- the fault of an answer is one of the store where that of the book is
store_as : (f : Fault) → has_broken {T = Bool} (Err f) ≡ is_store (served_fault f)
store_as fault.Memory = refl
store_as fault.Store = refl

-- a read changes neither door nor mode nor exchanges
receives_at : {E : Type 0} {h k : History} {remains remaining : Option (List ℕ)} {room : ℕ} (result : Result ℕ E)
    → Receives remains remaining room result h k → IsAtPort h → IsAtPort k × (k.exchanges ≡ h.exchanges)
receives_at result did at = grind arith

module _ {B : Type 0} {is_sound : B → Type 0} {may : B → B → State → Asks → Type 0} {reason : B → B → State → State → Type 0} where
  -- nothing was read or answered
  pub serves_none : (left : Option (List ℕ)) (b : B) → HasServed is_sound may reason left left b b false (new_history Port Strict)
  serves_none left b = record {
    served = ∣ begins Port Strict ∣₁;
    at_port = grind arith;
    read = consumes_none left;
    reasons = λ sound first. ends_none (may first b) (reason first b);
  }

  -- memory ran out before a message was looked for
  pub serves_nothing : {stands : B → State → Type 0} {leaves : B → State → State → Type 0} (held left : Option (List ℕ)) (b : B)
      → ServesReader is_sound stands leaves may reason held held left left b b (Err Memory)
  serves_nothing {stands} {leaves} held left b = record {
    answers = λ sound s was. for_known left _ (λ input is.
        stops Memory (starts held (stands b) (leaves b) s input (new_history Port Strict) left refl is was) tt);
    reasons = (new_history Port Strict, serves_none left b);
  }

  -- a read failed
  pub read_fails : {first left : Option (List ℕ)} {begun b : B} {h : History} (fault : ServeFault) → IsOfReading fault
      → HasServed is_sound may reason first left begun b false h → HasServed is_sound may reason first left begun b (is_store fault) h
  read_fails fault reads x = grind arith

  module _ {first left : Option (List ℕ)} {begun b : B} {h k : History} (x : HasServed is_sound may reason first left begun b false h)
      (served : ∥ IsServed k ∥₁) where
    -- the first message that waits was answered, or none, or a fault came
    pub answers_then : {c : B} {stands : B → State → Type 0} {leaves : B → State → State → Type 0} {stopped : Bool} (result : Result Bool Fault)
        → LeavesTaken result h k → (is_sound c → is_sound b)
        → GoesOnByOne is_sound stands leaves may reason b c (has_broken result) stopped h.exchanges k.exchanges
        → HasServed is_sound may reason first left begun c (has_broken result) k
    answers_then result taken back turn = grind (arith, since_more, ends_then, x.reasons, turn.reasons, back)

    -- a fault came
    pub answer_fails : {c : B} {stands : B → State → Type 0} {leaves : B → State → State → Type 0} {stopped : Bool} (f : Fault)
        → LeavesTaken (Err f) h k → (is_sound c → is_sound b)
        → GoesOnByOne is_sound stands leaves may reason b c (has_broken {T = Bool} (Err f)) stopped h.exchanges k.exchanges
        → HasServed is_sound may reason first left begun c (is_store (served_fault f)) k
    answer_fails f taken back turn = rw (← store_as f) (answers_then (Err f) taken back turn)

    -- bytes were read, or none
    pub reads_then : {E : Type 0} {now : Option (List ℕ)} {room : ℕ} (result : Result ℕ E) → Receives left now room result h k
        → HasServed is_sound may reason first now begun b false k
    reads_then result did = grind (arith, receives_on, receives_at, x.reasons)

    -- a page was written, or part of it
    pub sends_then : IsAsBefore h k → HasServed is_sound may reason first left begun b false k
    sends_then same = grind (arith, x.reasons)
