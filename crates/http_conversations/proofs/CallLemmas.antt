-- What one read, one write and one 100 Continue keep true. For the calls of a conversation, and for the connections above.
use Rattle.std.proofs.Common.{◌≡◌, ◌≢◌, ◌⊎◌, ◌+◌, ◌<◌, ◌≤◌, ℕ, Bool, false, List, [], ◌∷◌, length, length-append, Option, Result, refl, sym, subst, arith, inl, inr, IsTrue}
use Rattle.std.specs.Io.KnownBytes.{Appends, Consumes, Keeps}
use Rattle.saga_core.proofs.ByteLemmas.{appends_before, appends_more, consumes_more}
use Rattle.http_conversations.specs.Calls.{GivesIfDue, Receives, Sends}
use Rattle.http_conversations.specs.History.{GivesGoOn, History, IsQuiet, IsServed, kept}
use Rattle.http_conversations.specs.declared.conversation.Stage.{Stage}
use Rattle.http_conversations.proofs.Steps.{gives, receives, sends}

-- 100 Continue.

-- it was given, or nothing changed
pub given_or_not : {E : Type 0} (r : Result Bool E) (h k : History) → GivesIfDue r h k → GivesGoOn h k ⊎ (k ≡ h)
given_or_not r h k does = grind (arith, does.given, does.none)

pub goes_on : (h k : History) → GivesGoOn h k ⊎ (k ≡ h) → IsServed h → IsServed k
goes_on h k does x = elim does [
  | inl is ↦ subst IsServed (sym is.is) (gives h is.free is.due x)
  | inr is ↦ subst IsServed (sym is) x
]

-- as much waits as before
pub goes_on_within : (h k : History) (most : ℕ) → GivesGoOn h k ⊎ (k ≡ h) → length h.waiting < most → length k.waiting < most
goes_on_within h k most does within = grind arith

-- nothing was read, yielded or answered
pub goes_on_quiet : (h k : History) → GivesGoOn h k ⊎ (k ≡ h) → IsQuiet h k
goes_on_quiet h k does = grind arith

-- One write.

-- no byte waits, where none is to be written
pub nothing_pending : (bytes : List ℕ) (wants : Bool) → (bytes ≢ [] → IsTrue wants) → wants ≡ false → bytes ≡ []
nothing_pending [] wants some is = refl
nothing_pending (byte ∷ bytes) wants some is = let is_true = some (λ e. cc) in cc

module _ {E : Type 0} {h k : History} {held holds : Option (List ℕ)} where
  pub sends_if : (result : Result ℕ E) → Sends held holds result h k → IsServed h → IsServed k
  sends_if result did x = grind (arith, sends)

  pub sends_within : (result : Result ℕ E) (most : ℕ) → Sends held holds result h k → length h.waiting < most → length k.waiting < most
  sends_within result most did within = grind arith

  -- nothing was received
  pub sends_received : (result : Result ℕ E) → Sends held holds result h k → k.received ≡ h.received
  sends_received result did = grind arith

  -- what was yielded was written
  pub sends_on : (result : Result ℕ E) (first : Option (List ℕ)) → Sends held holds result h k → Appends first held h.sent
      → Appends first holds k.sent
  sends_on result first did x = grind (arith, appends_more, appends_before)

-- One read.

kept_within : (stage : Stage) (bytes : List ℕ) → length (kept stage bytes) ≤ length bytes
kept_within stage bytes = grind arith

-- bytes that were read, and then none
consumes_before : (a b c : Option (List ℕ)) (xs : List ℕ) → Consumes a b xs → Keeps b c → Consumes a c xs
consumes_before a b c xs x y = grind arith

module _ {E : Type 0} {h k : History} {remains remaining : Option (List ℕ)} {room : ℕ} where
  pub receives_if : (result : Result ℕ E) → Receives remains remaining room result h k → IsServed h → IsServed k
  receives_if result did x = grind (arith, receives)

  pub receives_within : (result : Result ℕ E) (most before : ℕ) → Receives remains remaining room result h k → room ≤ most
      → length h.waiting < before → length h.waiting < before + most → length k.waiting < before + most
  receives_within result most before did small wants within = grind (arith, kept_within, length-append)

  -- nothing was yielded
  pub receives_sent : (result : Result ℕ E) → Receives remains remaining room result h k → k.sent ≡ h.sent
  receives_sent result did = grind arith

  -- what was received was read
  pub receives_on : (result : Result ℕ E) (first : Option (List ℕ)) → Receives remains remaining room result h k
      → Consumes first remains h.received → Consumes first remaining k.received
  receives_on result first did x = grind (arith, consumes_more, consumes_before)
