-- What is shown for the message that is meant, and its page. For shown_for and answer_by.
use Rattle.std.proofs.Common.{◌≡◌, ◌∙◌, ap, ap₂, sym, subst, refl, inr, ℕ, Bool, List, Option, Result, Ok, Err, IfOk, IfErr, if◌then◌else◌, is_some}
use Rattle.commands.specs.declared.replies.Refusal.{Refusal}
use Rattle.ledger.specs.Answer.{State}
use Rattle.http_messages.specs.Heads.{Parts, parts_of}
use Rattle.http_messages.specs.Messages as sent
use Rattle.http_messages.specs.Requests.{IsRequest, IsTaken}
use Rattle.http_messages.specs.declared.requests.Message.TheVariants as message
use Rattle.http_messages.specs.declared.requests.Request.{Request}
use Rattle.http_messages.specs.declared.asked.AskedKind.{AskedKind}
use Rattle.desk_http.specs.Answering.{Answers}
use Rattle.desk_http.specs.Hosts.{refusal_at}
use Rattle.desk_http.specs.Pages.{IsPage, closes}
use Rattle.desk_http.specs.declared.answering.Answer.{Answer}
use Rattle.desk_http.specs.declared.doors.Door.{Door}
use Rattle.saga_core.specs.declared.serve_faults.ServeFault.{ServeFault}
use Rattle.saga_core.specs.declared.serve_faults.ServeFault.TheVariants.{Memory, Read, Store, Write}
use Rattle.http_conversations.specs.Pages.{AnswersAt, IsPageAt, LaysOut, page_for, shown_at, shown_for}
use Rattle.http_conversations.specs.Reading.{IsRead}
use Rattle.http_conversations.specs.Modes.{Said}
use Rattle.http_conversations.specs.declared.modes.Arrived.{Arrived}
use Rattle.http_conversations.specs.declared.showing.Shown.{Shown}
use Rattle.http_conversations.specs.declared.showing.Shown.TheVariants as shown

-- a message that is not read has its page
pub shown_unread : (door : Door) (kind : AskedKind) (m : sent.Message) → IsTaken message.NoHead m → shown.Page ≡ shown_for door kind m
shown_unread door kind sent.NoHead is = refl
shown_unread door kind (sent.Asks h body) is = absurd is

-- what is shown where its head is refused at the door, or is not
shown_unless : Door → AskedKind → Option Refusal → List ℕ → List ℕ → Shown
shown_unless door kind refusal method target = if is_some refusal then page_for kind else shown_at door kind method target

-- what is shown for a request is shown for the message that it was taken from
pub shown_taken : (door : Door) (kind : AskedKind) (r : Request) (m : sent.Message) (refusal : Option Refusal)
    → ((parts : Parts) → (body : List ℕ) → IsRequest r parts body → refusal ≡ refusal_at door parts) → IsTaken (message.Asks r) m
    → (if is_some refusal then page_for kind else shown_at door kind r.method.items r.target.items) ≡ shown_for door kind m
unfolding shown_unless
shown_taken door kind r sent.NoHead refusal by is = absurd is
shown_taken door kind r (sent.Asks h body) refusal by is =
    ap (λ why. shown_unless door kind why r.method.items r.target.items) (by (parts_of h) body is)
    ∙ ap₂ (λ method target. shown_unless door kind (refusal_at door (parts_of h)) method target) is.method is.target

-- the page of the profile, laid out
pub pages_at : (door : Door) (second : Option ℕ) (s : State) (x : Said) (page bytes : List ℕ) (closing : Bool) → IsPage door s x.meant page
    → closing ≡ closes door x.meant → LaysOut door second x closing page bytes → IsPageAt door second s x bytes
pages_at door second s x page bytes closing is same laid = record {
  page = page;
  is_page = is;
  laid = subst (λ c. LaysOut door second x c page bytes) same laid;
}

module _ (stands : State → Type 0) (leaves : State → State → Type 0) (s : State) (door : Door) (second : Option ℕ) (x : Said) where
  -- a fault is one by either
  pub faults_by : (fault : ServeFault) → Answers stands leaves s door x.meant (Err fault)
      → AnswersAt stands leaves s door second x (Err fault)
  faults_by Memory came = came
  faults_by Store came = came
  faults_by Read came = absurd came
  faults_by Write came = absurd came

  -- the page was laid out
  lays_by : (answer made : Answer) → Answers stands leaves s door x.meant (Ok answer) → made.closes ≡ answer.closes
      → LaysOut door second x answer.closes answer.bytes.items made.bytes.items → AnswersAt stands leaves s door second x (Ok made)
  lays_by answer made came same laid =
      ((pages_at door second s x answer.bytes.items made.bytes.items answer.closes came.0.0 came.0.1 laid, same ∙ came.0.1), came.1)

  -- or the message was carried out, and its page lost
  pub laid_by : (answer : Answer) (result : Result Answer ServeFault) → Answers stands leaves s door x.meant (Ok answer)
      → IfOk result (λ made. made.closes ≡ answer.closes)
      → IfOk result (λ made. LaysOut door second x answer.closes answer.bytes.items made.bytes.items)
      → IfErr result (λ fault. fault ≡ Memory) → AnswersAt stands leaves s door second x result
  laid_by answer (Ok made) came same laid memory = lays_by answer made came same laid
  laid_by answer (Err fault) came same laid memory = subst (λ f. AnswersAt stands leaves s door second x (Err f)) (sym memory) (inr came.1)

-- a fact of each message that may be meant
pub meant_by : {X : Type 0} (f : sent.Message → X) (got : Answer → X) (arrived : Arrived) (answer : Answer) (result : Result Answer ServeFault)
    → ((m : sent.Message) → IsTaken arrived.message m → got answer ≡ f m) → IfOk result (λ made. got made ≡ got answer)
    → IfOk result (λ made. (x : Said) → IsRead arrived x → got made ≡ f x.meant)
meant_by f got arrived answer (Ok made) was same = λ x is. same ∙ was x.meant is.message
meant_by f got arrived answer (Err fault) was same = tt
