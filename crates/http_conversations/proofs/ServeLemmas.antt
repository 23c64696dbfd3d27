-- Serving answers one message after another, until a closing page, the end of the input or a fault. For serve.
use Rattle.std.proofs.Common.{◌≡◌, ◌∙◌, ap, sym, subst, ◌+◌, List, [], ◌∷◌, ◌++◌, ℕ, Bool, true, false, if◌then◌else◌, length, take, append-nil, length-append, Option, Some, IfSome, Result, IfOk, IfErr, arith}
use Rattle.std.specs.List.{concat}
use Rattle.std.specs.Io.KnownBytes.{Appends}
use Rattle.std.proofs.Math.Seq.{take-add}
use Rattle.std.proofs.lemmas.List.{drop-drop, take-append-drop}
use Rattle.ledger.specs.Answer.{State}
use Rattle.http_messages.specs.Messages.{Message}
use Rattle.saga_core.proofs.ByteLemmas.{appends_more, appends_none, keeps_same}
use Rattle.saga_core.specs.StreamFaults.{IsOfReading}
use Rattle.saga_core.specs.StreamScenes.{Scene, Wrote, scene}
use Rattle.saga_core.specs.declared.serve_faults.ServeFault.{ServeFault}
use Rattle.saga_core.specs.declared.serve_faults.ServeFault.TheVariants.{Write}
use Rattle.desk_http.specs.Pages.{IsPage, closes, state_after, state_after_all, stays_open}
use Rattle.desk_http.specs.Serving.{Answered, ServesAll, ServesSome}
use Rattle.desk_http.specs.declared.doors.Door.TheVariants.{Port}
use Rattle.desk_http.proofs.ServeLemmas.{after_more, begins_more, concat_more, open_more, pages_more}
use Rattle.http_conversations.specs.History.{History, after_sent}
use Rattle.http_conversations.specs.ServeReasons.{ServesTo}
use Rattle.http_conversations.specs.Serving.{FailsAt, FindsNone, GetsNext, HandsOut, to_come}
use Rattle.http_conversations.specs.declared.serving.Served.{Served}
use Rattle.http_conversations.specs.declared.conversation.Stage.{Stage}
use Rattle.http_conversations.specs.declared.conversation.Stage.TheVariants.{Open, Closing}

-- so many messages were answered, of which none closes, and the others are in the rest of the input
pub record SoFar (x : Scene) (s : State) (input : List ℕ) (left : Option (List ℕ)) (count : ℕ) : Type 0 where
  pub messages : List Message
  pub rest : List ℕ
  pub pages : List (List ℕ)
  pub left_is : left ≡ Some rest
  pub answered : Answered s input messages rest pages
  pub stays : stays_open messages ≡ true
  pub sent : Wrote x (concat pages)
  pub stands : x.stands (state_after_all s messages)
  pub counted : count ≡ length pages

-- at first, no message was answered
pub starts : (held : Option (List ℕ)) (stands : State → Type 0) (leaves : State → State → Type 0)
    (s : State) (input : List ℕ) (h : History) (known : Option (List ℕ)) → h.waiting ≡ [] → known ≡ Some input
    → stands s → SoFar (scene held held stands leaves) s input (to_come h known) 0
starts held stands leaves s input h known nothing is stood = grind (arith, appends_none, keeps_same)

-- a fault came between two messages
pub stops : {x : Scene} {s : State} {input : List ℕ} {left : Option (List ℕ)} {count : ℕ} (fault : ServeFault)
    (so_far : SoFar x s input left count) → IsOfReading fault → ServesSome x s input fault
stops fault so_far reads = grind arith

-- what serving came to, where no fault came, and where one did
module _ (x : Scene) (s : State) (known : Option (List ℕ)) (r : Result Served ServeFault) (to : IfSome known (λ input. ServesTo x s input r)) where
  pub all_of : IfSome known (λ input. IfOk r (λ served. ServesAll x s input served.pages))
  all_of = grind arith

  pub some_of : IfSome known (λ input. IfErr r (ServesSome x s input))
  some_of = grind arith

-- what is said of the stream is true of the rest of the input
pub rest_is : {x : Scene} {s : State} {input : List ℕ} {left : Option (List ℕ)} {count : ℕ} (so_far : SoFar x s input left count)
    (So : List ℕ → Type 0) → IfSome left So → So so_far.rest
rest_is so_far So said = subst (λ known. IfSome known So) so_far.left_is said

-- where no byte of the page waits, all of it was written
wrote_all : {b c : Option (List ℕ)} {h k : History} → HandsOut b c h k → k.pending ≡ [] → Appends b c h.pending
wrote_all {b = b} {c = c} {h = h} x none =
    subst (Appends b c)
    (sym (append-nil (take x.part h.pending)) ∙ ap (λ t. take x.part h.pending ++ t) (sym (sym x.pending ∙ none))
    ∙ take-append-drop x.part h.pending) x.wrote

module _ {held holds : Option (List ℕ)} {stands0 stands1 : State → Type 0} {leaves0 leaves1 : State → State → Type 0}
    {sound : Type 0} {s : State} {input : List ℕ} {left : Option (List ℕ)} {count : ℕ}
    (so_far : SoFar (scene held holds stands0 leaves0) s input left count) (is_sound : sound) where
  -- where there is no further message, all messages were answered
  pub all_answered : FindsNone sound stands0 stands1 leaves1 so_far.rest
      → ServesAll (scene held holds stands1 leaves1) s input count
  all_answered found = grind (arith, found.kept)

  -- a fault came at the next message
  pub answer_fails : (fault : ServeFault)
      → (sound → (t : State) → stands0 t → FailsAt sound stands0 stands1 leaves1 so_far.rest t fault)
      → ServesSome (scene held holds stands1 leaves1) s input fault
  answer_fails fault fails = grind (arith, fails)

  module _ {remaining : Option (List ℕ)} {h : History} (next : GetsNext sound stands0 stands1 leaves1 so_far.rest remaining h) where
    -- the page of the next message, and the state after it
    next_page : IsPage Port (state_after_all s so_far.messages) next.message h.pending
        × stands1 (state_after Port (state_after_all s so_far.messages) next.message)
    next_page = next.page is_sound (state_after_all s so_far.messages) so_far.stands

    -- the page was written in part
    pub write_fails : {now : Option (List ℕ)} {k : History} → HandsOut holds now h k
        → ServesSome (scene held now stands1 leaves1) s input Write
    write_fails cut = grind (arith, appends_more)

    -- one more message was answered
    more_answered : Answered s input (so_far.messages ++ next.message ∷ []) next.rest (so_far.pages ++ h.pending ∷ [])
    more_answered = grind (arith, begins_more, pages_more)

    module _ {now : Option (List ℕ)} {k : History} (out : HandsOut holds now h k) (none : k.pending ≡ []) where
      -- and its page was written
      more_sent : Appends held now (concat (so_far.pages ++ h.pending ∷ []))
      more_sent = grind (arith, concat_more, appends_more, wrote_all out none)

      more_stands : stands1 (state_after_all s (so_far.messages ++ next.message ∷ []))
      more_stands = subst stands1 (sym (after_more s so_far.messages next.message)) next_page.1

      more_counted : count + 1 ≡ length (so_far.pages ++ h.pending ∷ [])
      more_counted = ap (λ n. n + 1) so_far.counted ∙ sym (length-append so_far.pages (h.pending ∷ []))

      -- the page closes, and was the last
      pub closes_all : closes Port next.message ≡ true → ServesAll (scene held now stands1 leaves1) s input (count + 1)
      closes_all last = grind (arith, more_answered, more_sent, more_counted, more_stands)

      -- the page does not close, and more messages may follow
      pub stays_on : closes Port next.message ≡ false → h.stage ≡ Open
          → SoFar (scene held now stands1 leaves1) s input (to_come k remaining) (count + 1)
      stays_on other is_open = grind (arith, more_answered, open_more, more_sent, more_stands, more_counted)

-- Whether a conversation is open says whether the page closes.

pub closing_of : (c : Bool) (stage : Stage) → stage ≡ (if c then Closing else Open) → ¬ (stage ≡ Open) → c ≡ true
closing_of c stage is other = grind (arith, other)

pub open_of : (c : Bool) (stage : Stage) → stage ≡ (if c then Closing else Open) → stage ≡ Open → c ≡ false
open_of c stage is same = grind arith

-- Writing a page.

pub hands_none : {held : Option (List ℕ)} {h : History} → HandsOut held held h h
hands_none = grind (arith, appends_none, keeps_same)

-- once more
pub hands_then : {a b c : Option (List ℕ)} {h k j : History} → HandsOut a b h k → HandsOut b c k j → HandsOut a c h j
hands_then x y = grind (arith, take-add, appends_more, drop-drop)

-- by one call
pub hands_more : {a b c : Option (List ℕ)} {h k j : History} (count : ℕ) → HandsOut a b h k
    → (j ≡ after_sent k count) × Appends b c (take count k.pending) → HandsOut a c h j
hands_more count x sent = grind (arith, hands_then)
