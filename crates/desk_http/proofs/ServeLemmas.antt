-- Messages and their pages, with one more message. For who answers one message after another.
use Rattle.std.proofs.Common.{◌≡◌, ◌∙◌, ap, sym, subst, refl, List, [], ◌∷◌, ◌++◌, ℕ, Bool, true, false, if◌then◌else◌, append_assoc, append-nil}
use Rattle.std.specs.List.{concat}
use Rattle.ledger.specs.Answer.{State}
use Rattle.http_messages.specs.Messages as sent
use Rattle.http_messages.specs.Messages.{BeginsWith, BeginsWithAll}
use Rattle.desk_http.specs.Pages.{ArePages, IsPage, closes, state_after, state_after_all, stays_open}
use Rattle.desk_http.specs.declared.doors.Door.TheVariants.{Port}

pub begins_more : (input stream rest : List ℕ) (ms : List sent.Message) (m : sent.Message)
    → BeginsWithAll input ms stream → BeginsWith stream m rest → BeginsWithAll input (ms ++ m ∷ []) rest
begins_more input stream rest [] m all next = (rest, subst (λ bytes. BeginsWith bytes m rest) (sym all) next, refl)
begins_more input stream rest (first ∷ ms) m all next =
    (all.0, all.1, begins_more all.0 stream rest ms m all.2 next)

pub pages_more : (s : State) (ms : List sent.Message) (m : sent.Message) (ps : List (List ℕ)) (p : List ℕ)
    → ArePages s ms ps → IsPage Port (state_after_all s ms) m p → ArePages s (ms ++ m ∷ []) (ps ++ p ∷ [])
pages_more s [] m [] p are page = (page, refl)
pages_more s [] m (q ∷ ps) p are page = cc
pages_more s (first ∷ ms) m [] p are page = absurd are
pages_more s (first ∷ ms) m (q ∷ ps) p are page = (are.0, pages_more (state_after Port s first) ms m ps p are.1 page)

pub after_more : (s : State) (ms : List sent.Message) (m : sent.Message)
    → state_after_all s (ms ++ m ∷ []) ≡ state_after Port (state_after_all s ms) m
after_more s [] m = refl
after_more s (first ∷ ms) m = after_more (state_after Port s first) ms m

pub open_more : (ms : List sent.Message) (m : sent.Message) → stays_open ms ≡ true → closes Port m ≡ false
    → stays_open (ms ++ m ∷ []) ≡ true
open_more [] m stays other = ap (λ c. if c then false else true) other
open_more (first ∷ ms) m stays other = go (closes Port first) stays (λ more. open_more ms m more other)
  where
    go : (c : Bool) → (if c then false else stays_open ms) ≡ true → (stays_open ms ≡ true → stays_open (ms ++ m ∷ []) ≡ true)
        → (if c then false else stays_open (ms ++ m ∷ [])) ≡ true
    go true stays more = stays
    go false stays more = more stays

pub concat_more : (ps : List (List ℕ)) (p : List ℕ) → concat (ps ++ p ∷ []) ≡ concat ps ++ p
concat_more [] p = append-nil p
concat_more (q ∷ ps) p = ap (λ rest. q ++ rest) (concat_more ps p) ∙ sym (append_assoc q (concat ps) p)
