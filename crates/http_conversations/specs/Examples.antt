-- A worked conversation, computed. Letters stand for messages, and digits for their pages; `c` closes. And why the store failed
-- at a message without a head.
use Rattle.std.specs.Prelude.{◌≡◌, ◌++◌, ℕ, true, false, List, [], ◌∷◌, Option, None, codes, refl}
use Rattle.std.proofs.Common.{inl}
use Rattle.ledger.specs.Answer.{State, start}
use Rattle.saga_core.specs.Runs.{Asks}
use Rattle.desk_http.specs.declared.doors.Door.TheVariants.{Port}
use Rattle.http_conversations.specs.Modes.{Says, unread}
use Rattle.http_conversations.specs.declared.modes.Layout.TheVariants as layout
use Rattle.http_conversations.specs.declared.modes.Mode.TheVariants.{Strict}
use Rattle.http_conversations.specs.Worlds.{Exchange}
use Rattle.http_conversations.specs.Exchanges.{bytes_of, pages_of}
use Rattle.http_conversations.specs.History.{History, after_answer, after_loss, after_received, after_sent, new_history}
use Rattle.http_conversations.specs.Reasons.{EndsFor, FailsAtLast, Meant, MayGoOn, asks_of}
use Rattle.http_conversations.specs.ServeReasons.{HasServed}

-- `ac` came in one read, and `a` got the page `12`, one byte of which was yielded
abbrev pub answered_once : History
answered_once = after_sent (after_answer (after_received (new_history Port Strict) (codes "ac")) 1 (codes "12") false false) 1

pub other_byte_waits : answered_once.pending ≡ codes "2"
other_byte_waits = refl

pub other_message_waits : answered_once.waiting ≡ codes "c"
other_message_waits = refl

-- then `c` got the page `3`, which closes, and `d` came
abbrev pub closed : History
closed = after_received (after_answer (after_sent answered_once 1) 1 (codes "3") true false) (codes "d")

pub what_comes_then_is_forgotten : closed.waiting ≡ []
what_comes_then_is_forgotten = refl

pub all_that_came : closed.received ≡ codes "acd"
all_that_came = refl

pub messages_that_were_answered : bytes_of closed.exchanges ≡ codes "ac"
messages_that_were_answered = refl

pub their_pages : pages_of closed.exchanges ≡ codes "123"
their_pages = refl

-- or memory ran out for the page of `c`
abbrev pub page_lost : History
page_lost = after_loss (after_sent answered_once 1) 1

pub pages_without_it : pages_of page_lost.exchanges ≡ codes "12"
pages_without_it = refl

-- a message without a head, whose page was lost; it asks for nothing
module _ (bytes : List ℕ) (says : Says Strict bytes (unread layout.Profile)) where
  abbrev pub without_head : Exchange
  without_head = record { door = Port; mode = Strict; bytes = bytes; went_on = false; page = None }

  abbrev pub no_head : Meant
  no_head = record { exchange = without_head; message = unread layout.Profile; is_message = says }

  pub it_asks_for_nothing : asks_of (no_head ∷ []) ≡ []
  it_asks_for_nothing = refl

  -- out of memory, the book may act on as before
  pub memory_ran_out : (could : State → Asks → Type 0) (reason : State → State → Type 0) → EndsFor could could reason false (without_head ∷ [])
  memory_ran_out could reason = record { meant = no_head ∷ []; asked = inl (no_head, [], refl, refl, refl); ends = λ s later may. (s, inl refl, may) }

  -- the store failed at it, where a step from a state to the same failed for a reason
  pub store_failed : (could can : State → Asks → Type 0) (reason : State → State → Type 0)
      → ((s : State) (later : Asks) → could s later → reason s s) → EndsFor could can reason true (without_head ∷ [])
  store_failed could can reason fails = record {
    meant = no_head ∷ [];
    asked = inl (no_head, [], refl, refl, refl);
    ends = λ s later may. record { before = []; last = no_head; at_last = refl; earlier = []; is_last = refl; at = s; reaches = refl; reason_is = fails s later may };
  }

-- a book that could act for what the messages ask for, on a new desk, failed for a reason at the last of them
pub messages_fail_for_a_reason : (could can : State → Asks → Type 0) (reason : State → State → Type 0) (exchanges : List Exchange)
    (ends : EndsFor could can reason true exchanges) → could start (asks_of ends.meant ++ []) → FailsAtLast reason start exchanges ends.meant
messages_fail_for_a_reason could can reason exchanges ends may = ends.ends start [] may

-- or it may act for what comes later, on a state to which they lead
pub messages_leave_a_book_that_may_act :
    (could can : State → Asks → Type 0) (reason : State → State → Type 0) (exchanges : List Exchange) (later : Asks)
    (ends : EndsFor could can reason false exchanges) → could start (asks_of ends.meant ++ later) → MayGoOn can reason false start exchanges ends.meant later
messages_leave_a_book_that_may_act could can reason exchanges later ends may = ends.ends start later may

-- so it is of one reader and writer: a book that could act for what the messages ask for failed for a reason since it began
pub serving_failed_for_a_reason :
    {B : Type 0} (is_sound : B → Type 0) (may : B → B → State → Asks → Type 0) (reason : B → B → State → State → Type 0) (old new : B)
    (remains remaining : Option (List ℕ)) (h : History) (x : HasServed is_sound may reason remains remaining old new true h) (sound : is_sound new)
    → may old old start (asks_of (x.reasons sound old).meant ++ [])
    → FailsAtLast (reason old new) start h.exchanges (x.reasons sound old).meant
serving_failed_for_a_reason is_sound may reason old new remains remaining h x sound may_act = (x.reasons sound old).ends start [] may_act
