-- What each step of a conversation keeps true.
use Rattle.std.proofs.Common.{◌≡◌, ℕ, ◌+◌, ◌<◌, ◌≤◌, Bool, true, false, if◌then◌else◌, List, [], ◌∷◌, ◌++◌, length, length-append, length-drop, take, drop, All, Some, None, Result, Ok, OnErr, IsSome, refl, sym, ap, ◌∙◌, subst, append_assoc, append-nil, arith}
use Rattle.std.proofs.lemmas.List.{take-append-drop}
use Rattle.std.proofs.Math.Seq.{drop-append_seam, drop-length}
use Rattle.std.proofs.lemmas.List.Elements.{All-append, All-nil}
use Rattle.std.proofs.lemmas.Grind.{flat_map-append, common_steps}
use Rattle.commands.specs.declared.replies.Fault.{Fault}
use Rattle.desk_http.specs.Pages.{closes, stops}
use Rattle.desk_http.specs.declared.doors.Door.{Door}
use Rattle.http_conversations.specs.Reading.{IsDueBy}
use Rattle.http_conversations.specs.Modes.{Said, Says}
use Rattle.http_conversations.specs.declared.modes.Mode.{Mode}
use Rattle.http_conversations.specs.declared.conversation.Stage.{Stage}
use Rattle.http_conversations.specs.declared.conversation.Stage.TheVariants.{Open, Closing, Failed}
use Rattle.http_conversations.specs.Worlds.{Exchange}
use Rattle.http_conversations.specs.Exchanges.{AreAnswered, EndWithStop, IsAnswered, IsAt, IsBy, IsNoStop, StopAtLast, answer_of, bytes_of, pages_of, since}
use Rattle.http_conversations.specs.Answering.{LeavesTaken}
use Rattle.http_conversations.specs.History.{AnswersOne, History, IsServed, Passes, TakesFirst, after_answer, after_failure, after_go_on, after_loss, after_received, after_sent, exchange, kept, new_history, stops_by}

-- Nothing was done yet.
pub begins : (door : Door) (mode : Mode) → IsServed (new_history door mode)
begins door mode = record {
  rest = [];
  received = refl;
  waits = refl;
  answered = All-nil (IsAnswered false);
  at_door = All-nil (IsAt door);
  in_mode = All-nil (IsBy mode);
  stopping = λ is. cc;
  sent = refl;
}

-- Bytes were read.

keeps_more : (stage : Stage) (waiting rest more : List ℕ) → waiting ≡ kept stage rest → kept stage (waiting ++ more) ≡ kept stage (rest ++ more)
keeps_more stage waiting rest more is = grind arith

pub receives : (h : History) (more : List ℕ) → IsServed h → IsServed (after_received h more)
receives h more x = grind (arith, append_assoc, keeps_more)

-- Bytes were yielded.
pub sends : (h : History) (count : ℕ) → IsServed h → IsServed (after_sent h count)
sends h count x = grind (arith, append_assoc, take-append-drop)

-- A message got its page.

one : (P : Exchange → Type 0) (x : Exchange) → P x → All P (x ∷ [])
one P x is k d within = grind arith

module _ (h : History) (is_open : h.stage ≡ Open) (x : IsServed h) where
  -- all that was not taken waits
  waits_all : h.waiting ≡ x.rest
  waits_all = x.waits ∙ ap (λ s. kept s x.rest) is_open

  -- all messages so far have pages, and none closes
  all_open : All (IsAnswered false) h.exchanges
  all_open = subst (λ s. AreAnswered s h.exchanges) is_open x.answered

  -- all messages came in at the door, with one more
  all_at_door : (e : Exchange) → e.door ≡ h.door → All (IsAt h.door) (h.exchanges ++ e ∷ [])
  all_at_door e is = All-append (IsAt h.door) h.exchanges (e ∷ []) x.at_door (one (IsAt h.door) e is)

  -- all were read in that mode, with one more
  all_in_mode : (e : Exchange) → e.mode ≡ h.mode → All (IsBy h.mode) (h.exchanges ++ e ∷ [])
  all_in_mode e is = All-append (IsBy h.mode) h.exchanges (e ∷ []) x.in_mode (one (IsBy h.mode) e is)

  -- the message is the first of what was not taken
  taken : (count : ℕ) (e : Exchange) → e.bytes ≡ take count h.waiting
      → h.received ≡ bytes_of (h.exchanges ++ e ∷ []) ++ drop count h.waiting
  taken count e is = grind (arith, waits_all, common_steps, take-append-drop, flat_map-append)

  -- the pages with one more
  pages_with : (e : Exchange) → pages_of (h.exchanges ++ e ∷ []) ++ [] ≡ pages_of h.exchanges ++ answer_of e
  pages_with e = grind (arith, append-nil, flat_map-append)

  -- its page waits behind what was yielded
  paged : (count : ℕ) (page : List ℕ) → h.pending ≡ []
      → h.sent ++ page ≡ pages_of (h.exchanges ++ exchange h count (Some page) ∷ []) ++ []
  paged count page free = grind (arith, append-nil, append_assoc, pages_with)

  -- a page that was lost is none
  unpaged : (count : ℕ) → h.sent ++ h.pending ≡ pages_of (h.exchanges ++ exchange h count None ∷ []) ++ []
  unpaged count = grind (arith, append-nil, pages_with)

  -- where the message asks the desk to stop, it is the last
  asked_last : (count : ℕ) (m : Said) (page : List ℕ) → Says h.mode (take count h.waiting) m → stops h.door m.meant ≡ true
      → EndWithStop (h.exchanges ++ exchange h count (Some page) ∷ [])
  asked_last count m page is asked = grind arith

  -- the page closes, or does not
  answered : (c : Bool) (e : Exchange) → IsAnswered c e → AreAnswered (if c then Closing else Open) (h.exchanges ++ e ∷ [])
  answered false e is = All-append (IsAnswered false) h.exchanges (e ∷ []) all_open (one (IsAnswered false) e is)
  answered true e is = (h.exchanges, e, refl, all_open, is)

  waits_then : (c : Bool) (bytes : List ℕ) → (if c then [] else bytes) ≡ kept (if c then Closing else Open) bytes
  waits_then c bytes = grind arith

  gets : (count : ℕ) (m : Said) (page : List ℕ) → Says h.mode (take count h.waiting) m → h.pending ≡ []
      → IsServed (after_answer h count page (closes h.door m.meant) (stops h.door m.meant))
  gets count m page is free = grind (arith, taken, waits_then, answered, all_at_door, all_in_mode, asked_last, paged)

  loses : (count : ℕ) (m : Said) → Says h.mode (take count h.waiting) m → IsServed (after_loss h count)
  loses count m is =
      let e = exchange h count None in record {
        rest = drop count h.waiting;
        received = taken count e refl;
        waits = refl;
        answered = (h.exchanges, e ∷ [], refl, all_open, record { message = m; is_message = is; has_none = refl });
        at_door = all_at_door e refl;
        in_mode = all_in_mode e refl;
        stopping = λ is. cc;
        sent = unpaged count;
      }

  fails : IsServed (after_failure h)
  fails = record {
    rest = x.rest;
    received = x.received;
    waits = refl;
    answered = (h.exchanges, [], sym (append-nil h.exchanges), all_open, tt);
    at_door = x.at_door;
    in_mode = x.in_mode;
    stopping = λ is. cc;
    sent = x.sent;
  }

-- The first message was taken, or not.
pub takes : (r : Result Bool Fault) (h k : History) → TakesFirst r h k → IsServed h → IsServed k
takes r h k t x = grind (arith, gets, loses, fails)

-- what is left of a list is no longer
moved_within : (bytes : List ℕ) (count : ℕ) (c : Bool) → length (if c then [] else drop count bytes) ≤ length bytes
moved_within bytes count c = grind (arith, length-drop)

-- no more waits than before
pub takes_within : (r : Result Bool Fault) (h k : History) (most : ℕ) → TakesFirst r h k → length h.waiting < most → length k.waiting < most
takes_within r h k most t within = grind (arith, moved_within)

-- nothing was read or yielded, at the same door and in the same mode
takes_passes : (r : Result Bool Fault) (h k : History) → TakesFirst r h k → Passes h k
takes_passes r h k t = grind arith

-- one message got its page
takes_one : (r : Result Bool Fault) (h k : History) → TakesFirst r h k → r ≡ Ok true → AnswersOne h k
takes_one r h k t is = grind (arith, one)

-- at most one message was taken
pub takes_at_most_one : (r : Result Bool Fault) (h k : History) → TakesFirst r h k → length k.exchanges ≤ length h.exchanges + 1
takes_at_most_one r h k t = grind (arith, length-append)

-- at a fault the conversation has failed
takes_fault : (r : Result Bool Fault) (h k : History) → TakesFirst r h k → OnErr r (k.stage ≡ Failed)
takes_fault r h k t = grind arith

pub takes_leaves : (r : Result Bool Fault) (h k : History) → TakesFirst r h k → LeavesTaken r h k
takes_leaves r h k t = record { passes = takes_passes r h k t; one = takes_one r h k t; fault = takes_fault r h k t }

-- 100 Continue was given, or not.

-- in strict mode it never is, and else once
not_given : (mode : Mode) (bytes : List ℕ) (given : Bool) → IsDueBy mode bytes given → given ≡ false
not_given mode bytes given due = grind arith

pub gives : (h : History) → h.pending ≡ [] → IsDueBy h.mode h.waiting h.went_on → IsServed h → IsServed (after_go_on h)
gives h free due x = grind (arith, answered, append-nil, not_given)

-- What stops the desk.

pub since_more : (xs ys zs : List Exchange) → ys ≡ xs ++ zs → since xs ys ≡ zs
since_more xs ys zs more = ap (λ t. drop (length xs) t) more ∙ drop-append_seam xs zs

-- nothing was added
pub since_none : (xs ys : List Exchange) → ys ≡ xs → since xs ys ≡ []
since_none xs ys same = ap (λ t. drop (length xs) t) same ∙ drop-length xs

pub no_stop : (xs ys : List Exchange) → ys ≡ xs → StopAtLast false (since xs ys)
no_stop xs ys same = grind (arith, drop-length)

-- one message got its page
one_stop : (stop : Bool) (e : Exchange) (m : Said) → Says e.mode e.bytes m → IsSome e.page → stops e.door m.meant ≡ stop
    → StopAtLast stop (e ∷ [])
one_stop true e m is page asked =
    ([], e, refl, All-nil IsNoStop, record { message = m; is_message = is; asked = asked; has_page = page })
one_stop false e m is page asked = grind (arith, one)

pub takes_stopping : (r : Result Bool Fault) (h k : History) → TakesFirst r h k
    → StopAtLast (stops_by r k) (since h.exchanges k.exchanges)
takes_stopping r h k t = grind (arith, since_more, one_stop, no_stop, one)
