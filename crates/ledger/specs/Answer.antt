-- The answer of the desk to a request, and the outcome of a request with a key, by the replies that are kept.
use Rattle.std.specs.Prelude.{ℕ, ◌&&◌, Bool, true, List, [], ◌∷◌, ◌++◌, length, nat_le, if◌then◌else◌, Option, Some, None, is_some, option_map, option_and_then, unwrap_or, bytes_eq}
use Rattle.plan.specs.PlanModel.{is_plan}
use Rattle.commands.specs.Asks.{Asked}
pub use Rattle.commands.specs.Limits.{most_events}
use Rattle.commands.specs.Request.{Request, Load, Begin, Step, Abort, Stop, Save}
use Rattle.commands.specs.declared.replies.Refusal.TheVariants.{NoSavePoint, KeyReused, Limit, NoSave}
use Rattle.commands.specs.declared.replies.Reply.{Reply}
use Rattle.commands.specs.declared.replies.Reply.TheVariants as reply
use Rattle.ledger.specs.Ledger.{Event, batches_named, is_batch}
pub use Rattle.ledger.specs.Replies.{Answer, refused, are_same_rows, loaded, answer_known, answer_new, answer_load, answer_begin, sees, seen_journey, compensation, step_choices, abort_choices, stop_choices, save_choices, moved, answer_choices, answer_move}

-- Requests.

-- what the rules answer, whatever the ledger's length
abbrev pub answer_within : List Event → Option (List ℕ) → Request → Answer
answer_within l who (Load name rows) = answer_load l name rows (batches_named l name)
answer_within l who (Begin plan) = answer_begin l who plan
answer_within l who (Step j) =
    answer_move l j step_choices NoSavePoint (seen_journey l who j)
answer_within l who (Abort j p) =
    answer_move l j (abort_choices p) NoSavePoint (seen_journey l who j)
answer_within l who (Stop j) =
    answer_move l j stop_choices NoSavePoint (seen_journey l who j)
answer_within l who (Save j) =
    answer_move l j save_choices NoSave (seen_journey l who j)

-- an answer, except that an answer with an event is a refusal if the ledger is full
abbrev pub limited : List Event → Answer → Answer
limited l a = if is_some a.event && nat_le most_events (length l) then refused Limit else a

-- the answer to a request, of an agent or of the house
abbrev pub answer : List Event → Option (List ℕ) → Request → Answer
answer l who asked = limited l (answer_within l who asked)

-- the request keeps the limits, as each value of the program's types does
abbrev pub is_request : Request → Bool
is_request (Load name rows) = is_batch name rows
is_request (Begin plan) = is_plan plan
is_request _ = true

-- Requests with a key.

-- what is kept under a key: the text of the ask, and the reply to it
pub record KeptReply : Type 0 where
  pub text : List ℕ
  pub reply : Reply

-- the kept replies: what is kept under each agent and key
abbrev pub Kept : Type 0
Kept = List ℕ → List ℕ → Option KeptReply

-- no reply is kept
abbrev pub nothing_kept : Kept
nothing_kept agent key = None

-- these kept replies, and this reply under the agent and the key of this ask
abbrev pub keep : Kept → Asked → Reply → Kept
keep kept ask answered agent key =
    if bytes_eq agent ask.agent && bytes_eq key ask.key
    then Some (record { text = ask.text; reply = answered })
    else kept agent key

-- the state of the desk: its ledger and the kept replies
pub record State : Type 0 where
  pub ledger : List Event
  pub kept : Kept

-- a new desk: no event, and no reply kept
abbrev pub start : State
start = record { ledger = []; kept = nothing_kept }

-- the outcome of a request: a reply, an event if it made one, and the state of the desk after it
pub record Outcome : Type 0 where
  pub reply : Reply
  pub event : Option Event
  pub state : State

-- the kept replies after an event: its reply is kept if there is an ask
abbrev pub kept_after : Kept → Option Asked → Reply → Kept
kept_after kept None answered = kept
kept_after kept (Some ask) answered = keep kept ask answered

-- the state of the desk after an answer: an event is appended to the ledger
abbrev pub state_with : State → Option Asked → Reply → Option Event → State
state_with s ask answered None = s
state_with s ask answered (Some e) =
    record { ledger = s.ledger ++ e ∷ []; kept = kept_after s.kept ask answered }

-- the outcome of a request by its answer
abbrev pub carried_out : State → Option Asked → Answer → Outcome
carried_out s ask a = record {
  reply = a.reply;
  event = a.event;
  state = state_with s ask a.reply a.event;
}

-- the agent who asks; without an ask it is the house
abbrev pub asker : Option Asked → Option (List ℕ)
asker ask = option_map (λ (a : Asked). a.agent) ask

-- what is kept under the agent and the key of an ask
abbrev pub kept_for : State → Option Asked → Option KeptReply
kept_for s ask = option_and_then (λ (a : Asked). s.kept a.agent a.key) ask

-- the text of an ask
abbrev pub text_of : Option Asked → List ℕ
text_of ask = unwrap_or (option_map (λ (a : Asked). a.text) ask) []

-- a known key gets its kept reply if the text is the same, and nothing changes: requests are idempotent
abbrev pub answered_again : State → List ℕ → KeptReply → Outcome
answered_again s text k = record {
  reply = if bytes_eq k.text text then k.reply else reply.Refused KeyReused;
  event = None;
  state = s;
}

-- the outcome of a request, by what is kept under its key
abbrev pub outcome_for : State → Option Asked → Request → Option KeptReply → Outcome
outcome_for s ask asked (Some k) = answered_again s (text_of ask) k
outcome_for s ask asked None = carried_out s ask (answer s.ledger (asker ask) asked)

-- the outcome of a request: a known key gets its kept reply, any other request is executed
abbrev pub outcome : State → Option Asked → Request → Outcome
outcome s ask asked = outcome_for s ask asked (kept_for s ask)
