-- What the line of a request says of it.
use Rattle.std.specs.Prelude.{◌≡◌, ℕ, ◌&&◌, Bool, false, not, List, [], ◌∷◌, bytes_eq, codes, drop, is_some, length, nat_le, slice_range, take, if◌then◌else◌, Option, None, unwrap_or}
use Rattle.std.specs.Char.{is_ascii_digit}
use Rattle.std.specs.List.{before_first}
use Rattle.std.specs.Option.{option_map_or, option_zip}
use Rattle.http_log.specs.Recent.{is_among, Pair}
use Rattle.http_log.specs.declared.forms.LogForm.{LogForm}
use Rattle.http_log.specs.declared.lines.Asked.{Asked}
use Rattle.http_messages.specs.declared.requests.Message.{Message}
use Rattle.http_messages.specs.declared.requests.Message.TheVariants.{NoHead, Asks}
use Rattle.http_messages.specs.declared.requests.Request.{Request}
use Rattle.http_messages.specs.declared.asked.AskedKind.TheVariants.{Head}
use Rattle.http_conversations.specs.declared.modes.Arrived.{Arrived}
use Rattle.http_conversations.specs.declared.modes.Layout.{Layout}
use Rattle.http_conversations.specs.declared.modes.Layout.TheVariants as layout

-- the method of a request as it was sent: HEAD is read as the GET that is meant, with a layout of its own
abbrev pub method_by : Layout → Request → List ℕ
method_by (layout.Wide Head) request = codes "HEAD"
method_by _ request = request.method.items

-- a text of a request; nothing where what came was no head
abbrev pub text_of : (Request → List ℕ) → Message → List ℕ
text_of of NoHead = []
text_of of (Asks request) = of request

-- what the line of a message says: of the message its agent, method, target and key, and of its page what is given
pub record Says (arrived : Arrived) (answer number : List ℕ) (was_kept : Bool) (took : ℕ) (asked : Asked) : Type 0 where
  pub agent : asked.agent.now ≡ text_of (λ r. unwrap_or r.agent []) arrived.message
  pub method : asked.method.now ≡ text_of (method_by arrived.layout) arrived.message
  pub target : asked.target.now ≡ text_of (λ r. r.target.items) arrived.message
  pub status : asked.status.now ≡ answer
  pub key : asked.key.now ≡ text_of (λ r. unwrap_or r.key []) arrived.message
  pub again : asked.again ≡ was_kept
  pub refused : asked.refused.now ≡ number
  pub millis : asked.millis ≡ took

-- a message asks for something to be carried out: it is a POST
abbrev pub is_post : Message → Bool
is_post NoHead = false
is_post (Asks request) = bytes_eq request.method.items (codes "POST")

-- under which agent and key a message asks for something to be carried out, if it does
abbrev pub ask_of : Message → Option (List ℕ × List ℕ)
ask_of NoHead = None
ask_of (Asks request) = if is_post (Asks request) then option_zip request.agent request.key else None

-- the status of a page, which has it in its first line after `HTTP/1.1 `; `?` where there is none
abbrev pub status_of : (page : List ℕ) → List ℕ
status_of page = if nat_le 12 (length page) then slice_range page 9 12 else codes "?"

-- the digits at the front of a text
abbrev pub digits_of : List ℕ → List ℕ
digits_of = before_first (λ byte. not (is_ascii_digit byte))

-- what follows the first place at which a name stands in a text
abbrev pub after_name : (name text : List ℕ) → List ℕ
after_name name [] = []
after_name name (byte ∷ rest) =
    if bytes_eq (take (length name) (byte ∷ rest)) name then drop (length name) (byte ∷ rest) else after_name name rest

-- the number of the refusal that a page reports, in digits: its body has it after this name
abbrev pub refusal_of : (page : List ℕ) → List ℕ
refusal_of page = digits_of (after_name (codes "\"refused\":") page)

-- a log is written, and the agent and key of a message that asks for something are among these
abbrev pub is_again : Option LogForm → List Pair → Message → Bool
is_again form recent message = is_some form && option_map_or (is_among recent) (ask_of message) false
