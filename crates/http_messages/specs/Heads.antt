-- The heads of requests, by the grammar of httparse, and what the desk asks of one.
use Rattle.std.specs.Prelude.{ℕ, ◌≤◌, ◌==◌, ◌&&◌, ◌||◌, not, Bool, true, false, List, [], ◌∷◌, ◌++◌, map, filter, length, nat_le, bytes_eq, codes, Option, Some, None, option_and_then}
use Rattle.std.specs.List.{list_all, list_any}
use Rattle.std.specs.Str.{str_eq_ignore_ascii_case}
use Rattle.std.specs.Str.Parse.{digits_value}
use Rattle.httparse.specs.Grammar.{RequestHead, ReadsRequest}
use Rattle.httparse.specs.Spans.{name_and_value}
use Rattle.allotment.specs.Limits.{is_between, is_digit}
use Rattle.allotment.specs.Making.{unless}
use Rattle.allotment.specs.Texts.{keep_if}
use Rattle.commands.specs.Limits.{most_bytes}
use Rattle.commands.specs.Names.{is_agent, is_key}
use Rattle.commands.specs.declared.replies.Refusal.{Refusal}
use Rattle.commands.specs.declared.replies.Refusal.TheVariants as refusal

-- how many bytes a head may have
abbrev pub most_head_bytes : ℕ
most_head_bytes = 8192

-- how many fields a head may have
abbrev pub most_fields : ℕ
most_fields = 32

-- the text is this head, whole and within the limits
pub record IsHead (text : List ℕ) (h : RequestHead) : Type 0 where
  pub reads : ReadsRequest text h []
  pub short : length text ≤ most_head_bytes
  pub few : length h.fields ≤ most_fields

-- the text is no head within the limits
abbrev pub IsNoHead : List ℕ → Type 0
IsNoHead text = (h : RequestHead) → ¬ (IsHead text h)

-- a field: its name, and its value without the blanks and tabs at its ends
abbrev pub Named : Type 0
Named = List ℕ × List ℕ

-- what counts of a head: method, target, minor version, and the fields
pub record Parts : Type 0 where
  pub method : List ℕ
  pub target : List ℕ
  pub minor : ℕ
  pub fields : List Named

-- the parts of a head of the grammar
abbrev pub parts_of : RequestHead → Parts
parts_of h =
    record { method = h.method; target = h.target; minor = h.minor; fields = map name_and_value h.fields }

-- the two texts are the same but for the case of ASCII letters
abbrev pub is_alike : List ℕ → List ℕ → Bool
is_alike text other = str_eq_ignore_ascii_case text other

-- the values of the fields of this name, in any case
abbrev pub values_named : List ℕ → List Named → List (List ℕ)
values_named name fields = map (λ f. f.1) (filter (λ f. is_alike f.0 name) fields)

-- the method is this one; a method in small letters is another
abbrev pub is_method : List ℕ → Parts → Bool
is_method name parts = bytes_eq parts.method name

-- the values of the length
abbrev pub lengths : Parts → List (List ℕ)
lengths parts = values_named (codes "content-length") parts.fields

-- one to nine digits
abbrev pub is_length : List ℕ → Bool
is_length text = is_between 1 9 (length text) && list_all is_digit text

-- there is no length, or one, and that is one to nine digits
abbrev pub are_lengths : List (List ℕ) → Bool
are_lengths [] = true
are_lengths (text ∷ []) = is_length text
are_lengths (text ∷ other ∷ later) = false

-- the length that is given, or 0 where none is given
abbrev pub length_in : List (List ℕ) → ℕ
length_in [] = 0
length_in (text ∷ later) = digits_value 10 text

-- a head of HTTP/1.1 with one host, no transfer encoding, and at most one length
abbrev pub is_plain : Parts → Bool
is_plain parts =
    (parts.minor == 1)
    && (length (values_named (codes "host") parts.fields) == 1)
    && (length (values_named (codes "transfer-encoding") parts.fields) == 0)
    && are_lengths (lengths parts)

-- a POST gives a length
abbrev pub tells_length : Parts → Bool
tells_length parts = not (is_method (codes "POST") parts) || (length (lengths parts) == 1)

-- what a head is refused for, in the order in which it is reported
abbrev pub head_refusals : Parts → List Refusal
head_refusals parts =
    unless (is_plain parts) refusal.BadHead
    ++ unless (nat_le (length_in (lengths parts)) most_bytes) refusal.TooLarge
    ++ unless (tells_length parts) refusal.NoLength

-- the first of a list, if it has any
abbrev pub first_of : {X : Type 0} → List X → Option X
first_of [] = None
first_of (x ∷ later) = Some x

-- the refusal that a head gets, if it gets one
abbrev pub complaint_of : Parts → Option Refusal
complaint_of parts = first_of (head_refusals parts)

-- so many, unless there is a complaint
abbrev pub length_unless : Option Refusal → ℕ → ℕ
length_unless None n = n
length_unless (Some r) n = 0

-- how long the body is: none belongs to a head that is refused
abbrev pub body_length : Parts → ℕ
body_length parts = length_unless (complaint_of parts) (length_in (lengths parts))

-- some field `Connection` says `close`, in any case
abbrev pub asks_to_close : Parts → Bool
asks_to_close parts =
    list_any (λ value. is_alike value (codes "close")) (values_named (codes "connection") parts.fields)

-- the one of a list that has no other
abbrev pub the_one : {X : Type 0} → List X → Option X
the_one [] = None
the_one (x ∷ []) = Some x
the_one (x ∷ y ∷ later) = None

-- the one of a list of texts that has no other, or the empty text
abbrev pub the_text : List (List ℕ) → List ℕ
the_text [] = []
the_text (text ∷ []) = text
the_text (text ∷ other ∷ later) = []

-- the host: the value of the one field `Host`; empty where there is none, or more than one
abbrev pub host_of : Parts → List ℕ
host_of parts = the_text (values_named (codes "host") parts.fields)

-- the agent that a head names: the value of the one field `Desk-Agent`, where it is good
abbrev pub named_agent : Parts → Option (List ℕ)
named_agent parts = option_and_then (keep_if is_agent) (the_one (values_named (codes "desk-agent") parts.fields))

-- the agents whom a request is meant for, as fields `Desk-For` name them
abbrev pub meant_agents : Parts → List (List ℕ)
meant_agents parts = values_named (codes "desk-for") parts.fields

-- a request is meant for an agent: these name nobody, or this agent once
abbrev pub is_meant : List (List ℕ) → List ℕ → Bool
is_meant [] agent = true
is_meant (text ∷ []) agent = bytes_eq text agent
is_meant (text ∷ other ∷ later) agent = false

-- who asks: the agent that a head names, where the request is meant for that agent
abbrev pub agent_of : Parts → Option (List ℕ)
agent_of parts = option_and_then (keep_if (is_meant (meant_agents parts))) (named_agent parts)

-- nobody is named: there is no field `Desk-Agent`, and no field `Desk-For`
abbrev pub is_unnamed : Parts → Bool
is_unnamed parts = (length (values_named (codes "desk-agent") parts.fields) == 0) && (length (meant_agents parts) == 0)

-- the key: the value of the one field `Desk-Key`, where it is good
abbrev pub key_of : Parts → Option (List ℕ)
key_of parts = option_and_then (keep_if is_key) (the_one (values_named (codes "desk-key") parts.fields))
