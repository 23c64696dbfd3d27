-- The request of the desk's profile for which a request as libraries and proxies write it stands.
use Rattle.std.specs.Prelude.{◌≡◌, ℕ, ◌-◌, ◌==◌, ◌&&◌, ◌||◌, not, Bool, true, false, List, [], ◌∷◌, ◌++◌, map, length, take, drop, nat_lt, bytes_eq, codes, slice_index, slice_range, if◌then◌else◌, Option, None, option_and_then, unwrap_or}
use Rattle.std.specs.List.{list_all, list_any, position}
use Rattle.std.specs.Char.{is_ascii_hexdigit}
use Rattle.http1.specs.Text.{numeral}
use Rattle.allotment.specs.Texts.{keep_if}
use Rattle.commands.specs.Names.{is_key}
use Rattle.http_messages.specs.Heads.{Named, Parts, agent_of, host_of, is_alike, is_unnamed, meant_agents, the_one, values_named}
use Rattle.http_messages.specs.declared.requests.Request.{Request}
use Rattle.http_messages.specs.Wide.{ends_after}

-- Methods.

-- HEAD asks for the page of GET, which goes out without its body
abbrev pub plain_method : List ℕ → List ℕ
plain_method method = if bytes_eq method (codes "HEAD") then codes "GET" else method

-- Targets (RFC 9112, section 3.2).

-- the text begins with a slash
abbrev pub is_path : List ℕ → Bool
is_path text = nat_lt 0 (length text) && (slice_index text 0 == 47)

-- a slash, a question mark or a number sign ends an authority (RFC 3986, section 3.2)
abbrev pub ends_authority : ℕ → Bool
ends_authority byte = byte == 47 || byte == 63 || byte == 35

-- how many bytes the authority has with which a text begins
abbrev pub authority_length : List ℕ → ℕ
authority_length text = unwrap_or (position ends_authority text) (length text)

-- what follows the scheme of a target in absolute form
abbrev pub after_scheme : List ℕ → List ℕ
after_scheme target = drop 7 target

-- the host that a target in absolute form names, with its port
abbrev pub authority_of : List ℕ → List ℕ
authority_of target = take (authority_length (after_scheme target)) (after_scheme target)

-- what follows the host
abbrev pub after_authority : List ℕ → List ℕ
after_authority target = drop (authority_length (after_scheme target)) (after_scheme target)

-- the target is in absolute form: a scheme, a host, and a path
abbrev pub is_absolute : List ℕ → Bool
is_absolute target =
    is_alike (take 7 target) (codes "http://") && nat_lt 0 (length (authority_of target)) && is_path (after_authority target)

-- the path of a target in absolute form; another target as it is
abbrev pub path_of : List ℕ → List ℕ
path_of target = if is_absolute target then after_authority target else target

-- the host of a target in absolute form, whatever the field `Host` says (section 3.2.2); of another target that of the field
abbrev pub host_for : (target host : List ℕ) → List ℕ
host_for target host = if is_absolute target then authority_of target else host

-- the host of a head
abbrev pub plain_host : Parts → List ℕ
plain_host asked = host_for asked.target (host_of asked)

-- all bytes but the last
abbrev pub without_last : List ℕ → List ℕ
without_last text = take (length text - 1) text

-- the one question mark is the last byte
abbrev pub has_empty_query : List ℕ → Bool
has_empty_query path =
    nat_lt 0 (length path) && (slice_index path (length path - 1) == 63)
    && not (list_any (λ byte. byte == 63) (without_last path))

-- a path without an empty query
abbrev pub without_empty_query : List ℕ → List ℕ
without_empty_query path = if has_empty_query path then without_last path else path

-- the target in the form of the profile: a path, without an empty query
abbrev pub plain_target : List ℕ → List ℕ
plain_target target = without_empty_query (path_of target)

-- Keys.

-- hexadecimal digits
abbrev pub are_digits : List ℕ → Bool
are_digits text = list_all is_ascii_hexdigit text

-- a UUID in its usual form: 8, 4, 4, 4 and 12 hexadecimal digits, with hyphens between them (RFC 9562, section 4)
abbrev pub is_uuid : List ℕ → Bool
is_uuid key =
    (length key == 36) && are_digits (slice_range key 0 8)
    && (slice_index key 8 == 45) && are_digits (slice_range key 9 13)
    && (slice_index key 13 == 45) && are_digits (slice_range key 14 18)
    && (slice_index key 18 == 45) && are_digits (slice_range key 19 23)
    && (slice_index key 23 == 45) && are_digits (slice_range key 24 36)

-- its digits
abbrev pub uuid_digits : List ℕ → List ℕ
uuid_digits key =
    (((slice_range key 0 8 ++ slice_range key 9 13) ++ slice_range key 14 18) ++ slice_range key 19 23) ++ slice_range key 24 36

-- a key that is a UUID in its usual form is its 32 digits
abbrev pub plain_key : List ℕ → List ℕ
plain_key key = if is_uuid key then uuid_digits key else key

-- the key of a head: the value of the one field `Desk-Key`, in this form, where it is good
abbrev pub plain_key_of : Parts → Option (List ℕ)
plain_key_of asked =
    option_and_then (keep_if is_key) (the_one (map plain_key (values_named (codes "desk-key") asked.fields)))

-- Requests.

-- a field of each of these values
abbrev pub fields_of : List ℕ → List (List ℕ) → List Named
fields_of name values = map (λ value. (name, value)) values

-- the last field, where the connection is to end
abbrev pub close_if : Bool → List Named
close_if true = (codes "Connection", codes "close") ∷ []
close_if false = []

-- the fields of the profile: one host, the agents, those who are meant, the keys, the length of the body, and whether the
-- connection ends
abbrev pub plain_fields : Parts → List ℕ → List Named
plain_fields asked body =
    (codes "Host", plain_host asked)
    ∷ (fields_of (codes "Desk-Agent") (values_named (codes "desk-agent") asked.fields)
    ++ (fields_of (codes "Desk-For") (meant_agents asked)
    ++ (fields_of (codes "Desk-Key") (map plain_key (values_named (codes "desk-key") asked.fields))
    ++ ((codes "Content-Length", numeral 10 (length body)) ∷ close_if (ends_after asked)))))

-- the head of the profile with the same meaning
abbrev pub plain_parts : Parts → List ℕ → Parts
plain_parts asked body = record {
  method = plain_method asked.method;
  target = plain_target asked.target;
  minor = 1;
  fields = plain_fields asked body;
}

-- the request says plainly what a head with these parts asks with this body
pub record SaysPlainly (r : Request) (asked : Parts) (bytes : List ℕ) : Type 0 where
  pub method : r.method.items ≡ plain_method asked.method
  pub target : r.target.items ≡ plain_target asked.target
  pub host : r.host.items ≡ plain_host asked
  pub agent : r.agent ≡ agent_of asked
  pub is_unnamed : r.is_unnamed ≡ is_unnamed asked
  pub key : r.key ≡ plain_key_of asked
  pub body : r.body.items ≡ bytes
  pub closes : r.closes ≡ ends_after asked
  pub complaint : r.complaint ≡ None
  pub is_head : r.is_head ≡ false
