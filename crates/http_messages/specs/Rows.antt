-- Worked rows of prefixes and heads, computed.
use Rattle.std.specs.Prelude.{◌≡◌, ℕ, ◌∷◌, [], List, codes, Some, None, false, refl}
use Rattle.httparse.specs.Grammar.{Field, crlf, trim_ows}
use Rattle.commands.specs.declared.replies.Refusal.TheVariants.{BadHead, TooLarge, NoLength}
use Rattle.http_messages.specs.Heads.{Parts, agent_of, body_length, head_refusals, host_of, is_unnamed, key_of, parts_of}
use Rattle.http_messages.specs.Messages.{first_told}

-- a field line
abbrev pub field : List ℕ → List ℕ → Field
field name value = record { name = name; raw = value; end = crlf }

-- the parts of a head of HTTP/1.1
abbrev pub asked : List ℕ → List ℕ → List Field → Parts
asked method target fields =
    parts_of (record { blank = []; method = method; target = target; minor = 1; line_end = crlf; fields = fields; last = crlf })

-- the host `d` and the agent `ann`
abbrev pub by_ann : List Field
by_ann = field (codes "Host") (codes " d") ∷ field (codes "Desk-Agent") (codes " ann") ∷ []

-- a prefix is decided at an empty line
pub told_crlf : first_told (codes "A\r\n\r\nB") ≡ Some (codes "A\r\n\r\n")
told_crlf = refl

-- empty lines before the first line are part of the prefix
pub told_lf : first_told (codes "\r\n\r\nA\n\nB") ≡ Some (codes "\r\n\r\nA\n\n")
told_lf = refl

-- a line that is not ended decides nothing
pub told_none : first_told (codes "\r\n\r\nA\r\n") ≡ None
told_none = refl

-- two lengths, in any case, are no good head
pub two_lengths : head_refusals (asked (codes "GET") (codes "/")
    (field (codes "Host") [] ∷ field (codes "content-length") (codes " 1") ∷ field (codes "Content-Length") (codes "1") ∷ []))
    ≡ BadHead ∷ []
unfolding trim_ows
two_lengths = refl

-- ten digits are no good length
pub ten_digits : head_refusals (asked (codes "GET") (codes "/")
    (field (codes "Host") [] ∷ field (codes "Content-Length") (codes "0000000001") ∷ []))
    ≡ BadHead ∷ []
unfolding trim_ows
ten_digits = refl

-- a body of more bytes than there may be
pub too_large : head_refusals (asked (codes "POST") (codes "/")
    (field (codes "Host") [] ∷ field (codes "content-length") (codes " 262145") ∷ []))
    ≡ TooLarge ∷ []
unfolding trim_ows
too_large = refl

-- a POST without a length
pub no_length : head_refusals (asked (codes "POST") (codes "/journeys") by_ann) ≡ NoLength ∷ []
unfolding trim_ows
no_length = refl

-- leading zeros are read
pub nine_digits : body_length (asked (codes "GET") (codes "/")
    (field (codes "Host") [] ∷ field (codes "Content-Length") (codes "000000017 ") ∷ []))
    ≡ 17
unfolding trim_ows
nine_digits = refl

-- ann asks, without a key
pub ann : agent_of (asked (codes "GET") (codes "/") by_ann) ≡ Some (codes "ann")
unfolding trim_ows
ann = refl

-- the request is meant for ann, who asks
pub ann_is_meant : agent_of (asked (codes "GET") (codes "/") (field (codes "desk-for") (codes " ann ") ∷ by_ann)) ≡ Some (codes "ann")
unfolding trim_ows
ann_is_meant = refl

-- the request is meant for bob, and ann asks: nobody does
pub bob_is_meant : agent_of (asked (codes "GET") (codes "/") (field (codes "Desk-For") (codes "bob") ∷ by_ann)) ≡ None
unfolding trim_ows
bob_is_meant = refl

-- the request is meant for ann twice
pub ann_is_meant_twice : agent_of (asked (codes "GET") (codes "/")
    (field (codes "Desk-For") (codes "ann") ∷ field (codes "Desk-For") (codes "ann") ∷ by_ann))
    ≡ None
unfolding trim_ows
ann_is_meant_twice = refl

-- a request that is meant for somebody is not nobody's
pub meant_is_named : is_unnamed (asked (codes "GET") (codes "/") (field (codes "Desk-For") (codes "ann") ∷ [])) ≡ false
unfolding trim_ows
meant_is_named = refl

-- the host that is asked
pub host : host_of (asked (codes "GET") (codes "/") by_ann) ≡ codes "d"
unfolding trim_ows
host = refl

-- two hosts count as none
pub two_hosts : host_of (asked (codes "GET") (codes "/")
    (field (codes "Host") (codes "d") ∷ field (codes "host") (codes "d") ∷ []))
    ≡ []
unfolding trim_ows
two_hosts = refl

-- two good keys count as none
pub two_keys : key_of (asked (codes "POST") (codes "/")
    (field (codes "Desk-Key") (codes "k1") ∷ field (codes "desk-key") (codes "k1") ∷ by_ann))
    ≡ None
unfolding trim_ows
two_keys = refl
