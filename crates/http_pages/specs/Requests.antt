-- The request that asks the house for a report (RFC 9112, section 3).
use Rattle.std.specs.Prelude.{ℕ, ◌&&◌, Bool, List, ◌++◌, codes, nat_le}
use Rattle.std.specs.List.{list_all}

-- a visible character of ASCII: none of these ends the target or the line that it stands in
abbrev pub is_visible : ℕ → Bool
is_visible byte = nat_le 33 byte && nat_le byte 126

-- the text may be sent as a target
abbrev pub is_target : List ℕ → Bool
is_target text = list_all is_visible text

-- the bytes of the request for a target. The page that answers it is the last of its connection
abbrev pub request_text : List ℕ → List ℕ
request_text target = codes "GET " ++ (target ++ codes " HTTP/1.1\r\nHost: desk\r\nConnection: close\r\n\r\n")
