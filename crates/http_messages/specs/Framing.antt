-- What a head asks for, and how the body of a request is framed, from the fields of its head (RFC 9112, section 6.3).
use Rattle.std.specs.Prelude.{ℕ, ◌≤◌, ◌==◌, ◌&&◌, ◌||◌, Bool, ⊤, List, length, bytes_eq, codes, if◌then◌else◌, nat_lt, Result, Ok, Err}
use Rattle.commands.specs.Limits.{most_bytes}
use Rattle.http1.specs.Fields.{known_fields}
use Rattle.http1.specs.Framing.{method_kind, request_framing}
use Rattle.http1.specs.declared.fields.KnownFields.{KnownFields}
use Rattle.http1.specs.declared.framing.Framing.{Framing}
use Rattle.http1.specs.declared.framing.Framing.TheVariants as framed
use Rattle.http1.specs.declared.framing.FramingError.{FramingError}
use Rattle.http_messages.specs.Heads.{Parts, values_named}
use Rattle.http_messages.specs.declared.asked.AskedKind.{AskedKind}
use Rattle.http_messages.specs.declared.asked.AskedKind.TheVariants.{Get, Head, Post, Options, Other}
use Rattle.http_messages.specs.declared.denials.Denial.{Denial}
use Rattle.http_messages.specs.declared.denials.Denial.TheVariants as denial
use Rattle.http_messages.specs.declared.framing.BodyKind.{BodyKind}
use Rattle.http_messages.specs.declared.framing.BodyKind.TheVariants.{Sized, Chunked}
use Rattle.http_messages.specs.declared.framing.Unframed.{Unframed}
use Rattle.http_messages.specs.declared.framing.Unframed.TheVariants.{BadHead, OtherCoding, TooLarge}

-- a length is within the limit of a body
abbrev pub IsWithinLimit : BodyKind → Type 0
IsWithinLimit (Sized count) = count ≤ most_bytes
IsWithinLimit Chunked = ⊤

-- the kind of body of a framing: a length within the limit, or chunks. No request runs to the end of its connection
abbrev pub kind_of : Result Framing FramingError → Result BodyKind Unframed
kind_of (Ok framed.NoBody) = Ok (Sized 0)
kind_of (Ok (framed.Length count)) = if nat_lt most_bytes count then Err TooLarge else Ok (Sized count)
kind_of (Ok framed.Chunked) = Ok Chunked
kind_of (Ok framed.UntilClose) = Err BadHead
kind_of (Err why) = Err BadHead

-- the kind of body of a request, by its method, its minor version, and what its fields say: at most one of them frames
-- the body, and it names no coding but `chunked`
abbrev pub body_kind_by : List ℕ → ℕ → KnownFields → Result BodyKind Unframed
body_kind_by method minor fields =
    if nat_lt 1 fields.framing_fields then Err BadHead
    else (if fields.other_coding then Err OtherCoding
    else kind_of (request_framing (method_kind method) minor fields))

-- the same, by the parts of the head
abbrev pub body_kind : Parts → Result BodyKind Unframed
body_kind parts = body_kind_by parts.method parts.minor (known_fields parts.fields)

-- a head of HTTP/1.1 names one host; one of HTTP/1.0 may name none (RFC 9112, section 3.2)
abbrev pub has_host : Parts → Bool
has_host parts =
    let named = length (values_named (codes "host") parts.fields) in named == 1 || (parts.minor == 0 && named == 0)

-- the kind of body of a request, if its head names a host as it must
abbrev pub head_kind : Parts → Result BodyKind Unframed
head_kind parts = if has_host parts then body_kind parts else Err BadHead

-- what a method asks for; one in small letters is another (RFC 9110, section 9.1)
abbrev pub asked_kind : List ℕ → AskedKind
asked_kind method =
    if bytes_eq method (codes "GET") then Get
    else (if bytes_eq method (codes "HEAD") then Head
    else (if bytes_eq method (codes "POST") then Post
    else (if bytes_eq method (codes "OPTIONS") then Options
    else Other)))

-- the status that answers a request whose body is not read
abbrev pub denial_of : Unframed → Denial
denial_of BadHead = denial.BadHead
denial_of OtherCoding = denial.OtherCoding
denial_of TooLarge = denial.TooLarge

-- the code of a status (RFC 9110, section 15; RFC 6585, section 5)
abbrev pub code_of : Denial → ℕ
code_of denial.BadHead = 400
code_of denial.TooLarge = 413
code_of denial.LongHead = 431
code_of denial.OtherCoding = 501
code_of denial.OtherVersion = 505
