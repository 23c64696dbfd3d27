-- Worked rows of framing, computed.
use Rattle.std.specs.Prelude.{◌≡◌, ◌∷◌, [], List, codes, Result, Ok, Err, refl}
use Rattle.httparse.specs.Grammar.{is_token_byte, trim_ows}
use Rattle.http1.specs.Fields.{elements, known_fields}
use Rattle.http1.specs.Text.{eq_ignore_case}
use Rattle.http_messages.specs.Heads.{Named}
use Rattle.http_messages.specs.Framing.{body_kind_by}
use Rattle.http_messages.specs.declared.framing.BodyKind.{BodyKind}
use Rattle.http_messages.specs.declared.framing.Unframed.{Unframed}
use Rattle.http_messages.specs.declared.framing.BodyKind.TheVariants.{Sized, Chunked}
use Rattle.http_messages.specs.declared.framing.Unframed.TheVariants.{BadHead, OtherCoding, TooLarge}

-- the kind of body of a POST of HTTP/1.1 with these fields
abbrev pub posted : List Named → Result BodyKind Unframed
posted fields = body_kind_by (codes "POST") 1 (known_fields fields)

-- no framing field: no body
pub no_framing : posted ((codes "Host", codes "d") ∷ []) ≡ Ok (Sized 0)
unfolding known_fields elements eq_ignore_case trim_ows is_token_byte
no_framing = refl

-- a length, in any case
pub by_length : posted ((codes "content-LENGTH", codes "0017") ∷ []) ≡ Ok (Sized 17)
unfolding known_fields elements eq_ignore_case trim_ows is_token_byte
by_length = refl

-- one byte more than there may be
pub by_large_length : posted ((codes "Content-Length", codes "262145") ∷ []) ≡ Err TooLarge
unfolding known_fields elements eq_ignore_case trim_ows is_token_byte
by_large_length = refl

-- chunks, in any case
pub by_chunks : posted ((codes "Transfer-Encoding", codes "Chunked") ∷ []) ≡ Ok Chunked
unfolding known_fields elements eq_ignore_case trim_ows is_token_byte
by_chunks = refl

-- a length and chunks frame no body
pub by_both : posted ((codes "Content-Length", codes "5") ∷ (codes "Transfer-Encoding", codes "chunked") ∷ []) ≡ Err BadHead
unfolding known_fields elements eq_ignore_case trim_ows is_token_byte
by_both = refl

-- another coding
pub by_gzip : posted ((codes "Transfer-Encoding", codes "gzip, chunked") ∷ []) ≡ Err OtherCoding
unfolding known_fields elements eq_ignore_case trim_ows is_token_byte
by_gzip = refl
