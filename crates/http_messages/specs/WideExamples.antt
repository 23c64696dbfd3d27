-- A worked example: a POST whose one chunk is a whole request.
use Rattle.std.specs.Prelude.{ℕ, List, [], ◌∷◌, ◌++◌, codes}
use Rattle.httparse.specs.Grammar.{RequestHead, crlf}
use Rattle.http1.specs.Decoder.{decoder_for}
use Rattle.http1.specs.declared.framing.Framing.TheVariants as framed
use Rattle.http_messages.specs.Examples.{get_bytes}
use Rattle.http_messages.specs.Bodies.{Reading, limits}

-- POST /, with a host and a body in chunks
abbrev pub post_page : RequestHead
post_page = record {
  blank = [];
  method = codes "POST";
  target = codes "/";
  minor = 1;
  line_end = crlf;
  fields =
      record { name = codes "host"; raw = codes " x"; end = crlf }
      ∷ record { name = codes "transfer-encoding"; raw = codes " chunked"; end = crlf }
      ∷ [];
  last = crlf;
}

-- its bytes
abbrev pub post_bytes : List ℕ
post_bytes = codes "POST / HTTP/1.1\r\nhost: x\r\ntransfer-encoding: chunked\r\n\r\n"

-- a chunk of 27 bytes, which are a request, and the last chunk
abbrev pub text_of_get : List ℕ
text_of_get = codes "1b\r\n" ++ (get_bytes ++ codes "\r\n0\r\n\r\n")

-- a reader at the beginning of chunks
abbrev pub at_chunks : Reading
at_chunks = record { waits = decoder_for limits framed.Chunked; body = [] }
