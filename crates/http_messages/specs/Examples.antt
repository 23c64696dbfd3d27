-- A worked example: a request for a page, and the stream that is just it.
use Rattle.std.specs.Prelude.{ℕ, List, [], ◌∷◌, ◌++◌, length, codes, refl}
use Rattle.std.proofs.lemmas.Bool.{leb-true, ltb-true}
use Rattle.std.proofs.lemmas.List.Elements.{All-from_recursion}
use Rattle.std.proofs.lemmas.List.Sums.{AllPass-from_list_all}
use Rattle.httparse.specs.Grammar.{RequestHead, IsField, crlf, is_token_byte, is_uri_byte, is_value_byte, print_request}
use Rattle.allotment.proofs.ShortLemmas.{is_utf8}
use Rattle.http_messages.specs.Heads.{IsHead, most_fields, most_head_bytes}

-- GET /, with a host
abbrev pub get_page : RequestHead
get_page = record {
  blank = [];
  method = codes "GET";
  target = codes "/";
  minor = 1;
  line_end = crlf;
  fields = record { name = codes "host"; raw = codes " x"; end = crlf } ∷ [];
  last = crlf;
}

-- its bytes
abbrev pub get_bytes : List ℕ
get_bytes = codes "GET / HTTP/1.1" ++ 13 ∷ 10 ∷ codes "host: x" ++ 13 ∷ 10 ∷ 13 ∷ 10 ∷ []

pub get_is_a_head : IsHead get_bytes get_page
unfolding print_request is_token_byte
get_is_a_head = record {
  reads = (
    record {
      method = (ltb-true 0 3 refl, AllPass-from_list_all is_token_byte (codes "GET") refl);
      target = (ltb-true 0 1 refl, AllPass-from_list_all is_uri_byte (codes "/") refl);
      target_text = is_utf8 (codes "/") refl;
      minor = leb-true 1 1 refl;
      fields = All-from_recursion IsField get_page.fields (
        record {
          name = (ltb-true 0 4 refl, AllPass-from_list_all is_token_byte (codes "host") refl);
          raw = AllPass-from_list_all is_value_byte (codes " x") refl;
        },
        tt,
      );
    },
    refl,
  );
  short = leb-true (length get_bytes) most_head_bytes refl;
  few = leb-true 1 most_fields refl;
}
