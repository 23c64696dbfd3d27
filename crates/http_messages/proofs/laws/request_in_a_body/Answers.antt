-- The laws are used as they stand.
-- More than 60 lines: one way out, six clauses and nine lemmas of its own.
use Rattle.std.proofs.Common.{◌≡◌, ℕ, List, [], ◌∷◌, ◌++◌, refl, subst, sym, false, codes, length, Ok, None, ◌^◌, arith, leb-true, ltb-true}
use Rattle.std.proofs.lemmas.List.Elements.{All-from_recursion}
use Rattle.std.proofs.lemmas.List.Sums.{AllPass-from_list_all}
use Rattle.httparse.specs.Grammar.{IsField, crlf, is_token_byte, is_uri_byte, is_value_byte, print_request, trim_ows}
use Rattle.allotment.proofs.ShortLemmas.{is_utf8}
use Rattle.http1.specs.ChunkedBody.{AreChunks, Chunks, IsSizeLine, SizeLine}
use Rattle.http1.specs.Fields.{elements, known_fields}
use Rattle.http1.specs.Text.{eq_ignore_case}
use Rattle.http_messages.specs.Examples.{get_bytes}
use Rattle.http_messages.specs.Heads.{IsHead, most_fields, most_head_bytes, parts_of}
use Rattle.http_messages.specs.declared.framing.BodyKind.TheVariants.{Chunked}
use Rattle.http_messages.specs.Bodies.{IsBody}
use Rattle.http_messages.specs.Calls.{Calls, finds_end}
use Rattle.http_messages.specs.WideExamples.{at_chunks, post_bytes, post_page, text_of_get}
use Rattle.http_messages.specs.Framing.{head_kind}
use Rattle.http_messages.specs.Wide.{Asks, Wide, WideMessages, ends_after}
use Rattle.http_messages.proofs.BodyLemmas.{begins}
use Rattle.http_messages.proofs.LawLemmas.{body_more}
use Rattle.http_messages.proofs.laws.request_in_a_body.Goals as goal

-- the POST is a head
post_is_a_head : IsHead post_bytes post_page
unfolding print_request is_token_byte
post_is_a_head = record {
  reads = (
    record {
      method = (ltb-true 0 4 refl, AllPass-from_list_all is_token_byte (codes "POST") refl);
      target = (ltb-true 0 1 refl, AllPass-from_list_all is_uri_byte (codes "/") refl);
      target_text = is_utf8 (codes "/") refl;
      minor = leb-true 1 1 refl;
      fields = All-from_recursion IsField post_page.fields (
        record {
          name = (ltb-true 0 4 refl, AllPass-from_list_all is_token_byte (codes "host") refl);
          raw = AllPass-from_list_all is_value_byte (codes " x") refl;
        },
        (
          record {
            name = (ltb-true 0 17 refl, AllPass-from_list_all is_token_byte (codes "transfer-encoding") refl);
            raw = AllPass-from_list_all is_value_byte (codes " chunked") refl;
          },
          tt,
        ),
      );
    },
    refl,
  );
  short = leb-true (length post_bytes) most_head_bytes refl;
  few = leb-true 2 most_fields refl;
}

-- its body comes in chunks
in_chunks : head_kind (parts_of post_page) ≡ Ok Chunked
unfolding known_fields elements eq_ignore_case trim_ows is_token_byte
in_chunks = refl

-- the line of a chunk of 27 bytes
abbrev line : SizeLine
line = record { digits = codes "1b"; blanks = []; extension = None }

-- the line of the last chunk
abbrev last : SizeLine
last = record { digits = codes "0"; blanks = []; extension = None }

line_is : IsSizeLine line
line_is = record { has_digit = ltb-true 0 2 refl; hexadecimal = (ltb-true 1 16 refl, (ltb-true 11 16 refl, tt)); fits = ltb-true 27 (2 ^ 64) refl; blank = refl; text = refl }

last_is : IsSizeLine last
last_is = record { has_digit = ltb-true 0 1 refl; hexadecimal = (ltb-true 0 16 refl, tt); fits = ltb-true 0 (2 ^ 64) refl; blank = refl; text = refl }

abbrev chunks : Chunks
chunks = record { full = record { line = line; bytes = get_bytes } ∷ []; last = last }

chunks_are : AreChunks most_head_bytes chunks
chunks_are = grind (arith, line_is, ltb-true, last_is, leb-true)

-- the text is a body, and stands for a whole request
text_is_a_body : IsBody Chunked text_of_get get_bytes []
text_is_a_body = record {
  trailers = [];
  reads = record {
    chunks = chunks;
    after = codes "\r\n";
    reads = (chunks_are, refl);
    decoded = refl;
    trailers = record { last = crlf; reads = (All-from_recursion IsField [] tt, refl); strict = refl; within_limit = leb-true 2 most_head_bytes refl };
  };
  few = leb-true 0 most_fields refl;
  short = leb-true 27 262144 refl;
}

pub returns-clause-asks : goal.returns-clause-asks
returns-clause-asks c = λ rest. (c.no_body_is_a_head.ensures.law post_bytes text_of_get get_bytes rest post_page Chunked post_is_a_head in_chunks text_is_a_body).0

pub returns-clause-only : goal.returns-clause-only
returns-clause-only c = λ rest k other left begins.
    ((c.no_body_is_a_head.ensures.law post_bytes text_of_get get_bytes rest post_page Chunked post_is_a_head in_chunks text_is_a_body).1 k other left begins).2

-- the text came in one piece
in_one_piece : (rest : List ℕ) → Calls at_chunks (text_of_get ++ rest) get_bytes rest
in_one_piece rest = finds_end at_chunks (record { waits = at_chunks.waits; body = get_bytes }) text_of_get rest (length text_of_get) (record {
  within = leb-true (length text_of_get) (length text_of_get) refl;
  whole = λ more. (begins Chunked (text_of_get ++ more) get_bytes more).0 (body_more Chunked text_of_get get_bytes more text_is_a_body);
})

pub returns-clause-cut : goal.returns-clause-cut
returns-clause-cut c = λ rest other left calls.
    let same = (c.cuts_agree.ensures.law Chunked at_chunks (text_of_get ++ rest) get_bytes other rest left (begins Chunked) (in_one_piece rest)).1 calls in
    (sym same.0, sym same.1)

pub returns-clause-one : goal.returns-clause-one
returns-clause-one c = λ other left is. c.one_body.ensures.law Chunked text_of_get other get_bytes left [] is text_is_a_body

-- the connection stays open after the POST
stays_open : ends_after (parts_of post_page) ≡ false
unfolding known_fields elements eq_ignore_case trim_ows is_token_byte
stays_open = refl

pub returns-clause-first : goal.returns-clause-first
returns-clause-first c = λ rest left m begins. c.one_first.ensures.law (post_bytes ++ (text_of_get ++ rest)) m (Asks post_page get_bytes) left rest begins
    (c.no_body_is_a_head.ensures.law post_bytes text_of_get get_bytes rest post_page Chunked post_is_a_head in_chunks text_is_a_body).0

-- what comes after the first of a list is the same
same_later : (m n : Wide) (later others : List Wide) → m ∷ later ≡ n ∷ others → others ≡ later
same_later m n later others same = cc

pub returns-clause-passed : goal.returns-clause-passed
returns-clause-passed c = λ rest m later are.
    let found = (c.bodies_are_passed.ensures.law post_bytes text_of_get get_bytes rest post_page Chunked post_is_a_head in_chunks text_is_a_body stays_open (m ∷ later)).0 are in
    subst (λ z. WideMessages rest z) (same_later m (Asks post_page get_bytes) later found.0 found.1) found.2
