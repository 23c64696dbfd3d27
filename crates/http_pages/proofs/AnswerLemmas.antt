-- Bytes begin with one head and are one page at most. For the functions of `answers`.
use Rattle.std.proofs.Common.{◌≡◌, ◌≢◌, ◌∙◌, ℕ, List, Ok, Result, length, map, take, drop, ap, sym, arith}
use Rattle.std.proofs.lemmas.List.{length-map, length-take}
use Rattle.http1.specs.Fields.{known_fields}
use Rattle.http1.specs.Framing.{response_framing}
use Rattle.http1.specs.declared.fields.KnownFields.{KnownFields}
use Rattle.http1.specs.declared.framing.Framing.{Framing}
use Rattle.http1.specs.declared.framing.Framing.TheVariants as framed
use Rattle.http1.specs.declared.framing.FramingError.{FramingError}
use Rattle.http1.specs.declared.framing.MethodKind.TheVariants as method
use Rattle.httparse.proofs.GrammarLemmas.{response_unique}
use Rattle.httparse.specs.Grammar.{ResponseHead, status_code as code_of}
use Rattle.httparse.specs.Spans.{IsResponseAt, IsResponseWithin, header_bytes, name_and_value}
use Rattle.httparse.specs.declared.spans.HeaderSpan.{HeaderSpan}
use Rattle.httparse.specs.declared.spans.ResponseSpans.{ResponseSpans}
use Rattle.http_pages.specs.Answers.{absence_text, most_fields, HasNoAnswer, IsHeadOf, IsPage}
use Rattle.http_pages.specs.declared.answer_pages.Answer.TheVariants.{Report, NoJourney}

-- the framing of a response, by its status, its minor version and its fields
abbrev framing_of : ℕ → ℕ → KnownFields → Result Framing FramingError
framing_of status minor known = response_framing method.Other status minor known

-- what was parsed is the head of a page
pub head_at : (came : List ℕ) (fields : List HeaderSpan) (spans : ResponseSpans) (known : KnownFields) (framing : Result Framing FramingError) (h : ResponseHead)
    → length fields ≡ most_fields → IsResponseAt came fields spans h → IsResponseWithin came fields spans
    → known ≡ known_fields (map (header_bytes came) (take spans.headers fields))
    → framing ≡ framing_of spans.code spans.version known
    → IsHeadOf came spans.code framing spans.len
head_at came fields spans known framing h room at lies is framed = record {
  head = h;
  reads = at.reads;
  is = record {
    few = omega (arith, room, length-take spans.headers fields, length-map (take spans.headers fields) (header_bytes came), length-map h.fields name_and_value, ap length at.fields);
    code = sym at.code;
    framed = ap (λ minor. framing_of spans.code minor (known_fields (map name_and_value h.fields))) (sym at.version)
        ∙ ap (λ fs. framing_of spans.code spans.version (known_fields fs)) (sym at.fields)
        ∙ ap (framing_of spans.code spans.version) (sym is)
        ∙ sym framed;
  };
  within = lies.section.len_fits;
}

-- a page has the head with which its bytes begin
pub page_of_head : (came : List ℕ) (status : ℕ) (framing : Result Framing FramingError) (count : ℕ) (s : ℕ) (body : List ℕ)
    → IsHeadOf came status framing count → IsPage came s body
    → (status ≡ s) × (drop count came ≡ body) × (framing ≡ Ok (framed.Length (length body)))
page_of_head came status framing count s body at page =
    let one = response_unique came at.head page.head (drop count came) body at.reads page.reads in
    let same : status ≡ s = sym at.is.code ∙ ap code_of one.0 ∙ page.is.code in (
      same,
      one.1,
      sym at.is.framed
          ∙ ap (λ (h : ResponseHead). framing_of status h.minor (known_fields (map name_and_value h.fields))) one.0
          ∙ ap (λ code. framing_of code page.head.minor (known_fields (map name_and_value page.head.fields))) same
          ∙ page.is.framed,
    )

-- the bytes are one page at most
pub one_page : (came : List ℕ) (s t : ℕ) (a b : List ℕ) → IsPage came s a → IsPage came t b → (s ≡ t) × (a ≡ b)
one_page came s t a b page other =
    let one = response_unique came page.head other.head a b page.reads other.reads in
    (sym page.is.code ∙ ap code_of one.0 ∙ other.is.code, one.1)

-- a page of another status is none, nor is one of an absence with another body
pub none_of_page : (came : List ℕ) (s : ℕ) (body : List ℕ) → IsPage came s body → s ≢ 200 → (s ≡ 404 → body ≢ absence_text)
    → HasNoAnswer came
none_of_page came s body page other absent (Report text) is = other (one_page came s 200 body text.items page is).0
none_of_page came s body page other absent NoJourney is =
    let one = one_page came s 404 body absence_text page is in absent one.0 one.1
