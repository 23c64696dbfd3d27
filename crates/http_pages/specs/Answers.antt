-- What answers a request for a report: a whole page, by the grammar of HTTP/1.1 (RFC 9112, sections 4 to 6).
use Rattle.std.specs.Prelude.{◌≡◌, ◌≤◌, ℕ, List, length, map, drop, None, Ok, Option, Result, Some}
use Rattle.commands.specs.declared.replies.Refusal.TheVariants as refusal
use Rattle.http1.specs.Fields.{known_fields}
use Rattle.http1.specs.Framing.{response_framing}
use Rattle.http1.specs.declared.framing.Framing.{Framing}
use Rattle.http1.specs.declared.framing.Framing.TheVariants as framed
use Rattle.http1.specs.declared.framing.FramingError.{FramingError}
use Rattle.http1.specs.declared.framing.MethodKind.TheVariants as method
use Rattle.http_pages.specs.Bodies.{refusal_data}
use Rattle.http_pages.specs.Statuses.{status_code, status_of}
use Rattle.http_pages.specs.declared.heads.Status.TheVariants as status
use Rattle.httparse.specs.Grammar.{ReadsResponse, ResponseHead, status_code as code_of}
use Rattle.httparse.specs.Spans.{name_and_value}
use Rattle.serde_json.specs.Written.{compact_text}
use Rattle.http_pages.specs.declared.answer_pages.Answer.{Answer}
use Rattle.http_pages.specs.declared.answer_pages.Head.{Head}
use Rattle.http_pages.specs.declared.answer_pages.Page.{Page}
use Rattle.http_pages.specs.declared.answer_pages.Answer.TheVariants.{Report, NoJourney}

-- how many fields a page may have
abbrev pub most_fields : ℕ
most_fields = 32

-- the head of a page: this status, and this framing of its body
pub record IsHead (head : ResponseHead) (status : ℕ) (framing : Result Framing FramingError) : Type 0 where
  pub few : length head.fields ≤ most_fields
  pub code : code_of head ≡ status
  pub framed : response_framing method.Other status head.minor (known_fields (map name_and_value head.fields)) ≡ framing

-- the first bytes, so many, are such a head
pub record IsHeadOf (came : List ℕ) (status : ℕ) (framing : Result Framing FramingError) (count : ℕ) : Type 0 where
  pub head : ResponseHead
  pub reads : ReadsResponse came head (drop count came)
  pub is : IsHead head status framing
  pub within : count ≤ length came

-- the bytes are one page with this status and this body, whose length its head says
pub record IsPage (came : List ℕ) (status : ℕ) (body : List ℕ) : Type 0 where
  pub head : ResponseHead
  pub reads : ReadsResponse came head body
  pub is : IsHead head status (Ok (framed.Length (length body)))

-- the bytes are no page
abbrev pub IsNoPage : List ℕ → Type 0
IsNoPage came = (status : ℕ) (body : List ℕ) → ¬ (IsPage came status body)

-- the page that the bytes are, if they are one
abbrev pub FindsPage : List ℕ → Option Page → Type 0
FindsPage came (Some page) = IsPage came page.status page.body.now
FindsPage came None = IsNoPage came

-- the head with which the bytes begin; none is found only where they are no page
abbrev pub FindsHead : List ℕ → Option Head → Type 0
FindsHead came (Some head) = IsHeadOf came head.status head.framing head.len
FindsHead came None = IsNoPage came

-- the body of the refusal of an absent journey
abbrev pub absence_text : List ℕ
absence_text = compact_text (refusal_data refusal.NoJourney)

-- the bytes are the page of this answer: that of a report, or of the refusal of an absent journey
abbrev pub IsAnswer : List ℕ → Answer → Type 0
IsAnswer came (Report text) = IsPage came (status_code status.Fine) text.items
IsAnswer came NoJourney = IsPage came (status_code (status_of refusal.NoJourney)) absence_text

-- the bytes are the page of no answer
abbrev pub HasNoAnswer : List ℕ → Type 0
HasNoAnswer came = (answer : Answer) → ¬ (IsAnswer came answer)
