-- Pages: what they say, and their bytes (RFC 9112, sections 4 and 5).
use Rattle.std.specs.Prelude.{ℕ, Bool, List, [], ◌∷◌, ◌++◌, length, codes, decimal, if◌then◌else◌, Option, Some, None}
use Rattle.std.specs.String.{string_bytes}
use Rattle.serde_json.specs.Data.{Data}
use Rattle.serde_json.specs.Written.{compact_text}
use Rattle.commands.specs.declared.replies.Refusal.{Refusal}
use Rattle.commands.specs.declared.replies.Reply.{Reply}
use Rattle.commands.specs.declared.replies.Reply.TheVariants.{Loaded, Begun, Moved, Refused}
use Rattle.http_pages.specs.Bodies.{refusal_data, reply_data}
use Rattle.http_pages.specs.Statuses.{status_code, status_of, phrase}
use Rattle.http_pages.specs.Verbs.{verb_text}
use Rattle.http_pages.specs.declared.answers.Body.{Body}
use Rattle.http_pages.specs.declared.answers.Body.TheVariants.{Json, Text, Html, Metrics}
use Rattle.http_pages.specs.declared.answers.Page.{Page}
use Rattle.http_pages.specs.declared.heads.Status.{Status}
use Rattle.http_pages.specs.declared.heads.Status.TheVariants.{Fine}
use Rattle.http_pages.specs.declared.routes.Verb.{Verb}

-- What a page says.

-- what a body is: a JSON value, a report, a page for browsers with its policy for content, or what a monitor reads
pub data Media : Type 0 where
  Value : Media
  Report : Media
  Browsed : (policy : List ℕ) → Media
  Monitored : Media

-- a status, the method that is allowed where another was asked, and a body
pub record Paged : Type 0 where
  pub status : Status
  pub allow : Option Verb
  pub media : Media
  pub body : List ℕ

-- the bytes of a body
abbrev pub body_bytes : Body → List ℕ
body_bytes (Json text) = string_bytes text
body_bytes (Text bytes) = bytes.items
body_bytes (Html html) = html.text.now
body_bytes (Metrics text) = string_bytes text

-- what a body is
abbrev pub media_of : Body → Media
media_of (Json text) = Value
media_of (Text bytes) = Report
media_of (Html html) = Browsed html.policy.now
media_of (Metrics text) = Monitored

-- the page that shows this body
abbrev pub shown_page : Body → Paged
shown_page body = record {
  status = Fine;
  allow = None;
  media = media_of body;
  body = body_bytes body;
}

-- what a page says
abbrev pub page_said : Page → Paged
page_said page = record {
  status = page.status;
  allow = page.allow;
  media = media_of page.body;
  body = body_bytes page.body;
}

-- the page that shows a JSON value
abbrev pub value_page : Data → Paged
value_page d = record { status = Fine; allow = None; media = Value; body = compact_text d }

-- the page that shows a report
abbrev pub report_page : List ℕ → Paged
report_page text = record { status = Fine; allow = None; media = Report; body = text }

-- the page for browsers, with its policy for content
abbrev pub browsed_page : (text policy : List ℕ) → Paged
browsed_page text policy = record { status = Fine; allow = None; media = Browsed policy; body = text }

-- the page that a monitor reads
abbrev pub monitored_page : List ℕ → Paged
monitored_page text = record { status = Fine; allow = None; media = Monitored; body = text }

-- the page of a refusal, with the method that is allowed where another was asked
abbrev pub denied_page : Refusal → Option Verb → Paged
denied_page why allow = record {
  status = status_of why;
  allow = allow;
  media = Value;
  body = compact_text (refusal_data why);
}

-- the page of a refusal without a method for `Allow`
abbrev pub refused_page : Refusal → Paged
refused_page why = denied_page why None

-- the page of a reply
abbrev pub reply_page : Reply → Paged
reply_page (Loaded name rows) = value_page (reply_data (Loaded name rows))
reply_page (Begun id) = value_page (reply_data (Begun id))
reply_page (Moved id item pos phase) = value_page (reply_data (Moved id item pos phase))
reply_page (Refused why) = refused_page why

-- The bytes of a page.

-- a line with its end, CR LF
abbrev pub line : List ℕ → List ℕ
line text = text ++ (13 ∷ 10 ∷ [])

-- the media type of a body
abbrev pub media_type : Media → List ℕ
media_type Value = codes "application/json"
media_type Report = codes "text/plain"
media_type (Browsed policy) = codes "text/html; charset=utf-8"
media_type Monitored = codes "text/plain; version=0.0.4"

-- the line with the policy for content of a page for browsers
abbrev pub policy_line : Media → List ℕ
policy_line Value = []
policy_line Report = []
policy_line (Browsed policy) = line (codes "Content-Security-Policy: " ++ policy)
policy_line Monitored = []

-- the line that reports which method is allowed, where another was asked
abbrev pub allow_line : Option Verb → List ℕ
allow_line None = []
allow_line (Some verb) = line (codes "Allow: " ++ verb_text verb)

-- the line that announces that the connection is closed after the page
abbrev pub close_line : Bool → List ℕ
close_line closes = if closes then line (codes "Connection: close") else []

-- the fields that only some pages have: the policy of a page for browsers, and the method that is allowed
abbrev pub further_fields : Paged → List ℕ
further_fields page = policy_line page.media ++ allow_line page.allow

-- the bytes before the body, with these lines of further fields
abbrev pub head_with : List ℕ → Bool → Paged → List ℕ
head_with fields closes page =
    line (codes "HTTP/1.1 " ++ decimal (status_code page.status) ++ codes " " ++ phrase page.status)
    ++ line (codes "Content-Length: " ++ decimal (length page.body))
    ++ line (codes "Content-Type: " ++ media_type page.media)
    ++ fields ++ close_line closes ++ line []

-- the bytes before the body: the status line, the fields, an empty line
abbrev pub head_text : Bool → Paged → List ℕ
head_text closes page = head_with (further_fields page) closes page

-- the bytes of a page. HEAD gets them without the body
abbrev pub page_text : (is_head closes : Bool) → Paged → List ℕ
page_text is_head closes page = head_text closes page ++ (if is_head then [] else page.body)
