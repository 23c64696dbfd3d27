-- Pages as they are sent to libraries, proxies and pools (RFC 9110; RFC 9111).
use Rattle.std.specs.Prelude.{◌≡◌, ℕ, ◌+◌, ◌≤◌, ◌⊎◌, ◌==◌, Bool, true, List, [], ◌++◌, length, take, drop, codes, decimal, if◌then◌else◌, Option, Some, None, unwrap_or}
use Rattle.std.specs.List.{position}
use Rattle.httpdate.specs.Date.{date_text, unix_secs}
use Rattle.httpdate.specs.declared.date.HttpDate.{HttpDate}
use Rattle.serde_json.specs.Written.{compact_text}
use Rattle.commands.specs.declared.replies.Refusal.{Refusal}
use Rattle.commands.specs.declared.replies.Refusal.TheVariants as refusal
use Rattle.http_messages.specs.Messages.{first_told}
use Rattle.http_pages.specs.Bodies.{refusal_data}
use Rattle.http_pages.specs.Pages.{close_line, line}
use Rattle.http_pages.specs.declared.routes.Verb.{Verb}
use Rattle.http_pages.specs.declared.routes.Verb.TheVariants.{Get, Post}
use Rattle.http_messages.specs.Framing.{code_of}
use Rattle.http_messages.specs.declared.denials.Denial.{Denial}
use Rattle.http_messages.specs.declared.denials.Denial.TheVariants as denial

-- Lines of every page.

-- no cache keeps it, and none shows it to another agent
abbrev pub cache_lines : List ℕ
cache_lines = line (codes "Cache-Control: no-store") ++ line (codes "Vary: Desk-Agent")

-- a place after this one, or after all
abbrev pub after_place : Option ℕ → List ℕ → ℕ
after_place (Some at) text = at + 1
after_place None text = length text

-- LF
abbrev pub is_line_feed : ℕ → Bool
is_line_feed byte = byte == 10

-- how many bytes the status line of a page has, with its end
abbrev pub status_end : List ℕ → ℕ
status_end page = after_place (position is_line_feed page) page

-- a page without its body: up to its empty line
abbrev pub head_of : List ℕ → List ℕ
head_of page = unwrap_or (first_told page) page

-- the page with the lines for caches and the date line after its first line; for HEAD without its body
abbrev pub wide_text : Bool → List ℕ → List ℕ → List ℕ
wide_text is_head date page =
    let shown = if is_head then head_of page else page in
    ((take (status_end shown) shown ++ cache_lines) ++ date) ++ drop (status_end shown) shown

-- Dates (RFC 9110, sections 5.6.7 and 6.6.1).

-- the field of a second since 1970: `Date: Sun, 06 Nov 1994 08:49:37 GMT`
abbrev pub IsDateOf : ℕ → List ℕ → Type 0
IsDateOf second text = (d : HttpDate) × (unix_secs d ≡ second) × (text ≡ line (codes "Date: " ++ date_text d))

-- the date line of a second; none where the clock was not read, or from the year 10000 on
abbrev pub IsDateLine : Option ℕ → List ℕ → Type 0
IsDateLine None text = text ≡ []
IsDateLine (Some second) text = IsDateOf second text ⊎ ((253_402_300_800 ≤ second) × (text ≡ []))

-- Pages of the reader.

-- a status line
abbrev pub status : ℕ → List ℕ → List ℕ
status code phrase = line (codes "HTTP/1.1 " ++ decimal code ++ codes " " ++ phrase)

-- the lines of a JSON body
abbrev pub json_lines : List ℕ → List ℕ
json_lines body = line (codes "Content-Length: " ++ decimal (length body)) ++ line (codes "Content-Type: application/json")

-- the phrase of a status
abbrev pub phrase_of : Denial → List ℕ
phrase_of denial.BadHead = codes "Bad Request"
phrase_of denial.TooLarge = codes "Content Too Large"
phrase_of denial.LongHead = codes "Request Header Fields Too Large"
phrase_of denial.OtherCoding = codes "Not Implemented"
phrase_of denial.OtherVersion = codes "HTTP Version Not Supported"

-- the refusal that is reported with it
abbrev pub refusal_of : Denial → Refusal
refusal_of denial.TooLarge = refusal.TooLarge
refusal_of _ = refusal.BadHead

-- the text of a refusal
abbrev pub text_of : Refusal → List ℕ
text_of why = compact_text (refusal_data why)

-- the page of a message that is not read
abbrev pub denial_text : Denial → List ℕ → List ℕ
denial_text why date =
    let body = text_of (refusal_of why) in
    status (code_of why) (phrase_of why) ++ cache_lines ++ date ++ json_lines body ++ close_line true ++ line [] ++ body

-- 100 Continue
abbrev pub go_on : List ℕ
go_on = line (codes "HTTP/1.1 100 Continue") ++ line []

-- the methods of a path, or of the desk
abbrev pub allow_line : Option Verb → List ℕ
allow_line None = line (codes "Allow: GET, HEAD, OPTIONS, POST")
allow_line (Some Get) = line (codes "Allow: GET, HEAD, OPTIONS")
allow_line (Some Post) = line (codes "Allow: OPTIONS, POST")

-- the page that answers OPTIONS
abbrev pub options_text : Option Verb → Bool → List ℕ → List ℕ
options_text verb closes date =
    status 204 (codes "No Content") ++ cache_lines ++ date ++ allow_line verb ++ close_line closes ++ line []

-- a body, which HEAD does not get
abbrev pub body_unless : Bool → List ℕ → List ℕ
body_unless is_head body = if is_head then [] else body

-- the page that answers another method; for HEAD without its body
abbrev pub not_allowed_text : Verb → (is_head closes : Bool) → List ℕ → List ℕ
not_allowed_text verb is_head closes date =
    let body = text_of refusal.WrongMethod in
    status 405 (codes "Method Not Allowed") ++ cache_lines ++ date ++ json_lines body
    ++ allow_line (Some verb) ++ close_line closes ++ line [] ++ body_unless is_head body
