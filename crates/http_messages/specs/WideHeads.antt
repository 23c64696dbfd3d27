-- When a head asks for 100 Continue, and with which status a prefix that is no head is denied.
use Rattle.std.specs.Prelude.{◌≡◌, ℕ, ◌⊎◌, ◌==◌, ◌&&◌, Bool, true, false, List, length}
use Rattle.httparse.specs.Spans.{RequestExceeds}
use Rattle.http1.specs.Fields.{known_fields}
use Rattle.http_messages.specs.Fields.{IsNoHeadAtAll}
use Rattle.http_messages.specs.Heads.{IsNoHead, Parts, most_fields, most_head_bytes}
use Rattle.http_messages.specs.Versions.{names_other_version}
use Rattle.http_messages.specs.declared.denials.Denial.{Denial}
use Rattle.http_messages.specs.declared.denials.Denial.TheVariants.{BadHead, TooLarge, LongHead, OtherCoding, OtherVersion}

-- the head is of HTTP/1.1 and asks for 100 Continue (RFC 9110, section 10.1.1)
abbrev pub asks_to_go_on : Parts → Bool
asks_to_go_on parts = parts.minor == 1 && (known_fields parts.fields).expect_continue

-- Why a prefix is no head: it is as long as a head may be, or has too many fields; it names another version; or it is
-- neither, and no head either if fields are not counted.
abbrev pub IsWhy : List ℕ → Denial → Type 0
IsWhy front LongHead = (length front ≡ most_head_bytes) ⊎ RequestExceeds most_fields front
IsWhy front OtherVersion = IsNoHeadAtAll front × (names_other_version front ≡ true)
IsWhy front BadHead = IsNoHeadAtAll front × ¬ (length front ≡ most_head_bytes) × (names_other_version front ≡ false)
IsWhy front TooLarge = ⊥
IsWhy front OtherCoding = ⊥

-- the prefix is no head within the limits, for this reason
pub record IsDeniedFront (front : List ℕ) (denial : Denial) : Type 0 where
  pub is_none : IsNoHead front
  pub why : IsWhy front denial
