-- The law is used as it stands.
use Rattle.std.proofs.Common.{◌≡◌, ◌++◌, ℕ, List, append_assoc, false, refl, subst, sym}
use Rattle.httparse.specs.Grammar.{is_token_byte, trim_ows}
use Rattle.http1.specs.Fields.{elements, known_fields}
use Rattle.http1.specs.Text.{eq_ignore_case}
use Rattle.http_messages.specs.Examples.{get_bytes}
use Rattle.http_messages.specs.Heads.{parts_of}
use Rattle.http_messages.specs.WideExamples.{post_bytes, post_page, text_of_get}
use Rattle.http_messages.specs.Wide.{Asks, BeginsWith, ends_after}
use Rattle.http_conversations.specs.Modes.{IsWideText}
use Rattle.http_conversations.proofs.laws.post_is_first.Goals as goal

-- the POST is its text, whatever follows it
is_text : ((more : List ℕ) → BeginsWith (post_bytes ++ (text_of_get ++ more)) (Asks post_page get_bytes) more)
    → IsWideText (post_bytes ++ text_of_get) (Asks post_page get_bytes)
is_text asks more = subst (λ z. BeginsWith z (Asks post_page get_bytes) more) (sym (append_assoc post_bytes text_of_get more)) (asks more)

-- the connection stays open after it
stays_open : ends_after (parts_of post_page) ≡ false
unfolding known_fields elements eq_ignore_case trim_ows is_token_byte
stays_open = refl

pub returns-clause-first : goal.returns-clause-first
returns-clause-first c = λ more m later are.
    (c.said_is_first.ensures.law (post_bytes ++ text_of_get) more (Asks post_page get_bytes) m later (is_text c.request_in_a_body.ensures.asks) are).0

pub returns-clause-passed : goal.returns-clause-passed
returns-clause-passed c = λ more m later are.
    (c.said_is_first.ensures.law (post_bytes ++ text_of_get) more (Asks post_page get_bytes) m later (is_text c.request_in_a_body.ensures.asks) are).1
    stays_open
