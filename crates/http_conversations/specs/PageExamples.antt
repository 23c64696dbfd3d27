-- Worked pages, computed.
use Rattle.std.specs.Prelude.{◌≡◌, codes, true, false, [], ◌++◌, Some, refl}
use Rattle.std.specs.Fmt.{digits}
use Rattle.serde_json.proofs.OnLiterals.{serde_json_on_literals}
use Rattle.http_pages.specs.declared.routes.Verb.TheVariants.{Get}
use Rattle.http_messages.specs.declared.denials.Denial.TheVariants.{LongHead}
use Rattle.http_conversations.specs.PageTexts.{denial_text, options_text, wide_text}

-- the page of HEAD has the lines for caches, and no body
pub head_has_no_body : wide_text true [] (codes "HTTP/1.1 200 OK\r\nContent-Length: 2\r\n\r\n{}")
    ≡ codes "HTTP/1.1 200 OK\r\nCache-Control: no-store\r\nVary: Desk-Agent\r\nContent-Length: 2\r\n\r\n"
head_has_no_body = refl

-- so has that of GET, with its body
pub page_is_not_kept : wide_text false [] (codes "HTTP/1.1 200 OK\r\nContent-Length: 2\r\n\r\n{}")
    ≡ codes "HTTP/1.1 200 OK\r\nCache-Control: no-store\r\nVary: Desk-Agent\r\nContent-Length: 2\r\n\r\n{}"
page_is_not_kept = refl

-- OPTIONS of a page
pub options_of_a_page : options_text (Some Get) false []
    ≡ codes "HTTP/1.1 204 No Content\r\nCache-Control: no-store\r\nVary: Desk-Agent\r\nAllow: GET, HEAD, OPTIONS\r\n\r\n"
unfolding digits
options_of_a_page = refl

-- a head that is too long
pub long_head_is_told : denial_text LongHead []
    ≡ codes "HTTP/1.1 431 Request Header Fields Too Large\r\nCache-Control: no-store\r\nVary: Desk-Agent\r\n"
    ++ codes "Content-Length: 30\r\nContent-Type: application/json\r\nConnection: close\r\n\r\n{\"name\":\"BadHead\",\"refused\":1}"
unfolding digits serde_json_on_literals
long_head_is_told = refl
