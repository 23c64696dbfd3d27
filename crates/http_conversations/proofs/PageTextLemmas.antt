-- The lines of pages, one after another. For the pages of the reader and wide_page.
use Rattle.std.specs.Prelude.{unwrap_or, refl}
use Rattle.std.specs.Fmt.{digits}
use Rattle.std.proofs.Common.{◌∙◌, ap, append-nil, append_assoc, sym, ◌≡◌, ℕ, true, List, [], ◌∷◌, ◌++◌, codes, decimal, length, take}
use Rattle.http_messages.specs.Messages.{first_told}
use Rattle.http_messages.specs.Places.{IsToldAt}
use Rattle.http_messages.proofs.HeadLemmas.{first_of_told}
use Rattle.http_pages.specs.Pages.{close_line, line}
use Rattle.http_conversations.specs.PageTexts.{cache_lines, head_of, json_lines, status}

-- texts in one piece are these texts in lines, each with the same end
page_pieces : (first lines date before count type allow close body end : List ℕ)
    → first ++ (lines ++ (date ++ (before ++ (count ++ (end ++ (type ++ (end ++ (allow ++ (close ++ (end ++ body))))))))))
    ≡ first ++ lines ++ date ++ (((before ++ count) ++ end) ++ (type ++ end)) ++ allow ++ close ++ end ++ body
page_pieces first lines date before count type allow close body end = simp append_assoc

denial_pieces : (http code blank phrase lines date before count type extra body end : List ℕ)
    → http ++ (code ++ (blank ++ (phrase ++ (end ++ (lines ++ (date ++ (before ++ (count ++ (end ++ (type ++ (end
    ++ (extra ++ (end ++ body)))))))))))))
    ≡ ((http ++ code ++ blank ++ phrase) ++ end) ++ lines ++ date ++ (((before ++ count) ++ end) ++ (type ++ end))
    ++ extra ++ end ++ body
denial_pieces http code blank phrase lines date before count type extra body end = simp append_assoc

options_pieces : (first lines date allow close end : List ℕ)
    → first ++ (lines ++ (date ++ (allow ++ (close ++ end)))) ≡ first ++ lines ++ date ++ allow ++ close ++ end
options_pieces first lines date allow close end = simp append_assoc

-- the page of a message that is not read
pub denial_lines : (code phrase date body : List ℕ)
    → codes "HTTP/1.1 " ++ (code ++ (codes " " ++ (phrase ++ (codes "\r\n" ++ (cache_lines ++ (date
    ++ (codes "Content-Length: " ++ (decimal (length body)
    ++ (codes "\r\nContent-Type: application/json\r\nConnection: close\r\n\r\n" ++ body)))))))))
    ≡ line (codes "HTTP/1.1 " ++ code ++ codes " " ++ phrase) ++ cache_lines ++ date ++ json_lines body
    ++ close_line true ++ line [] ++ body
denial_lines code phrase date body =
    denial_pieces (codes "HTTP/1.1 ") code (codes " ") phrase cache_lines date (codes "Content-Length: ") (decimal (length body))
    (codes "Content-Type: application/json") (codes "Connection: close\r\n") body (13 ∷ 10 ∷ [])

status_405 : status 405 (codes "Method Not Allowed") ≡ codes "HTTP/1.1 405 Method Not Allowed\r\n"
unfolding digits
status_405 = refl

-- the page that answers another method
pub not_allowed_lines : (date body shown allow close : List ℕ)
    → codes "HTTP/1.1 405 Method Not Allowed\r\n" ++ (cache_lines ++ (date ++ (codes "Content-Length: " ++ (decimal (length body)
    ++ (codes "\r\nContent-Type: application/json\r\n" ++ (allow ++ (close ++ (codes "\r\n" ++ shown))))))))
    ≡ status 405 (codes "Method Not Allowed") ++ cache_lines ++ date ++ json_lines body ++ allow ++ close ++ line [] ++ shown
not_allowed_lines date body shown allow close =
    page_pieces (codes "HTTP/1.1 405 Method Not Allowed\r\n") cache_lines date (codes "Content-Length: ")
    (decimal (length body)) (codes "Content-Type: application/json") allow close shown (13 ∷ 10 ∷ [])
    ∙ ap (λ z. z ++ cache_lines ++ date ++ json_lines body ++ allow ++ close ++ line [] ++ shown) (sym status_405)

status_204 : status 204 (codes "No Content") ≡ codes "HTTP/1.1 204 No Content\r\n"
unfolding digits
status_204 = refl

-- the page that answers OPTIONS
pub options_lines : (date allow close : List ℕ)
    → codes "HTTP/1.1 204 No Content\r\n" ++ (cache_lines ++ (date ++ (allow ++ (close ++ codes "\r\n"))))
    ≡ status 204 (codes "No Content") ++ cache_lines ++ date ++ allow ++ close ++ line []
options_lines date allow close =
    options_pieces (codes "HTTP/1.1 204 No Content\r\n") cache_lines date allow close (13 ∷ 10 ∷ [])
    ∙ ap (λ z. z ++ cache_lines ++ date ++ allow ++ close ++ line []) (sym status_204)

-- the head of a page is its decided prefix
pub head_is : (page : List ℕ) (end : ℕ) → IsToldAt page end → take end page ≡ head_of page
head_is page end at =
    sym (ap (λ found. unwrap_or found page) (ap first_told (sym (append-nil page)) ∙ first_of_told page [] end at))
