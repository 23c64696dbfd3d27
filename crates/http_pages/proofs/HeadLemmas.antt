-- The lines of a head, one after another. For the head of a page.
use Rattle.std.proofs.Common.{append_assoc, ◌≡◌, ℕ, List, [], ◌∷◌, ◌++◌, codes}
use Rattle.http_pages.specs.Pages.{line}

-- texts in one piece are these texts in lines, each with the same end
pieces_in_lines : (http code blank phrase before length type media fields close end : List ℕ)
    → http ++ (code ++ (blank ++ (phrase ++ (end ++ (before ++ (length ++ (end ++ (type ++ (media ++ (end
    ++ (fields ++ (close ++ end))))))))))))
    ≡ (http ++ code ++ blank ++ phrase) ++ end ++ ((before ++ length) ++ end) ++ ((type ++ media) ++ end)
    ++ fields ++ close ++ end
pieces_in_lines http code blank phrase before length type media fields close end = simp append_assoc

-- the head in one piece is its lines
pub head_lines : (code phrase length media fields close : List ℕ)
    → codes "HTTP/1.1 " ++ (code ++ (codes " " ++ (phrase ++ (codes "\r\nContent-Length: " ++ (length
    ++ (codes "\r\nContent-Type: " ++ (media ++ (codes "\r\n" ++ (fields ++ (close ++ codes "\r\n"))))))))))
    ≡ line (codes "HTTP/1.1 " ++ code ++ codes " " ++ phrase) ++ line (codes "Content-Length: " ++ length)
    ++ line (codes "Content-Type: " ++ media) ++ fields ++ close ++ line []
head_lines code phrase length media fields close =
    pieces_in_lines (codes "HTTP/1.1 ") code (codes " ") phrase (codes "Content-Length: ") length
    (codes "Content-Type: ") media fields close (13 ∷ 10 ∷ [])
