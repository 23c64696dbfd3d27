-- A stream has one list of messages.
use Rattle.std.proofs.Common.{◌≡◌, ℕ, List, [], ◌∷◌, ◌++◌, length, refl, sym, ap, subst, ◌∙◌, arith}
use Rattle.std.proofs.lemmas.List.{append_cancel_left}
use Rattle.httparse.proofs.GrammarLemmas.{request_unique}
use Rattle.http_messages.proofs.LawLemmas.{same_front}
use Rattle.http_messages.specs.Heads.{IsHead, body_length, parts_of}
use Rattle.http_messages.specs.Messages.{Message, NoHead, Asks, BeginsWith, BeginsWithAll, AreMessages, HasNoMessage}

-- equal lists that are cut at the same length have equal parts
pub same_split : (a b x y : List ℕ) → length a ≡ length b → a ++ x ≡ b ++ y → (a ≡ b) × (x ≡ y)
same_split [] [] x y l e = (refl, e)
same_split [] (c ∷ b) x y l e = absurd (omega arith)
same_split (c ∷ a) [] x y l e = absurd (omega arith)
same_split (c ∷ a) (d ∷ b) x y l e = grind (arith, same_split a b x y (omega arith) cc)

pub one_message : (stream : List ℕ) (m n : Message) (x y : List ℕ) → BeginsWith stream m x → BeginsWith stream n y → (m ≡ n) × (x ≡ y)
one_message stream NoHead NoHead x y a b = grind (arith, same_front, append_cancel_left)
one_message stream NoHead (Asks h body) x y a b = grind (arith, same_front)
one_message stream (Asks h body) NoHead x y a b = grind (arith, same_front)
one_message stream (Asks h body) (Asks k other) x y a b =
    let f = same_front stream b.front a.front b.first a.first in
    let k_here : IsHead a.front k = subst (λ z. IsHead z k) f b.is_head in
    let same : h ≡ k = (request_unique a.front h k [] [] a.is_head.reads k_here.reads).0 in
    let after : body ++ x ≡ other ++ y = append_cancel_left a.front (body ++ x) (other ++ y) (sym a.whole ∙ b.whole ∙ ap (λ z. z ++ (other ++ y)) f) in
    let both = same_split body other x y (a.is_long ∙ ap (λ z. body_length (parts_of z)) same ∙ sym b.is_long) after in
    (ap (λ z. Asks z body) same ∙ ap (λ z. Asks k z) both.0, both.1)

one_reading_of : (stream rest left : List ℕ) (ms ns : List Message) → BeginsWithAll stream ms rest → HasNoMessage rest → BeginsWithAll stream ns left → HasNoMessage left → ms ≡ ns
one_reading_of stream rest left [] [] a u b v = refl
one_reading_of stream rest left [] (n ∷ ns) a u b v = grind arith
one_reading_of stream rest left (m ∷ ms) [] a u b v = grind arith
one_reading_of stream rest left (m ∷ ms) (n ∷ ns) a u b v =
    let here = one_message stream m n a.0 b.0 a.1 b.1 in
    let later = one_reading_of a.0 rest left ms ns a.2 u (subst (λ z. BeginsWithAll z ns left) (sym here.1) b.2) v in
    ap (λ z. z ∷ ms) here.0 ∙ ap (λ z. n ∷ z) later

pub one_reading : (stream : List ℕ) (ms others : List Message) → AreMessages stream ms → AreMessages stream others → ms ≡ others
one_reading stream ms others a b = one_reading_of stream a.rest b.rest ms others a.whole a.no_more b.whole b.no_more
