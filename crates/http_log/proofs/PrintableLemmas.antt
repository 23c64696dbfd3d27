-- Each line of the log has printable bytes alone. For the lines, and for what they show.
use Rattle.std.proofs.Common.{◌≡◌, ◌∙◌, ℕ, ◌/◌, ◌%◌, ◌<◌, ◌^◌, Bool, true, false, List, [], ◌∷◌, ◌++◌, ap, sym, refl, arith, subst, codes, decimal, if◌then◌else◌}
use Rattle.std.specs.List.{list_all}
use Rattle.std.proofs.lemmas.Bool.Decides.{nat_tests}
use Rattle.std.proofs.lemmas.List.{append_assoc}
use Rattle.std.proofs.lemmas.List.Folds.{list_all-append}
use Rattle.allotment.proofs.PlainLemmas.{decimal_plain, is_plain_byte}
use Rattle.allotment.proofs.TestLemmas.{and_both, and_make, list_all_weaker}
use Rattle.commands.specs.Texts.{sentence}
use Rattle.http_log.specs.Lines.{again_word, asked_words, door_word, ended_text, named, opened_text, page_words, peer_words, request_text, request_words, why_word}
use Rattle.http_log.specs.Shown.{hex_digit, is_printable, is_shown, shown_byte, shown_within}
use Rattle.http_log.specs.declared.endings.Why.{Why}
use Rattle.http_log.specs.declared.endings.Why.TheVariants.{Left, CutOff, NotTaken, Closed, LateRequest, LatePage, Displaced, Memory, Stopped}
use Rattle.http_log.specs.declared.lines.Asked.{Asked}
use Rattle.http_log.specs.declared.lines.Peer.{Peer}

-- each byte of the text prints
abbrev pub prints : List ℕ → Bool
prints = list_all is_printable

-- two texts that print, one after the other
pub both_print : (xs ys : List ℕ) → prints xs ≡ true → prints ys ≡ true → prints (xs ++ ys) ≡ true
both_print xs ys first second = list_all-append is_printable xs ys ∙ and_make (prints xs) (prints ys) first second

-- words that print, with a blank between each two
sentence_prints : (words : List (List ℕ)) → list_all prints words ≡ true → prints (sentence words) ≡ true
sentence_prints [] all = refl
sentence_prints (w ∷ []) all = (and_both (prints w) true all).0
sentence_prints (w ∷ v ∷ words) all =
    let both = and_both (prints w) (list_all prints (v ∷ words)) all in
    both_print w (32 ∷ sentence (v ∷ words)) both.0 (sentence_prints (v ∷ words) both.1)

-- a value that prints, with a name that does
named_prints : (name value : List ℕ) → prints name ≡ true → prints value ≡ true → prints (named name value) ≡ true
named_prints name value first second =
    both_print (name ++ codes "=") value (both_print name (codes "=") first refl) second

-- a digit, a capital or a dash prints
plain_prints : (b : ℕ) → is_plain_byte b ≡ true → is_printable b ≡ true
plain_prints b is = grind (arith, nat_tests)

-- the text of a number prints
decimal_prints : (n : ℕ) → n < 2 ^ 64 → prints (decimal n) ≡ true
decimal_prints n small = list_all_weaker is_plain_byte is_printable plain_prints (decimal n) (decimal_plain n small)

door_prints : (is_house : Bool) → prints (door_word is_house) ≡ true
door_prints true = refl
door_prints false = refl

again_prints : (again : Bool) → prints (again_word again) ≡ true
again_prints true = refl
again_prints false = refl

why_prints : (why : Why) → prints (why_word why) ≡ true
why_prints Left = refl
why_prints CutOff = refl
why_prints NotTaken = refl
why_prints Closed = refl
why_prints LateRequest = refl
why_prints LatePage = refl
why_prints Displaced = refl
why_prints Memory = refl
why_prints Stopped = refl

-- the word for a connection prints, before words that do
peer_prints : (peer : Peer) (more : List (List ℕ)) → peer.number < 2 ^ 64 → list_all prints more ≡ true
    → list_all prints (peer_words peer ++ more) ≡ true
peer_prints peer more small rest =
    and_make _ _ (named_prints (codes "connection") (decimal peer.number) refl (decimal_prints peer.number small))
    (and_make _ _ (named_prints (codes "door") (door_word peer.is_house) refl (door_prints peer.is_house)) rest)

-- what was asked prints, since what is shown in it does
pub request_part_prints : (asked : Asked)
    → prints (shown_within 32 asked.agent.now) ≡ true → prints (shown_within 32 asked.method.now) ≡ true
    → prints (shown_within 128 asked.target.now) ≡ true
    → prints (sentence (request_words asked)) ≡ true
request_part_prints asked agent method target =
    sentence_prints (request_words asked)
    (and_make _ _ (named_prints (codes "agent") (shown_within 32 asked.agent.now) refl agent)
    (and_make _ _ (named_prints (codes "method") (shown_within 32 asked.method.now) refl method)
    (and_make _ _ (named_prints (codes "target") (shown_within 128 asked.target.now) refl target) refl)))

-- how it was answered prints, since what is shown in it does
pub page_part_prints : (asked : Asked)
    → prints (shown_within 32 asked.status.now) ≡ true → prints (shown_within 32 asked.key.now) ≡ true
    → prints (shown_within 32 asked.refused.now) ≡ true → asked.millis < 2 ^ 64
    → prints (sentence (page_words asked)) ≡ true
page_part_prints asked status key refused small =
    sentence_prints (page_words asked)
    (and_make _ _ (named_prints (codes "status") (shown_within 32 asked.status.now) refl status)
    (and_make _ _ (named_prints (codes "key") (shown_within 32 asked.key.now) refl key)
    (and_make _ _ (named_prints (codes "again") (again_word asked.again) refl (again_prints asked.again))
    (and_make _ _ (named_prints (codes "refused") (shown_within 32 asked.refused.now) refl refused)
    (and_make _ _ (named_prints (codes "ms") (decimal asked.millis) refl (decimal_prints asked.millis small)) refl)))))

-- a sentence of three words, and then another one
three_before : (a b c : List ℕ) (later : List ℕ)
    → a ++ 32 ∷ (b ++ 32 ∷ (c ++ 32 ∷ later)) ≡ sentence (a ∷ b ∷ c ∷ []) ++ 32 ∷ later
three_before a b c later =
    ap (λ z. a ++ 32 ∷ z) (sym (append_assoc b (32 ∷ c) (32 ∷ later)))
    ∙ sym (append_assoc a (32 ∷ (b ++ 32 ∷ c)) (32 ∷ later))

-- the words of a request are those of what was asked, and then those of its page
pub asked_in_two : (asked : Asked)
    → sentence (asked_words asked) ≡ sentence (request_words asked) ++ 32 ∷ sentence (page_words asked)
asked_in_two asked =
    three_before (named (codes "agent") (shown_within 32 asked.agent.now)) (named (codes "method") (shown_within 32 asked.method.now))
    (named (codes "target") (shown_within 128 asked.target.now)) (sentence (page_words asked))

-- the line of a request prints, since both parts of it do
pub request_prints : (peer : Peer) (asked : Asked) → peer.number < 2 ^ 64
    → prints (sentence (request_words asked)) ≡ true → prints (sentence (page_words asked)) ≡ true
    → prints (request_text peer asked) ≡ true
request_prints peer asked small first second =
    let connection = named (codes "connection") (decimal peer.number) in
    let door = named (codes "door") (door_word peer.is_house) in
    both_print (codes "request") (32 ∷ (connection ++ 32 ∷ (door ++ 32 ∷ sentence (asked_words asked)))) refl
    (both_print (32 ∷ connection) (32 ∷ (door ++ 32 ∷ sentence (asked_words asked)))
    (named_prints (codes "connection") (decimal peer.number) refl (decimal_prints peer.number small))
    (both_print (32 ∷ door) (32 ∷ sentence (asked_words asked))
    (named_prints (codes "door") (door_word peer.is_house) refl (door_prints peer.is_house))
    (subst (λ z. prints (32 ∷ z) ≡ true) (sym (asked_in_two asked))
    (both_print (sentence (request_words asked)) (32 ∷ sentence (page_words asked)) first second))))

-- the line of a connection that ended prints
pub ended_prints : (peer : Peer) (requests : ℕ) (why : Why) → peer.number < 2 ^ 64 → requests < 2 ^ 64
    → prints (ended_text peer requests why) ≡ true
ended_prints peer requests why small few =
    sentence_prints (codes "ended" ∷ peer_words peer ++ named (codes "requests") (decimal requests) ∷ named (codes "why") (why_word why) ∷ [])
    (peer_prints peer (named (codes "requests") (decimal requests) ∷ named (codes "why") (why_word why) ∷ []) small
    (and_make _ _ (named_prints (codes "requests") (decimal requests) refl (decimal_prints requests few))
    (and_make _ _ (named_prints (codes "why") (why_word why) refl (why_prints why)) refl)))

-- the line of an opening prints
pub opened_prints : (recovered : ℕ) → recovered < 2 ^ 64 → prints (opened_text recovered) ≡ true
opened_prints recovered few =
    sentence_prints (codes "opened" ∷ named (codes "recovered") (decimal recovered) ∷ [])
    (and_make _ _ (named_prints (codes "recovered") (decimal recovered) refl (decimal_prints recovered few)) refl)

-- a byte that is shown as it is prints
whole_prints : (b : ℕ) → is_shown b ≡ true → is_printable b ≡ true
whole_prints b is = grind (arith, nat_tests)

-- a digit prints
digit_prints : (d : ℕ) → d < 16 → is_printable (hex_digit d) ≡ true
digit_prints d small = grind (arith, nat_tests)

-- what a byte is shown as prints
pub shown_byte_prints : (b : ℕ) → b < 256 → prints (shown_byte b) ≡ true
shown_byte_prints b small = at (is_shown b) refl
  where
    at : (is : Bool) → is_shown b ≡ is
        → prints (if is then b ∷ [] else codes "\\x" ++ hex_digit (b / 16) ∷ hex_digit (b % 16) ∷ []) ≡ true
    at true e = and_make _ _ (whole_prints b e) refl
    at false e =
        and_make _ _ (digit_prints (b / 16) (omega arith)) (and_make _ _ (digit_prints (b % 16) (omega arith)) refl)
