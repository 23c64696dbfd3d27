-- The words of a target are those that were printed. For the functions of `targets`.
use Rattle.std.proofs.Common.{◌≡◌, ◌∙◌, ℕ, Bool, Global, String, string_bytes, true, false, not, ◌==◌, ◌&&◌, Option, None, Some, List, [], ◌∷◌, ◌++◌, codes, drop, ap, refl, sym, append_assoc, append-nil, if◌then◌else◌}
use Rattle.std.specs.List.{list_all}
use Rattle.std.specs.Str.{is_utf8}
use Rattle.std.proofs.lemmas.Str.{IsUtf8-string_bytes, is_utf8-from_IsUtf8}
use Rattle.allotment.specs.Texts.{joined, parts}
use Rattle.allotment.proofs.JoinLemmas.{lacks, parts_joined}
use Rattle.allotment.proofs.TestLemmas.{and_both, and_make}
use Rattle.clap.specs.Words.{Text}
use Rattle.report_words.specs.Targets.{ampersand, fits_target, front, marked, question, report_after, report_asked, report_by, report_named, report_of_pieces, target_of, target_text}

-- one more word follows its mark, before those that are left
pub one_marked : (start text word with_mark with_word whole : Text) (left later : List Text)
    → with_mark ≡ start ++ codes "&" → with_word ≡ with_mark ++ text → text ≡ word
    → left ≡ word ∷ later → start ++ marked (codes "&") left ≡ whole
    → with_word ++ marked (codes "&") later ≡ whole
one_marked start text word with_mark with_word whole left later first second same words so_far =
    ap (λ (t : Text). t ++ marked (codes "&") later)
    (second ∙ ap (λ (t : Text). t ++ text) first ∙ ap (λ (t : Text). (start ++ codes "&") ++ t) same)
    ∙ append_assoc (start ++ codes "&") word (marked (codes "&") later)
    ∙ append_assoc start (codes "&") (word ++ marked (codes "&") later)
    ∙ ap (λ (ws : List Text). start ++ marked (codes "&") ws) (sym words)
    ∙ so_far

-- words with `&` before each but the first are those words joined
joined_marked : (word : Text) (later : List Text) → joined ampersand (word ∷ later) ≡ word ++ marked (codes "&") later
joined_marked word [] = sym (append-nil word)
joined_marked word (next ∷ later) = ap (λ (t : Text). word ++ ampersand ∷ t) (joined_marked next later)

-- a word that may stand in a target has neither mark
no_question : (word : Text) → fits_target word ≡ true → lacks question word ≡ true
no_question [] e = refl
no_question (b ∷ word) e =
    let both = and_both (not (b == question) && not (b == ampersand)) (fits_target word) e in
    and_make _ _ (and_both (not (b == question)) (not (b == ampersand)) both.0).0 (no_question word both.1)

no_ampersand : (word : Text) → fits_target word ≡ true → lacks ampersand word ≡ true
no_ampersand [] e = refl
no_ampersand (b ∷ word) e =
    let both = and_both (not (b == question) && not (b == ampersand)) (fits_target word) e in
    and_make _ _ (and_both (not (b == question)) (not (b == ampersand)) both.0).1 (no_ampersand word both.1)

none_ampersand : (words : List Text) → list_all fits_target words ≡ true → list_all (lacks ampersand) words ≡ true
none_ampersand [] e = refl
none_ampersand (word ∷ words) e =
    let both = and_both (fits_target word) (list_all fits_target words) e in
    and_make _ _ (no_ampersand word both.0) (none_ampersand words both.1)

-- what two texts lack, they lack one after the other
both_lack : (c : ℕ) (a b : Text) → lacks c a ≡ true → lacks c b ≡ true → lacks c (a ++ b) ≡ true
both_lack c [] b one other = other
both_lack c (x ∷ a) b one other =
    let both = and_both (not (x == c)) (lacks c a) one in and_make _ _ both.0 (both_lack c a b both.1 other)

marked_lack : (words : List Text) → list_all fits_target words ≡ true → lacks question (marked (codes "&") words) ≡ true
marked_lack [] e = refl
marked_lack (word ∷ words) e =
    let both = and_both (fits_target word) (list_all fits_target words) e in
    both_lack question word (marked (codes "&") words) (no_question word both.0) (marked_lack words both.1)

-- a report with its words is asked for by its target
named : (name : Text) (others : List Text) → fits_target name ≡ true → list_all fits_target others ≡ true
    → report_named (name ++ marked (codes "?") others) ≡ report_by (name ∷ others)
named name [] fits all =
    ap report_named (append-nil name)
    ∙ ap report_of_pieces (parts_joined question name [] (and_make _ _ (no_question name fits) refl))
named name (word ∷ later) fits all =
    let both = and_both (fits_target word) (list_all fits_target later) all in
    let query = word ++ marked (codes "&") later in
    let lack : lacks question query ≡ true = both_lack question word (marked (codes "&") later) (no_question word both.0) (marked_lack later both.1) in
    ap report_of_pieces (parts_joined question name (query ∷ []) (and_make _ _ (no_question name fits) (and_make _ _ lack refl)))
    ∙ ap (λ (t : Text). report_by (name ∷ parts ampersand t)) (sym (joined_marked word later))
    ∙ ap (λ (ws : List Text). report_by (name ∷ ws)) (parts_joined ampersand word later (none_ampersand (word ∷ later) all))

-- words have their target, if each may stand in one
pub target_is : (words : List Text) (name : Text) (others : List Text) (text target : Text) → words ≡ name ∷ others
    → list_all fits_target words ≡ true → text ≡ name ++ marked (codes "?") others → target ≡ front ++ text → Some target ≡ target_of words
target_is words name others text target are fits is made =
    ap Some (made ∙ ap (λ (t : Text). front ++ t) is)
    ∙ sym (ap (λ (b : Bool). if b then Some (target_text name others) else None) (ap (list_all fits_target) (sym are) ∙ fits))
    ∙ sym (ap target_of are)

pub target_none : (words : List Text) → list_all fits_target words ≡ false → None ≡ target_of words
target_none [] misfit = refl
target_none (name ∷ others) misfit = sym (ap (λ (b : Bool). if b then Some (target_text name others) else None) misfit)

-- what is asked for by the target of words is the report of the words
answered : (name : Text) (others : List Text) → list_all fits_target (name ∷ others) ≡ true
    → is_utf8 (name ++ marked (codes "?") others) ≡ true → report_asked (target_text name others) ≡ report_by (name ∷ others)
answered name others all valid =
    let both = and_both (fits_target name) (list_all fits_target others) all in
    let rest = name ++ marked (codes "?") others in
    ap (λ (v : Bool). if v then report_named rest else None) valid ∙ named name others both.0 both.1

-- the same of a target that was made of them
pub asked_back : (words : List Text) (name : Text) (others : List Text) (text : String Global) (target : Text) → words ≡ name ∷ others
    → list_all fits_target words ≡ true → string_bytes text ≡ name ++ marked (codes "?") others → target ≡ front ++ string_bytes text
    → report_asked target ≡ report_by words
asked_back words name others text target are fits is made =
    let valid : is_utf8 (name ++ marked (codes "?") others) ≡ true =
    ap is_utf8 (sym is) ∙ is_utf8-from_IsUtf8 (string_bytes text) (IsUtf8-string_bytes text) in
    ap report_asked (made ∙ ap (λ (t : Text). front ++ t) is)
    ∙ answered name others (ap (list_all fits_target) (sym are) ∙ fits) valid
    ∙ sym (ap report_by are)
