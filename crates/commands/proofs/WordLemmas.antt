-- The texts of three, five or seven words, one by one. For the readers of replies by their words.
use Rattle.std.specs.Borrow.{Bor}
use Rattle.std.proofs.Common.{get_or, refl, sym, ap, arith, ◌≡◌, ◌≢◌, ℕ, suc, true, false, not, List, [], ◌∷◌, codes, length, bytes_eq}
use Rattle.std.proofs.lemmas.Slice.Eq.{bytes_eq-Decides}
use Rattle.commands.specs.Readings.{texts_of, loaded_words, begun_words, stood_words, turned_words}
use Rattle.commands.proofs.ReplyLemmas.{IsNoReply}

-- the text of the word at this place, which is empty past the end
abbrev pub word_at : List (Bor (List ℕ)) → ℕ → List ℕ
word_at words i = (get_or words i (record { ref_ptr = (0, 0); now = [] })).now

-- three words, one by one
three : (ws : List (Bor (List ℕ))) → length ws ≡ 3
    → texts_of ws ≡ word_at ws 0 ∷ word_at ws 1 ∷ word_at ws 2 ∷ []
three [] count = absurd (omega arith)
three (a ∷ []) count = absurd (omega arith)
three (a ∷ b ∷ []) count = absurd (omega arith)
three (a ∷ b ∷ c ∷ []) count = refl
three (a ∷ b ∷ c ∷ d ∷ ws) count = absurd (omega arith)

-- five words, one by one
five : (ws : List (Bor (List ℕ))) → length ws ≡ 5
    → texts_of ws ≡ word_at ws 0 ∷ word_at ws 1 ∷ word_at ws 2 ∷ word_at ws 3 ∷ word_at ws 4 ∷ []
five [] count = absurd (omega arith)
five (a ∷ []) count = absurd (omega arith)
five (a ∷ b ∷ []) count = absurd (omega arith)
five (a ∷ b ∷ c ∷ []) count = absurd (omega arith)
five (a ∷ b ∷ c ∷ d ∷ []) count = absurd (omega arith)
five (a ∷ b ∷ c ∷ d ∷ e ∷ []) count = refl
five (a ∷ b ∷ c ∷ d ∷ e ∷ f ∷ ws) count = absurd (omega arith)

-- seven words, one by one
pub seven : (ws : List (Bor (List ℕ))) → length ws ≡ 7
    → texts_of ws
    ≡ word_at ws 0 ∷ word_at ws 1 ∷ word_at ws 2 ∷ word_at ws 3 ∷ word_at ws 4 ∷ word_at ws 5 ∷ word_at ws 6 ∷ []
seven [] count = absurd (omega arith)
seven (a ∷ []) count = absurd (omega arith)
seven (a ∷ b ∷ []) count = absurd (omega arith)
seven (a ∷ b ∷ c ∷ []) count = absurd (omega arith)
seven (a ∷ b ∷ c ∷ d ∷ []) count = absurd (omega arith)
seven (a ∷ b ∷ c ∷ d ∷ e ∷ []) count = absurd (omega arith)
seven (a ∷ b ∷ c ∷ d ∷ e ∷ f ∷ []) count = absurd (omega arith)
seven (a ∷ b ∷ c ∷ d ∷ e ∷ f ∷ g ∷ []) count = refl
seven (a ∷ b ∷ c ∷ d ∷ e ∷ f ∷ g ∷ h ∷ ws) count = absurd (omega arith)

-- texts for which `==` answers true are equal
pub same_text : (a b : List ℕ) → true ≡ bytes_eq a b → a ≡ b
same_text a b test = (bytes_eq-Decides a b).0 (sym test)

-- texts for which `!=` answers false are equal
pub not_unlike : (a b : List ℕ) → false ≡ not (bytes_eq a b) → a ≡ b
not_unlike a b test = same_text a b (grind arith)

-- texts for which `!=` answers true differ
pub unlike : (a b : List ℕ) → true ≡ not (bytes_eq a b) → a ≢ b
unlike a b test same = grind (arith, bytes_eq-Decides)

-- the words of the reply to a batch
pub are_loaded : (ws : List (Bor (List ℕ))) → length ws ≡ 3
    → true ≡ bytes_eq (word_at ws 0) (codes "loaded")
    → texts_of ws ≡ loaded_words (word_at ws 1) (word_at ws 2)
are_loaded ws count first = cc (three ws count, same_text (word_at ws 0) (codes "loaded") first)

-- the words of the reply to a journey which begins
pub are_begun : (ws : List (Bor (List ℕ))) → length ws ≡ 3
    → true ≡ bytes_eq (word_at ws 0) (codes "journey")
    → true ≡ bytes_eq (word_at ws 2) (codes "begun") → texts_of ws ≡ begun_words (word_at ws 1)
are_begun ws count first last = search (arith, same_text, three)

-- the words of the reply for a journey which goes forward or is at its end
pub are_standing : (ws : List (Bor (List ℕ))) → length ws ≡ 5
    → false ≡ not (bytes_eq (word_at ws 0) (codes "journey"))
    → texts_of ws ≡ stood_words (word_at ws 1) (word_at ws 2) (word_at ws 3) (word_at ws 4)
are_standing ws count first = cc (five ws count, not_unlike (word_at ws 0) (codes "journey") first)

-- the words of the reply for a journey which goes back
pub are_back : (ws : List (Bor (List ℕ))) → length ws ≡ 7
    → false ≡ not (bytes_eq (word_at ws 0) (codes "journey"))
    → false ≡ not (bytes_eq (word_at ws 3) (codes "back"))
    → false ≡ not (bytes_eq (word_at ws 5) (codes "to"))
    → texts_of ws ≡ turned_words (word_at ws 1) (word_at ws 2) (word_at ws 4) (word_at ws 6)
are_back ws count first back to =
    grind (
      arith,
      not_unlike (word_at ws 0) (codes "journey") first,
      not_unlike (word_at ws 3) (codes "back") back,
      not_unlike (word_at ws 5) (codes "to"),
      seven ws count,
    )

-- there are as many texts as words
length_texts : (ws : List (Bor (List ℕ))) → length (texts_of ws) ≡ length ws
length_texts [] = refl
length_texts (w ∷ ws) = ap (λ n. suc n) (length_texts ws)

-- the reply for a journey which goes back has seven words, of which the first, the fourth and the sixth are fixed
pub no_seven : (ws : List (Bor (List ℕ))) → length ws ≡ 7
    → (word_at ws 0 ≡ codes "journey" → word_at ws 3 ≡ codes "back" → word_at ws 5 ≡ codes "to" → ⊥)
    → IsNoReply (texts_of ws)
no_seven ws count other x good spelled = grind (arith, length_texts, seven)
