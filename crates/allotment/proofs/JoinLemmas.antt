-- Cutting a joined text gives its parts back, if no part contains the separator. For the laws of the texts, and for the
-- spelling of a plan.
use Rattle.std.proofs.Common.{◌≡◌, ℕ, Bool, true, false, not, ◌==◌, List, [], ◌∷◌, ◌++◌, refl, ap, ◌∙◌, eq-eqb, arith}
use Rattle.std.specs.List.{list_all}
use Rattle.std.proofs.lemmas.Bool.{eqb-true, not-true}
use Rattle.std.proofs.lemmas.List.Splits.{slice_split-cons_yes, slice_split-cons_no}
use Rattle.allotment.specs.Texts.{parts, joined, slash}
use Rattle.allotment.proofs.TestLemmas.{and_both, list_all_weaker}
use Rattle.allotment.proofs.PlainLemmas.{is_plain_byte, is_plain}

-- the text contains no such byte
abbrev pub lacks : ℕ → List ℕ → Bool
lacks c text = list_all (λ b. not (b == c)) text

-- a byte that is no digit, capital or dash is none of those that are
other_byte : (c b : ℕ) (t : Bool) → (b == c) ≡ t → is_plain_byte c ≡ false → is_plain_byte b ≡ true → not t ≡ true
other_byte c b t e odd fine = grind (arith, eqb-true)

-- a plain text contains no such byte
plain_lacks : (c : ℕ) (text : List ℕ) → is_plain_byte c ≡ false → is_plain text ≡ true → lacks c text ≡ true
plain_lacks c text odd e = list_all_weaker is_plain_byte (λ b. not (b == c)) (λ b. other_byte c b (b == c) refl odd) text e

-- plain texts contain no such byte
pub all_lack : (c : ℕ) (ts : List (List ℕ)) → is_plain_byte c ≡ false
    → list_all is_plain ts ≡ true → list_all (lacks c) ts ≡ true
all_lack c ts odd e = list_all_weaker is_plain (lacks c) (λ t. plain_lacks c t odd) ts e

-- a text without the byte is its own one part
no_cut : (c : ℕ) (t : List ℕ) → lacks c t ≡ true → parts c t ≡ t ∷ []
no_cut c [] e = refl
no_cut c (b ∷ t) e = grind (arith, and_both, slice_split-cons_no, not-true, no_cut c t)

-- the first cut is at the first such byte
cut_here : (c : ℕ) (t more : List ℕ) → lacks c t ≡ true → parts c (t ++ c ∷ more) ≡ t ∷ parts c more
cut_here c [] more e = slice_split-cons_yes (λ x. x == c) c more (eq-eqb c c refl)
cut_here c (b ∷ t) more e = grind (arith, and_both, slice_split-cons_no, not-true, cut_here c t more)

-- the parts of texts that were joined are the texts
pub parts_joined : (c : ℕ) (t : List ℕ) (ts : List (List ℕ))
    → list_all (lacks c) (t ∷ ts) ≡ true → parts c (joined c (t ∷ ts)) ≡ t ∷ ts
parts_joined c t [] e = no_cut c t (and_both (lacks c t) true e).0
parts_joined c t (u ∷ ts) e =
    let both = and_both (lacks c t) (list_all (lacks c) (u ∷ ts)) e in
    cut_here c t (joined c (u ∷ ts)) both.0 ∙ ap (λ z. t ∷ z) (parts_joined c u ts both.1)

-- plain texts that were joined at `/` are its parts
pub plain_parts : (t : List ℕ) (ts : List (List ℕ)) → list_all is_plain (t ∷ ts) ≡ true
    → parts slash (joined slash (t ∷ ts)) ≡ t ∷ ts
plain_parts t ts e = parts_joined slash t ts (all_lack slash (t ∷ ts) refl e)
