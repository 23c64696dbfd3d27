-- Texts that are of no item, by their first letter. For the reader of items.
use Rattle.std.proofs.Common.{arith, ◌≡◌, ◌≢◌, ℕ, ◌==◌, false, List, [], ◌∷◌, ◌++◌, None, IsTrue}
use Rattle.std.proofs.lemmas.Bool.Decides.{nat_tests}
use Rattle.commands.specs.declared.items.Item.{Item}
use Rattle.commands.specs.declared.items.Item.TheVariants.{Transaction, Compensation, Turn, Save}
use Rattle.commands.specs.declared.items.Cause.{Cause}
use Rattle.commands.specs.Texts.{is_item, item_text}
use Rattle.commands.specs.Readings.{FindsCause, is_step_pair, step_pair_text, is_turn_pair, turn_pair_text}

-- no text begins with two bytes
heads_apart : (a b : ℕ) (xs ys text : List ℕ) → (a == b) ≡ false → text ≡ a ∷ xs → text ≡ b ∷ ys → ⊥
heads_apart a b xs ys text apart one other = grind (arith, nat_tests)

-- the text is of no item
abbrev pub IsNoItem : List ℕ → Type 0
IsNoItem text = (item : Item) → IsTrue (is_item item) → text ≡ item_text item → ⊥

-- the text after a T is no step and option
pub no_transaction : (text rest : List ℕ) → text ≡ 84 ∷ rest
    → ((pair : ℕ × ℕ) → IsTrue (is_step_pair pair) → rest ≡ step_pair_text pair → ⊥) → IsNoItem text
no_transaction text rest first none (Transaction step option) good spelled =
    none (step, option) good cc
no_transaction text rest first none (Compensation step option) good spelled = grind (arith, heads_apart)
no_transaction text rest first none (Turn target cause) good spelled = grind (arith, heads_apart)
no_transaction text rest first none (Save position) good spelled = grind (arith, heads_apart)

-- the text after a C is no step and option
pub no_compensation : (text rest : List ℕ) → text ≡ 67 ∷ rest
    → ((pair : ℕ × ℕ) → IsTrue (is_step_pair pair) → rest ≡ step_pair_text pair → ⊥) → IsNoItem text
no_compensation text rest first none (Transaction step option) good spelled = grind (arith, heads_apart)
no_compensation text rest first none (Compensation step option) good spelled =
    none (step, option) good cc
no_compensation text rest first none (Turn target cause) good spelled = grind (arith, heads_apart)
no_compensation text rest first none (Save position) good spelled = grind (arith, heads_apart)

-- the text after a B is no target and cause
pub no_turn : (text rest : List ℕ) → text ≡ 66 ∷ rest
    → ((pair : ℕ × Cause) → IsTrue (is_turn_pair pair) → rest ≡ turn_pair_text pair → ⊥)
    → IsNoItem text
no_turn text rest first none (Transaction step option) good spelled = grind (arith, heads_apart)
no_turn text rest first none (Compensation step option) good spelled = grind (arith, heads_apart)
no_turn text rest first none (Turn target cause) good spelled = none (target, cause) good cc
no_turn text rest first none (Save position) good spelled = grind (arith, heads_apart)

-- the text begins with no letter of an item
pub no_letter : (text : List ℕ)
    → ((rest : List ℕ) → text ≢ 84 ∷ rest) → ((rest : List ℕ) → text ≢ 67 ∷ rest)
    → ((rest : List ℕ) → text ≢ 66 ∷ rest) → ((rest : List ℕ) → text ≢ 83 ∷ rest) → IsNoItem text
no_letter text t c b s x good spelled = grind arith

-- the text ends with no letter of a cause
pub no_cause : (text : List ℕ)
    → ((front : List ℕ) → text ≢ front ++ (115 ∷ []))
    → ((front : List ℕ) → text ≢ front ++ (114 ∷ []))
    → ((front : List ℕ) → text ≢ front ++ (97 ∷ [])) → FindsCause text None
no_cause text s r a front x spelled = grind arith
