-- What is cut out of a plan line.
use Rattle.std.specs.Prelude.{◌≡◌, ℕ, List, [], ◌∷◌, None}
use Rattle.allotment.specs.Texts.{parts, slash}
use Rattle.plan.specs.declared.parts.OptionParts.{OptionParts}
use Rattle.plan.specs.PlanLine.{option_draft}

-- the six parts of an option, in their order
abbrev pub six_of : OptionParts → List (List ℕ)
six_of p =
    p.kind.now ∷ p.supplier.now ∷ p.product.now ∷ p.first.now ∷ p.nights.now ∷ p.count.now ∷ []

-- the text has these six parts, and no other
abbrev pub HasSixParts : List ℕ → OptionParts → Type 0
HasSixParts text six = parts slash text ≡ six_of six

-- the text has not six parts
abbrev pub HasNotSixParts : List ℕ → Type 0
HasNotSixParts text = option_draft text ≡ None
