-- Dates by their digits, whether the calendar has them or not. For reading nights.
use Rattle.std.specs.Prelude.{◌≡◌, ℕ, ◌<◌, List, ◌∷◌, [], ◌++◌}
use Rattle.allotment.specs.Nights.{two_digits, four_digits}

-- these are the two digits of this number
pub record IsPair (tens ones n : ℕ) : Type 0 where
  pub small : n < 100
  pub digits : two_digits n ≡ tens ∷ ones ∷ []

-- these are no two digits
abbrev pub IsNoPair : ℕ → ℕ → Type 0
IsNoPair tens ones = (n : ℕ) → IsPair tens ones n → ⊥

-- the text is `YYYY-MM-DD` of these numbers
pub record IsDateText (text : List ℕ) (year month day : ℕ) : Type 0 where
  pub year_small : year < 10000
  pub month_small : month < 100
  pub day_small : day < 100
  pub shown : text ≡ four_digits year ++ 45 ∷ two_digits month ++ 45 ∷ two_digits day

-- the text is `YYYY-MM-DD` of no numbers
abbrev pub IsNoDate : List ℕ → Type 0
IsNoDate text = (year month day : ℕ) → IsDateText text year month day → ⊥
