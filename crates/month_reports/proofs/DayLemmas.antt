-- The day of a month is counted from 1. For the dates of nights.
use Rattle.std.proofs.Common.{ℕ, ◌+◌, ◌-◌, ◌≤◌, List, [], ◌∷◌, arith}
use Rattle.allotment.specs.Nights.{month_and_day}

pub day_from_one : (month : ℕ) (ms : List ℕ) (over : ℕ) → 1 ≤ (month_and_day month ms over).1
day_from_one month [] over = omega arith
day_from_one month (days ∷ later) over = grind (arith, day_from_one (month + 1) later (over - days))
