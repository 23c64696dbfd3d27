-- The order that ORDER BY gives to columns of numbers or texts. For the lemmas of each query.
use Rattle.std.proofs.Common.{◌≡◌, ◌⊎◌, inl, inr, ℕ, ◌<◌, ◌≤◌, pos, false, Ordering, Equal, is_lt, arith, int_cmp, rules}
use Rattle.std.specs.Ordering.{ordering_then}
use Rattle.std.proofs.lemmas.Int.{ints}
use Rattle.std.proofs.lemmas.Bool.Decides.{nat_tests}
use Rattle.sqlite.specs.Order.{value_cmp}
use Rattle.sqlite_value.proofs.OrderLemmas.{value_cmp-Int}
use Rattle.desk_sql.specs.Rows.{whole}

number_then : (a b : ℕ) (rest : Ordering) → is_lt (ordering_then (int_cmp (pos b) (pos a)) rest) ≡ false
    → (a < b) ⊎ ((a ≡ b) × (is_lt rest ≡ false))
number_then a b rest e = search (rules, arith, ints, nat_tests)

-- first by a number, then by the other columns
pub whole_then : (a b : ℕ) (rest : Ordering) → is_lt (ordering_then (value_cmp (whole b) (whole a)) rest) ≡ false
    → (a < b) ⊎ ((a ≡ b) × (is_lt rest ≡ false))
whole_then a b rest e = number_then a b rest (rw (value_cmp-Int (pos b) (pos a)) at e)

-- by a number alone
pub whole_last : (a b : ℕ) → is_lt (ordering_then (value_cmp (whole b) (whole a)) Equal) ≡ false → a ≤ b
whole_last a b e = elim (whole_then a b Equal e) [ inl low ↦ omega (arith, low) | inr same ↦ omega (arith, same.0) ]
