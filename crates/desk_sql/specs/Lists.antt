-- Rows of a table as a list of values: under rowids that are free, or under the values' own numbers.
use Rattle.std.specs.Prelude.{◌≡◌, ◌<◌, ◌≤◌, ◌<ℤ◌, ℕ, ℤ, Bool, if◌then◌else◌, List, [], ◌∷◌, map, Option, Some, None}
use Rattle.std.specs.List.Sorted.{IsPermutation}
use Rattle.sqlite.specs.declared.types.Value.TheVariants.{Int}
use Rattle.sqlite.specs.Order.{Row}
use Rattle.sqlite_trees.specs.Tree.{IsAscending}
use Rattle.sqlite_rules.specs.Lists.{Has}

-- a value under a rowid
abbrev pub numbered_row : {X : Type 0} → (X → Row) → ℤ × X → Row
numbered_row columns p = Int p.0 ∷ columns p.1

-- the rows are those of the values, in their order, under some rowids in ascending order
pub record IsTableOf {X : Type 0} (columns : X → Row) (rows : List Row) (values : List X)
    : Type 0 where
  pub numbered : List (ℤ × X)
  pub values_are : values ≡ map (λ (p : ℤ × X). p.1) numbered
  pub rows_are : rows ≡ map (numbered_row columns) numbered
  pub rise : IsAscending (λ (p q : ℤ × X). p.0 <ℤ q.0) numbered

-- the rows are those of the values, in their order, and their rowids are the values' own numbers, in
-- ascending order
pub record IsNumbered {X : Type 0} (number : X → ℕ) (row_of : X → Row) (rows : List Row)
    (values : List X) : Type 0 where
  pub rows_are : rows ≡ map row_of values
  pub rise : IsAscending (λ (x y : X). number x < number y) values

-- each value that passes the test is changed, and keeps its place
abbrev pub changed : {X : Type 0} → (X → Bool) → (X → X) → List X → List X
changed passes change values = map (λ x. if passes x then change x else x) values

-- a permutation of these values, in this order
pub record IsListed {X : Type 0} (IsUpTo : X → X → Type 0) (values listed : List X) : Type 0 where
  pub same : IsPermutation values listed
  pub rising : IsAscending IsUpTo listed

-- the value with the least number, or none if there is no value
abbrev pub IsLeastOf : {X : Type 0} → (X → ℕ) → List X → Option X → Type 0
IsLeastOf number values None = values ≡ []
IsLeastOf {X} number values (Some x) = Has values x × ((y : X) → Has values y → number x ≤ number y)

-- one of these values, or none if there is no value
abbrev pub IsOneOf : {X : Type 0} → List X → Option X → Type 0
IsOneOf values None = values ≡ []
IsOneOf values (Some x) = Has values x
