-- What a want says: so many places of a product, for some consecutive nights.
use Rattle.std.specs.Prelude.{ℕ, List}
use Rattle.allotment.specs.declared.codes.Kind.{Kind}

-- a want
pub record Wanted : Type 0 where
  pub kind : Kind
  pub supplier : List ℕ
  pub product : List ℕ
  -- the first night, and how many
  pub first : ℕ
  pub nights : ℕ
  -- how many places of each night
  pub count : ℕ

-- the want of these parts
abbrev pub wanted : Kind → List ℕ → List ℕ → ℕ → ℕ → ℕ → Wanted
wanted kind supplier product first nights count = record {
  kind = kind;
  supplier = supplier;
  product = product;
  first = first;
  nights = nights;
  count = count;
}
