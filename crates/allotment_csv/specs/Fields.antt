-- The fields of a record by their places.
use Rattle.std.specs.Prelude.{ℕ, Bool, false, List, [], ◌∷◌, bytes_eq, Option, option_map, option_and_then, unwrap_or}
use Rattle.std.specs.Str.{is_utf8}
use Rattle.csv.specs.Records.{field_at}
use Rattle.allotment.specs.Texts.{keep_if}
use Rattle.allotment_csv.specs.declared.fields.Fields.{Fields}

-- the texts of five fields
abbrev pub texts : Fields → List (List ℕ)
texts f = f.kind.now ∷ f.supplier.now ∷ f.product.now ∷ f.night.now ∷ f.places.now ∷ []

-- the field at this place, if it is there and is text
abbrev pub text_at : List (List ℕ) → ℕ → Option (List ℕ)
text_at fields place = option_and_then (keep_if is_utf8) (field_at fields place)

-- the field at this place is this word
abbrev pub is_at : List (List ℕ) → ℕ → List ℕ → Bool
is_at fields place word = unwrap_or (option_map (λ field. bytes_eq field word) (field_at fields place)) false
