-- The field of a row that is not what its column holds.
use Rattle.std.specs.Prelude.{ℕ, List, [], ◌∷◌, ◌++◌, codes, Option, is_some, option_and_then, slice_get}
use Rattle.std.specs.String.{string_bytes}
use Rattle.allotment.specs.Limits.{is_code}
use Rattle.allotment.specs.Making.{unless}
use Rattle.allotment.specs.Nights.{night_in}
use Rattle.allotment.specs.Texts.{keep_if, kind_of_word, places_in}
use Rattle.allotment_csv.specs.Files.{records_in}
use Rattle.allotment_csv.specs.Rows.{has_shape}
use Rattle.allotment_csv.specs.declared.wrong_fields.Column.{Column}
use Rattle.allotment_csv.specs.declared.wrong_fields.Column.TheVariants as column
use Rattle.allotment_csv.specs.declared.wrong_fields.WrongField.{WrongField}

-- the name of a column in the heading
abbrev pub column_name : Column → List ℕ
column_name column.Kind = codes "kind"
column_name column.Supplier = codes "supplier"
column_name column.Product = codes "product"
column_name column.Night = codes "night"
column_name column.Places = codes "places"

-- a column and the text that stands there
abbrev pub FieldText : Type 0
FieldText = Column × List ℕ

-- the fields, from the left, that are not what their column holds
abbrev pub wrong_fields : List (List ℕ) → List FieldText
wrong_fields (kind ∷ supplier ∷ product ∷ night ∷ places ∷ []) =
    unless (is_some (kind_of_word kind)) (column.Kind, kind)
    ++ unless (is_code supplier) (column.Supplier, supplier)
    ++ unless (is_code product) (column.Product, product)
    ++ unless (is_some (night_in night)) (column.Night, night)
    ++ unless (is_some (places_in places)) (column.Places, places)
wrong_fields _ = []

-- the first field, from the left, of a record of five texts that is not what its column holds
abbrev pub first_wrong : List (List ℕ) → Option FieldText
first_wrong fields = option_and_then (λ row. slice_get (wrong_fields row) 0) (keep_if has_shape fields)

-- the same of the row of this number of a file; the heading is record 0, so that rows count from 1
abbrev pub wrong_field_in : List ℕ → ℕ → Option FieldText
wrong_field_in bytes row = option_and_then first_wrong (slice_get (records_in bytes) row)

-- the column and the text of a field
abbrev pub field_text : WrongField → FieldText
field_text field = (field.column, string_bytes field.text)
