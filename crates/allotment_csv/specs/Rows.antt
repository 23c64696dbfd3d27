-- The row of a record, and what is wrong with a record that is none.
use Rattle.std.specs.Prelude.{ℕ, ◌==◌, ◌&&◌, Bool, true, false, List, [], ◌∷◌, ◌++◌, length, bytes_eq, codes, Option, Some, None, is_some}
use Rattle.std.specs.List.{list_all}
use Rattle.std.specs.Str.{is_utf8}
use Rattle.allotment.specs.Limits.{is_code}
use Rattle.allotment.specs.Making.{unless}
use Rattle.allotment.specs.Nights.{night_in}
use Rattle.allotment.specs.Rows.{allotted}
use Rattle.allotment.specs.Texts.{kind_of_word, cell_from, places_in}
use Rattle.allotment.specs.declared.cells.Cell.{Cell}
use Rattle.allotment.specs.declared.cells.Row.{Row}
use Rattle.commands.specs.declared.replies.CsvCause.{CsvCause}
use Rattle.commands.specs.declared.replies.CsvCause.TheVariants as cause

-- the heading of a file
abbrev pub heading : List (List ℕ)
heading = codes "kind" ∷ codes "supplier" ∷ codes "product" ∷ codes "night" ∷ codes "places" ∷ []

-- the same fields, one by one
abbrev pub are_same : List (List ℕ) → List (List ℕ) → Bool
are_same [] [] = true
are_same (x ∷ xs) (y ∷ ys) = bytes_eq x y && are_same xs ys
are_same _ _ = false

-- the record is the heading
abbrev pub is_heading : List (List ℕ) → Bool
is_heading fields = are_same fields heading

-- five fields, each of which is text
abbrev pub has_shape : List (List ℕ) → Bool
has_shape fields = (length fields == 5) && list_all is_utf8 fields

-- the fields, from the left, that are not what their column holds
abbrev pub field_causes : List (List ℕ) → List CsvCause
field_causes (kind ∷ supplier ∷ product ∷ night ∷ places ∷ []) =
    unless (is_some (kind_of_word kind)) cause.Kind
    ++ unless (is_code supplier && is_code product) cause.Code
    ++ unless (is_some (night_in night)) cause.Night
    ++ unless (is_some (places_in places)) cause.Places
field_causes _ = []

-- all that is wrong with a record by itself, in the order in which it is reported
abbrev pub record_causes : List (List ℕ) → List CsvCause
record_causes fields = unless (has_shape fields) cause.Shape ++ field_causes fields

-- so many places of a cell, where both are there
abbrev pub row_from : Option Cell → Option ℕ → Option Row
row_from (Some cell) (Some places) = Some (allotted cell places)
row_from _ _ = None

-- the row of a record
abbrev pub row_of_record : List (List ℕ) → Option Row
row_of_record (kind ∷ supplier ∷ product ∷ night ∷ places ∷ []) =
    row_from (cell_from (kind_of_word kind) supplier product (night_in night)) (places_in places)
row_of_record _ = None
