-- The rows of records, up to the first record that is none.
use Rattle.std.specs.Prelude.{◌≡◌, ℕ, ◌+◌, ◌≤◌, ⊤, true, List, [], ◌∷◌, ◌++◌, length, Option, Some, None}
use Rattle.allotment.specs.Limits.{is_between}
use Rattle.allotment.specs.declared.cells.Row.{Row}
use Rattle.std.specs.List.{list_all}
use Rattle.commands.specs.Batches.{are_distinct, is_good_row}
use Rattle.commands.specs.Limits.{most_rows}
use Rattle.commands.specs.declared.replies.CsvCause.{CsvCause}
use Rattle.allotment_csv.specs.Rows.{record_causes, row_of_record}
use Rattle.allotment_csv.specs.Files.{causes_at}
use Rattle.allotment_csv.specs.Results.{IsFirst}

-- nothing is wrong with these records by themselves, and these are their rows
abbrev pub AreRows : List (List (List ℕ)) → List Row → Type 0
AreRows [] [] = ⊤
AreRows (fields ∷ later) (r ∷ rows) =
    (record_causes fields ≡ []) × (row_of_record fields ≡ Some r) × AreRows later rows
AreRows _ _ = ⊥

-- after the prefix stands this record, and this is the first thing that is wrong with it by itself
pub record IsStopped (all front : List (List (List ℕ))) (rows : List Row) (cause : CsvCause) : Type 0 where
  pub fields : List (List ℕ)
  pub later : List (List (List ℕ))
  pub parts : all ≡ front ++ (fields ∷ later)
  pub first : IsFirst cause (causes_at (length rows + 1) fields)

-- this prefix of the records is rows, and then the records end or this is wrong
abbrev pub Ends : List (List (List ℕ)) → List (List (List ℕ)) → List Row → Option CsvCause → Type 0
Ends all front rows None = all ≡ front
Ends all front rows (Some cause) = IsStopped all front rows cause

-- the rows of these records up to the first one that is none, and what is wrong with that one by itself
pub record IsFront (all : List (List (List ℕ))) (rows : List Row) (wrong : Option CsvCause) : Type 0 where
  pub front : List (List (List ℕ))
  pub good : AreRows front rows
  pub few : length rows ≤ most_rows
  pub end : Ends all front rows wrong

-- rows of a batch: as many as one may have, within the limits, each of another cell
pub record AreRowsOfBatch (rows : List Row) : Type 0 where
  pub many : is_between 1 most_rows (length rows) ≡ true
  pub good : list_all is_good_row rows ≡ true
  pub distinct : are_distinct rows ≡ true
