-- The batch of an allotment file, or the first thing that is wrong with it.
use Rattle.std.specs.Prelude.{ℕ, ◌+◌, not, Bool, false, List, [], ◌∷◌, ◌++◌, length, map, drop, filter_map, nat_le, option_map, unwrap_or, Result, Ok, Err, if◌then◌else◌}
use Rattle.csv.specs.Reading.{records, default_config, strip_bom}
use Rattle.allotment.specs.Making.{unless, first_fault}
use Rattle.allotment.specs.declared.cells.Row.{Row}
use Rattle.commands.specs.BatchData.{Batched}
use Rattle.commands.specs.Batches.{is_new_cell}
use Rattle.commands.specs.Limits.{most_bytes, most_rows}
use Rattle.commands.specs.Names.{is_batch_name}
use Rattle.commands.specs.declared.replies.CsvCause.{CsvCause}
use Rattle.commands.specs.declared.replies.CsvCause.TheVariants as cause
use Rattle.allotment_csv.specs.Rows.{is_heading, record_causes, row_of_record}
use Rattle.allotment_csv.specs.declared.faults.CsvFault.{CsvFault}
use Rattle.allotment_csv.specs.declared.faults.CsvFault.TheVariants.{BadBody, BadCsv}

-- this is wrong in this row
abbrev pub in_csv : ℕ → CsvCause → CsvFault
in_csv row cause = BadCsv row cause

-- the rows of these records
abbrev pub rows_of : List (List (List ℕ)) → List Row
rows_of all = filter_map row_of_record all

-- the record is a row whose cell stands in a row of these records
abbrev pub comes_again : List (List (List ℕ)) → List (List ℕ) → Bool
comes_again earlier fields =
    unwrap_or (option_map (λ (r : Row). not (is_new_cell r (rows_of earlier))) (row_of_record fields)) false

-- what is wrong with the row of this number, whatever stands before it
abbrev pub causes_at : ℕ → List (List ℕ) → List CsvCause
causes_at i fields = unless (nat_le i most_rows) cause.Many ++ record_causes fields

-- all that is wrong with a row after these ones, in the order in which it is reported
abbrev pub row_faults : List (List (List ℕ)) → List (List ℕ) → List CsvFault
row_faults earlier fields =
    map (in_csv (length earlier + 1)) (causes_at (length earlier + 1) fields)
    ++ unless (not (comes_again earlier fields)) (in_csv (length earlier + 1) cause.Twice)

-- all that is wrong with the rows after these ones, row by row
abbrev pub faults_behind : List (List (List ℕ)) → List (List (List ℕ)) → List CsvFault
faults_behind earlier [] = []
faults_behind earlier (fields ∷ later) =
    row_faults earlier fields ++ faults_behind (earlier ++ (fields ∷ [])) later

-- the first of the records is the heading
abbrev pub begins_with_heading : List (List (List ℕ)) → Bool
begins_with_heading [] = false
begins_with_heading (first ∷ later) = is_heading first

-- all that is wrong with rows, of which the first fault is reported
abbrev pub rows_faults : List (List (List ℕ)) → List CsvFault
rows_faults rows = faults_behind [] rows ++ unless (nat_le 1 (length rows)) (in_csv 0 cause.Empty)

-- all that is wrong with a file of so many bytes and these records, of which the first fault is reported
abbrev pub file_faults : ℕ → List (List (List ℕ)) → List CsvFault
file_faults size all =
    unless (nat_le size most_bytes) (in_csv 0 cause.Size)
    ++ unless (begins_with_heading all) (in_csv 0 cause.Header)
    ++ rows_faults (drop 1 all)

-- the records of a file: those that `csv` reads, with its default delimiter and quoting
abbrev pub records_in : List ℕ → List (List (List ℕ))
records_in bytes = records default_config (strip_bom bytes)

-- the rows of a file of so many bytes and these records, or the first thing that is wrong with it
abbrev pub rows_read : ℕ → List (List (List ℕ)) → Result (List Row) CsvFault
rows_read size all = first_fault (rows_of (drop 1 all)) (file_faults size all)

-- the rows of a file, or the first thing that is wrong with it
abbrev pub rows_in : List ℕ → Result (List Row) CsvFault
rows_in bytes = rows_read (length bytes) (records_in bytes)

-- rows under a name
abbrev pub named : List ℕ → Result (List Row) CsvFault → Result Batched CsvFault
named name (Ok rows) = Ok (record { name = name; rows = rows })
named name (Err fault) = Err fault

-- the batch of this name and of a file's bytes, or the first thing that is wrong with them
abbrev pub batch_of : List ℕ → List ℕ → Result Batched CsvFault
batch_of name bytes = if is_batch_name name then named name (rows_in bytes) else Err BadBody
