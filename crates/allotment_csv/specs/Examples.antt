-- Worked examples of allotment files, computed by the definitions.
use Rattle.std.specs.Prelude.{◌≡◌, ℕ, List, [], ◌∷◌, ◌++◌, codes, Ok, Err, refl}
use Rattle.std.specs.Fmt.{digits}
use Rattle.std.specs.Str.{is_utf8, chars}
use lib.Utf8.{encode}
use Rattle.csv.proofs.OnLiterals.{csv_on_literals}
use Rattle.allotment.specs.Cells.{the_cell}
use Rattle.allotment.specs.Rows.{allotted}
use Rattle.allotment.specs.declared.codes.Kind.TheVariants.{Flight, Room}
use Rattle.commands.specs.declared.replies.CsvCause.TheVariants as cause
use Rattle.allotment_csv.specs.Files.{in_csv, rows_in, batch_of}
use Rattle.allotment_csv.specs.declared.faults.CsvFault.TheVariants.{BadBody}

-- the heading of a file, and the text after it
abbrev pub behind_heading : List ℕ → List ℕ
behind_heading behind = codes "kind,supplier,product,night,places\n" ++ behind

-- the first of June 2030
abbrev pub june : ℕ
june = 22066

-- an empty file has no heading
pub empty_file : rows_in [] ≡ Err (in_csv 0 cause.Header)
unfolding digits csv_on_literals
empty_file = refl

-- a heading alone has no row
pub heading_alone : rows_in (behind_heading []) ≡ Err (in_csv 0 cause.Empty)
unfolding digits csv_on_literals
heading_alone = refl

-- a row of four fields
pub four_fields : rows_in (behind_heading (codes "flight,AL,A1,2030-06-01")) ≡ Err (in_csv 1 cause.Shape)
unfolding digits csv_on_literals is_utf8 chars encode
four_fields = refl

-- a row of no kind
pub no_kind : rows_in (behind_heading (codes "bus,AL,A1,2030-06-01,1")) ≡ Err (in_csv 1 cause.Kind)
unfolding digits csv_on_literals is_utf8 chars encode
no_kind = refl

-- a cell that is repeated
pub twice :
    rows_in (behind_heading (codes "flight,AL,A1,2030-06-01,1\nflight,AL,A1,2030-06-01,1\n"))
    ≡ Err (in_csv 2 cause.Twice)
unfolding digits csv_on_literals is_utf8 chars encode
twice = refl

-- a place too many
pub too_many_places :
    rows_in (behind_heading (codes "flight,AL,A1,2030-06-01,100001\n")) ≡ Err (in_csv 1 cause.Places)
unfolding digits csv_on_literals is_utf8 chars encode
too_many_places = refl

-- two rows
pub two_rows :
    rows_in (behind_heading (codes "flight,AL,A1,2030-06-01,10\nroom,INN,DBL,2030-06-01,4\n"))
    ≡ Ok (allotted (the_cell Flight (codes "AL") (codes "A1") june) 10
    ∷ allotted (the_cell Room (codes "INN") (codes "DBL") june) 4 ∷ [])
unfolding digits csv_on_literals is_utf8 chars encode
two_rows = refl

-- a bad name comes before what is wrong with the file
pub bad_name : batch_of (codes "B1") [] ≡ Err BadBody
bad_name = refl
