use Rattle.csv.specs.Records.{fields_of}
use Rattle.allotment_csv.specs.Fields.{texts}
use Rattle.allotment_csv.proofs.RowLemmas.{record_read, shape_first}
use Rattle.allotment_csv.proofs.rows.row_in.Goals as goal

-- it has five texts, and the row is theirs
pub returns-in-Some : goal.returns-in-Some
returns-in-Some c =
    record_read (fields_of c.args.record.now) (texts c.in-Some.fields) c.row_of.result c.in-Some.ensures c.row_of.ensures

-- it has not five texts
pub returns-in-None : goal.returns-in-None
returns-in-None c = shape_first (fields_of c.args.record.now) c.in-None.ensures
