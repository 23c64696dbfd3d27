use Rattle.std.proofs.Common.{arith}
use Rattle.allotment_csv.proofs.FieldLemmas.{text_of_ascii, text_there, text_gone}
use Rattle.allotment_csv.proofs.fields.field_in.Goals as goal

-- a field of a record of ASCII is text
pub from_utf8_unchecked-requires : goal.from_utf8_unchecked-requires
from_utf8_unchecked-requires c = grind (arith, text_of_ascii)

-- a field of a record of ASCII is there, and is text
pub returns-then-ascii : goal.returns-then-ascii
returns-then-ascii c = grind (arith, text_of_ascii, text_there)

-- the field is there, and is text
pub returns-in-Ok : goal.returns-in-Ok
returns-in-Ok c = grind (arith, text_there)

-- the field is there, and is no text
pub returns-in-Err : goal.returns-in-Err
returns-in-Err c = grind (arith, text_gone)
