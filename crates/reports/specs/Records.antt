-- The rows of reports as CSV records (RFC 4180): commas between fields, quotes where a field needs them, and CR LF at
-- the end of each record.
use Rattle.std.specs.Prelude.{ℕ, List, [], ◌∷◌, codes, decimal}
use Rattle.csv.specs.Writing.{default_writer, row_text, with_terminator}
use Rattle.csv.specs.declared.parser.Terminator.TheVariants.{CRLF}
use Rattle.csv.specs.declared.writer.WriterBuilder.{WriterBuilder}
use Rattle.allotment.specs.Nights.{night_text}
use Rattle.allotment.specs.Places.{held_of}
use Rattle.allotment.specs.Texts.{kind_word}
use Rattle.allotment.specs.declared.cells.Cell.{Cell}
use Rattle.allotment.specs.declared.places.Held.{Held}
use Rattle.commands.specs.Texts.{item_text, phase_word}
use Rattle.commands.specs.declared.items.Item.{Item}
use Rattle.commands.specs.declared.items.Phase.{Phase}
use Rattle.commands.specs.declared.items.Phase.TheVariants.{Run, Back, Ended, Undone}
use Rattle.saga_core.specs.declared.records.Brief.{Brief}

-- how the writer of CSV is set up
abbrev pub rfc_4180 : WriterBuilder
rfc_4180 = with_terminator default_writer CRLF

-- the record of these fields, with its line end
abbrev pub csv_line : List (List ℕ) → List ℕ
csv_line fields = row_text rfc_4180 fields

-- the columns of a cell, and its fields
abbrev pub cell_names : List (List ℕ)
cell_names =
    codes "kind" ∷ codes "supplier" ∷ codes "product" ∷ codes "night" ∷ codes "allot" ∷ codes "held" ∷ codes "free" ∷ []

abbrev pub cell_fields : Cell × Held → List (List ℕ)
cell_fields row =
    let cell = row.0 in
    let places = row.1 in
    kind_word cell.kind ∷ cell.supplier ∷ cell.product ∷ night_text cell.night
    ∷ decimal places.allot ∷ decimal (held_of places) ∷ decimal places.free ∷ []

-- the position to which a journey goes back; an empty field if it does not
abbrev pub target_field : Phase → List ℕ
target_field Run = []
target_field (Back target) = decimal target
target_field Ended = []
target_field Undone = []

-- the columns of an unfinished journey, and its fields
abbrev pub journey_names : List (List ℕ)
journey_names = codes "journey" ∷ codes "agent" ∷ codes "state" ∷ codes "pos" ∷ codes "target" ∷ []

abbrev pub journey_fields : Brief → List (List ℕ)
journey_fields brief =
    decimal brief.id ∷ brief.agent ∷ phase_word brief.cursor.phase ∷ decimal brief.cursor.pos
    ∷ target_field brief.cursor.phase ∷ []

-- the columns of an item of a history, and its fields
abbrev pub item_names : List (List ℕ)
item_names = codes "journey" ∷ codes "item" ∷ []

abbrev pub item_fields : ℕ → Item → List (List ℕ)
item_fields id item = decimal id ∷ item_text item ∷ []
