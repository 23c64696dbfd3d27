-- The columns of a journey that its brief shows: of its row, and of the brief itself.
use Rattle.std.specs.Prelude.{◌≡◌, ℕ, List, map}
use Rattle.saga_core.specs.declared.records.Brief.{Brief}
use Rattle.desk_sql.specs.Rows.{CursorRow, JourneyRow}
use Rattle.sql_model.specs.ExpectedRows.{cursor_row}

-- the columns of a journey's brief
pub record Short : Type 0 where
  pub id : ℕ
  pub agent : List ℕ
  pub cursor : CursorRow

abbrev pub short_of : JourneyRow → Short
short_of r = record { id = r.id; agent = r.agent; cursor = r.cursor }

-- the columns of a brief, as they are stored
abbrev pub short_told : Brief → Short
short_told b = record { id = b.id; agent = b.agent; cursor = cursor_row b.cursor }

-- the rows are those of these briefs
abbrev pub TellBriefs : List JourneyRow → List Brief → Type 0
TellBriefs rows briefs = map short_of rows ≡ map short_told briefs
