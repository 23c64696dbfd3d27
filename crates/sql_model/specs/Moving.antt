-- The rows that an item of a journey writes, in the order of its statements.
use Rattle.std.specs.Prelude.{ℕ}
use Rattle.allotment.specs.Want.{Wanted}
use Rattle.commands.specs.declared.items.Cause.{Cause}
use Rattle.commands.specs.declared.items.Cursor.{Cursor}
use Rattle.commands.specs.declared.items.Item.{Item}
use Rattle.commands.specs.declared.items.Item.TheVariants.{Transaction, Compensation, Turn, Save}
use Rattle.desk_sql.specs.Lists.{changed}
use Rattle.desk_sql.specs.Rows.{Tables}
use Rattle.desk_sql.specs.Stock.{with_fewer, with_more}
use Rattle.desk_sql.specs.Changes.{counts, moves_journey, marks_step, adds_item, adds_mark, drops_mark}
use Rattle.desk_sql.specs.declared.journeys.Cursor.{Cursor as CursorWritten}
use Rattle.desk_sql.specs.declared.journeys.ItemFound.{ItemFound}
use Rattle.sql_model.specs.ExpectedRows.{phase_number, target_of, cause_number}
use Rattle.sql_model.specs.Beginning.{meta_row_at}
use Rattle.sql_model.specs.Reading.{is_wanted_row}

-- each night of a want has that many fewer free places
abbrev pub takes_want : Wanted → Tables → Tables
takes_want w t = record t { stock = changed (is_wanted_row w) (with_fewer w.count) t.stock }

-- each night of a want has that many more free places
abbrev pub gives_want : Wanted → Tables → Tables
gives_want w t = record t { stock = changed (is_wanted_row w) (with_more w.count) t.stock }

-- a cursor as it is stored
abbrev pub cursor_written : Cursor → CursorWritten
cursor_written c =
    record { pos = c.pos; phase = phase_number c.phase; target = target_of c.phase; used = c.used }

-- an item as it is stored under the number of its event
abbrev pub item_written : ℕ → Item → ItemFound
item_written num (Transaction step option) =
    record { num = num; item = 0; a = step; b = option }
item_written num (Compensation step option) =
    record { num = num; item = 1; a = step; b = option }
item_written num (Turn target cause) =
    record { num = num; item = 2; a = target; b = cause_number cause }
item_written num (Save position) = record { num = num; item = 3; a = position; b = 0 }

-- the journey made this item, by the event with this number, of so many journeys
abbrev pub with_item : ℕ → ℕ → ℕ → Item → Tables → Tables
with_item num journeys j item t =
    counts (meta_row_at num journeys) (adds_item j (item_written num item) t)

-- the same, and the journey moves to this cursor
abbrev pub with_move : ℕ → ℕ → ℕ → Item → Cursor → Tables → Tables
with_move num journeys j item cursor t =
    with_item num journeys j item (moves_journey j (cursor_written cursor) t)

-- a step was done with an option: its want is taken, and so is the option
abbrev pub with_transaction : ℕ → ℕ → ℕ → Wanted → ℕ → ℕ → Cursor → Tables → Tables
with_transaction num journeys j want step option cursor t =
    with_move num journeys j (Transaction step option) cursor
    (marks_step j step option 1 (takes_want want t))

-- a step was compensated: its want is returned, its option is no longer taken, and the save-point
-- after it is dropped
abbrev pub with_compensation : ℕ → ℕ → ℕ → Wanted → ℕ → ℕ → Cursor → Tables → Tables
with_compensation num journeys j want step option cursor t =
    with_move num journeys j (Compensation step option) cursor
    (drops_mark j step (marks_step j step option 0 (gives_want want t)))

-- the journey turned back
abbrev pub with_turn : ℕ → ℕ → ℕ → ℕ → Cause → Cursor → Tables → Tables
with_turn num journeys j target cause cursor t =
    with_move num journeys j (Turn target cause) cursor t

-- the journey took a save-point
abbrev pub with_save : ℕ → ℕ → ℕ → ℕ → Tables → Tables
with_save num journeys j position t =
    with_item num journeys j (Save position) (adds_mark j position t)
