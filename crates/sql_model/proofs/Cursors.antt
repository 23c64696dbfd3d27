-- A cursor as it is stored and read. For reads of journeys.
use Rattle.std.proofs.Common.{◌≡◌, Some, arith, rules}
use Rattle.commands.specs.declared.items.Cursor.{Cursor}
use Rattle.sql_model.specs.ExpectedRows.{cursor_row}
use Rattle.sql_model.specs.Reading.{cursor_in}

-- a stored cursor is read back
pub cursor_back : (c : Cursor) → cursor_in (cursor_row c) ≡ Some c
cursor_back c = search (rules, arith)
