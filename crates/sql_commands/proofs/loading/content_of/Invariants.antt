-- The text so far is that of the first rows.
use Rattle.std.proofs.Common.{◌≡◌, take, string_bytes}
use Rattle.sql_model.specs.ExpectedRows.{batch_text}
use Rattle.sql_commands.proofs.loading.content_of.Given as goal

abbrev pub invariant-loop-row : goal.invariant-loop-row
invariant-loop-row l = string_bytes l.content ≡ batch_text (take l.row-index l.rows)
