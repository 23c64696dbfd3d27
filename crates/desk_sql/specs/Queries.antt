-- Texts that only read, and the result of their execution.
use Rattle.std.specs.Prelude.{◌≡◌, Bool, true, false, List, ℕ, Option, Some, None, Result, Ok, Err}
use Rattle.sqlite_ast.specs.declared.Statement.{Statement}
use Rattle.sqlite_ast.specs.declared.Statement.TheVariants as written
use Rattle.sqlite_syntax.specs.declared.statement.Parsed.{Parsed}
use Rattle.sqlite_resolve.specs.declared.error.CompileError.{CompileError}
use Rattle.sqlite_resolve.specs.Compile.{first}
use Rattle.sqlite.specs.Order.{Row}
use Rattle.sqlite.specs.declared.error.Error.{Error}
use Rattle.sqlite.specs.declared.error.Error.TheVariants.{QueryReturnedNoRows}
use Rattle.sqlite.specs.State.{State, QueriesRow, Shown, IsUnchanged}

-- the statement is a SELECT
abbrev pub is_query : Statement → Bool
is_query (written.Select s) = true
is_query _ = false

-- the text was parsed as a SELECT
abbrev pub reads : Result Parsed CompileError → Bool
reads (Ok p) = is_query p.statement
reads (Err e) = false

-- the text is a SELECT under any schema
abbrev pub IsSelect : List ℕ → Type 0
IsSelect text = reads (first text) ≡ true

-- the result of the store for a query of one row
abbrev pub one_row : Option Row → Result Row Error
one_row (Some row) = Ok row
one_row None = Err QueryReturnedNoRows

-- the query returned this row, or none, and nothing has changed
abbrev pub GivesRow : List ℕ → Row → State → State → Option Row → Type 0
GivesRow text params old new found =
    IsUnchanged old new × QueriesRow text params old new (one_row found)

-- the query returned these rows, and nothing has changed
abbrev pub GivesRows : List ℕ → Row → State → State → List Row → Type 0
GivesRows text params old new rows = IsUnchanged old new × Shown text params old new rows
