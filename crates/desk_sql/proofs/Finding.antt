-- The rows that a query on one table of the desk finds. For the lemmas of each query.
use Rattle.std.proofs.Common.{◌≡◌, ℕ, List, [], ◌∷◌, Option, Ok, Err, IsTrue, arith, rules}
use Rattle.sqlite.specs.declared.types.Value.TheVariants.{Null}
use Rattle.sqlite.specs.declared.error.Error.{Error}
use Rattle.sqlite.specs.declared.error.Error.TheVariants.{QueryReturnedNoRows}
use Rattle.sqlite.specs.Order.{Row}
use Rattle.sqlite.specs.Query.{Query, IsAnswer}
use Rattle.sqlite.specs.Program.{overlay}
use Rattle.sqlite_schema.specs.declared.program.Program.{Program}
use Rattle.sqlite.specs.Command.TheVariants.{Select}
use Rattle.sqlite.specs.Effect.{Database, RefusesToRead}
use Rattle.sqlite.specs.State.{State, QueriesRow, FailsToQuery, IsNotRun, Shown, IsUnchanged}
use Rattle.sqlite.proofs.Callers.{command_of, first_as, reads_as}
use Rattle.desk_sql.specs.declared.versions.Version.{Version}
use Rattle.desk_sql.specs.Schema.{schema_with, IsSchemaOf}
use Rattle.desk_sql.proofs.Meaning.{MeansIn}
use Rattle.desk_sql.proofs.Selecting.{not_store, understood_bare, shown_same, row_same}

-- a statement that was not run fails with another error than that of a missing row
not_run : (old new : State) (text : List ℕ) (params : Row) (e : Error) → e ≡ QueryReturnedNoRows → ¬ IsNotRun old new text params e
unfolding IsNotRun
not_run old new text params e is x = search (rules, arith, not_store)

-- a query that was stopped fails with another error too
not_refused : (q : Program) (names : List (List ℕ)) (limit : Option ℕ) (db : Database) (params : Row) (e : Error)
    → e ≡ QueryReturnedNoRows → ¬ RefusesToRead limit (Select q names) db params e
not_refused q names limit db params e is x = search (rules, arith)

module _ {v : Version} (text : List ℕ) (q : Query) (names : List (List ℕ)) (m : MeansIn v text q names) (params : Row) (old new : State)
    (has : IsTrue old.is_open → IsSchemaOf v old.now.schema) where
  abbrev program : Program
  program = record { lets = []; body = q }

  -- the row that was returned starts an answer, and nothing has changed
  pub first_row : (row : Row) → QueriesRow text params old new (Ok row)
      → IsUnchanged old new × ((tail : List Row) × IsAnswer q (overlay old.now.trees []) params (row ∷ tail))
  first_row row h =
      let same = row_same text (m []).selects params old new row h in
      let of = has same.0.was_open in
      let means = m of.extra in
      let got = (first_as text params old new (schema_with v of.extra) of.is (Select program names) means.is means.plain means.unlisted row h).1 in
      (same, (got.0, got.1 Null))

  -- the rows that were returned are an answer, and nothing has changed
  pub whole_answer : (rows : List Row) → Shown text params old new rows
      → IsUnchanged old new × IsAnswer q (overlay old.now.trees []) params rows
  whole_answer rows h =
      let same = shown_same text (m []).selects params old new rows h in
      let of = has same.0.was_open in
      let means = m of.extra in
      (same, (reads_as text params old new (schema_with v of.extra) of.is (Select program names) means.is means.plain means.unlisted rows h).answer Null)

  no_fault : (e : Error) → e ≡ QueryReturnedNoRows → ¬ FailsToQuery text params old new e
  unfolding FailsToQuery
  no_fault e none x = search (rules, arith, not_run, understood_bare, command_of, not_refused)

  -- the answer has no row
  pub no_row : (e : Error) → e ≡ QueryReturnedNoRows → QueriesRow text params old new (Err e)
      → IsUnchanged old new × IsAnswer q (overlay old.now.trees []) params []
  unfolding QueriesRow
  no_row e none x = search (rules, arith, no_fault, whole_answer)
