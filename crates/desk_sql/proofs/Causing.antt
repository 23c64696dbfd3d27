-- Why a read of the desk's tables fails: out of memory, or the disk failed. Each other error that the store names is shut
-- out, by what the text means under the desk's schema.
use Rattle.std.proofs.Common.{◌≡◌, ◌≢◌, ◌<◌, ℕ, List, [], length, append-nil, Bool, true, false, Ok, Err, Result, sym, ap, subst, ◌∙◌, arith, nat_le, ◌==◌, ◌&&◌, rules}
use Rattle.std.proofs.lemmas.Bool.{and_parts}
use Rattle.std.proofs.lemmas.Bool.Decides.{nat_tests}
use Rattle.sqlite.specs.declared.types.Value.{Value}
use Rattle.sqlite.specs.declared.error.Error.{Error}
use Rattle.sqlite.specs.declared.error.Error.TheVariants.{SqliteFailure}
use Rattle.sqlite.specs.declared.error.ErrorCode.TheVariants.{OutOfMemory as NoMemory}
use Rattle.sqlite_trees.specs.declared.error.StoreError.{StoreError}
use Rattle.sqlite_resolve.specs.declared.compiled.Compiled.{Compiled}
use Rattle.sqlite_resolve.specs.declared.error.CompileError.{CompileError}
use Rattle.sqlite_value.specs.declared.keys.Key.{Key}
use Rattle.sqlite.specs.Order.{Row, column}
use Rattle.sqlite.specs.Term.{Term}
use Rattle.sqlite.specs.Tree.{Trees}
use Rattle.sqlite.specs.Query.{Query}
use Rattle.sqlite.specs.Program.{QueryOverflows}
use Rattle.sqlite.specs.Command.TheVariants.{Select}
use Rattle.sqlite.specs.Reading.{IsReadError}
use Rattle.sqlite.specs.Effect.{Database, RefusesToRead}
use Rattle.sqlite.specs.Listing.{understood}
use Rattle.sqlite.specs.State as store
use Rattle.sqlite.specs.State.{State, FailsToQuery, IsNotRun, store_error}
use Rattle.sqlite_schema.specs.declared.program.Program.{Program}
use Rattle.sqlite_schema.specs.declared.schema.Schema.{Schema}
use Rattle.sqlite_schema.specs.declared.schema.Index.{Index}
use Rattle.sqlite_typing.specs.Types.{accepts_program}
use Rattle.sqlite.proofs.Callers.{command_of, IsPlain}
use Rattle.desk_sql.specs.declared.versions.Version.{Version}
use Rattle.desk_sql.specs.Schema.{schema_with, IsSchemaOf}
use Rattle.desk_sql.specs.Meanings.{sorted_rows}
use Rattle.desk_sql.specs.Causes.{IsUp, IsMemory, HasReason}
use Rattle.desk_sql.proofs.Meaning.{MeansIn}

-- Reading columns.

-- a value that can be read is not read only where there is no memory
get_memory : (at : ℕ) (r : Row) (e : Error) (Readable : Value → Type 0) → at < length r → Readable (column r at)
    → IsReadError at (column r at) e
    → (e ≢ SqliteFailure NoMemory → at < length r → ¬ Readable (column r at)) → IsMemory e
get_memory at r e x low can y kind = search (rules, arith)

-- the same, of a row that is known
pub column_memory : (at : ℕ) (r known : Row) (e : Error) (Readable : Value → Type 0) → r ≡ known → at < length known
    → Readable (column known at) → IsReadError at (column r at) e
    → (e ≢ SqliteFailure NoMemory → at < length r → ¬ Readable (column r at)) → IsMemory e
column_memory at r known e Readable is low can named kind =
    get_memory at r e Readable (subst (λ x. at < length x) (sym is) low) (subst (λ x. Readable (column x at)) (sym is) can) named kind

-- Queries.

-- a text of this length was read whole, and has so many parameters
abbrev pub takes : ℕ → ℕ → Result Compiled CompileError → Bool
takes size given (Ok c) = nat_le size c.tail && (given == length c.names)
takes size given (Err e) = false

-- under this schema the text takes these parameters
pub record TakesUnder (schema : Schema) (text : List ℕ) (query : Query) (params : Row) : Type 0 where
  pub whole : takes (length text) (length params) (understood schema text) ≡ true
  pub typed : accepts_program schema [] query params ≡ true

-- the same under the desk's schema of this version, whatever indexes it has beside those of its keys
abbrev pub Takes : Version → List ℕ → Query → Row → Type 0
Takes v text query params = (extra : List Index) → TakesUnder (schema_with v extra) text query params

-- no sum of the query overflows
abbrev pub IsSure : Query → Type 0
IsSure q = (db : Trees) (params : Row) → ¬ QueryOverflows q db params

-- a query of one table without sums has none that overflows
pub one_table : (tree : ℕ) (filter project : List Term) (order : List (Term × Key)) → IsSure (sorted_rows tree filter project order)
one_table tree filter project order db params x = search (rules, arith)

-- what a store that was up answers has a cause in the store
pub of_store : (old new : State) → IsUp old → (cause : StoreError) (e : Error) → e ≡ store_error cause → store.HasCause old new ⊥ cause
    → HasReason old new e
of_store old new up cause e is why = search (rules, arith)

-- Statements under the desk's schema of a version.
module _ {schema : Schema} (text : List ℕ) (params : Row) (plain : IsPlain (understood schema text))
    (whole : takes (length text) (length params) (understood schema text) ≡ true)
    (old new : State) (up : IsUp old) (has : old.now.schema ≡ schema) where
  taken : (r : Result Compiled CompileError) → understood old.now.schema text ≡ r → takes (length text) (length params) r ≡ true
  taken r is = search (rules, arith)

  pub plain_at : (c : Compiled) → understood old.now.schema text ≡ Ok c → IsPlain (Ok c)
  plain_at c is = subst IsPlain (sym (ap (λ s. understood s text) has) ∙ is) plain

  -- a statement that takes its parameters is run, unless the store failed
  pub not_run : (e : Error) → IsNotRun old new text params e → HasReason old new e
  unfolding IsNotRun
  not_run e x = search (rules, arith, taken, and_parts, nat_tests, plain_at, of_store)

-- A query whose sums do not overflow, whichever tables it reads.
module _ {q : Query} (sure : IsSure q) {v : Version} {text : List ℕ} {names : List (List ℕ)} (m : MeansIn v text q names)
    {params : Row} (old new : State) (up : IsUp old) (has : IsSchemaOf v old.now.schema)
    (fits : TakesUnder (schema_with v has.extra) text q params) where
  abbrev program : Program
  program = record { lets = []; body = q }

  refused : (db : Database) (e : Error) → db ≡ old.now → ¬ RefusesToRead old.step_limit (Select program names) db params e
  refused db e same x = search (rules, arith)

  -- such a query on the desk's tables fails out of memory, or where the disk failed or refused
  pub query_reason : (e : Error) → FailsToQuery text params old new e → HasReason old new e
  unfolding FailsToQuery
  query_reason e x = search (rules, arith, not_run, plain_at, command_of, append-nil, refused)
