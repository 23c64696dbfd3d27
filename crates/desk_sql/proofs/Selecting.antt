-- A SELECT commits and changes nothing, under any schema, so also on a closed connection. For the functions that read.
use Rattle.std.proofs.Common.{◌≡◌, ◌≢◌, ◌⊎◌, ℕ, List, true, Some, None, Ok, Err, Result, IfOk, IfErr, subst, arith, rules}
use Rattle.std.proofs.lemmas.Bool.{cases_Bool}
use Rattle.sqlite_ast.specs.declared.Statement.{Statement}
use Rattle.sqlite_syntax.specs.declared.statement.Parsed.{Parsed}
use Rattle.sqlite_schema.specs.declared.schema.Schema.{Schema}
use Rattle.sqlite.specs.Command.{Command}
use Rattle.sqlite_resolve.specs.declared.compiled.Compiled.{Compiled}
use Rattle.sqlite_resolve.specs.Lowering.{Checked, and_then}
use Rattle.sqlite_resolve.specs.Compile.{first, compiled, planned, meaning, returning, with_command}
use Rattle.sqlite.specs.Listing.{understood, if_select}
use Rattle.sqlite.specs.declared.error.Error.{Error}
use Rattle.sqlite.specs.declared.error.Error.TheVariants.{QueryReturnedNoRows}
use Rattle.sqlite_trees.specs.declared.error.StoreError.{StoreError}
use Rattle.sqlite.specs.Order.{Row}
use Rattle.sqlite.specs.Tree.{Trees}
use Rattle.sqlite.specs.State.{State, store_error, QueriesRow, FailsToQuery, IsNotRun, Shown, IsUnchanged, IsRolledBack, Survives, CommitsShowing}
use Rattle.sqlite.proofs.StateLemmas.{survives_weaker}
use Rattle.desk_sql.specs.Queries.{is_query, reads, IsSelect, GivesRow, GivesRows}
use Rattle.desk_sql.proofs.Writing.{same_value}

shows_none : (schema : Schema) (base : ℕ) (s : Statement) → is_query s ≡ true → returning schema base s ≡ Ok None
unfolding returning
shows_none schema base s is = search (rules, arith)

abbrev plan_of : Parsed → List (List ℕ) → Checked Command → Checked Compiled
plan_of p formats r =
    and_then (and_then (and_then r (λ k. Ok (k, None))) (λ found. Ok (formats, found))) (λ plan. Ok (with_command p plan))

planned_bare : (p : Parsed) (formats : List (List ℕ)) (r : Checked Command) (c : Compiled) → plan_of p formats r ≡ Ok c
    → c.returning ≡ None
planned_bare p formats r c e = search (rules, arith, same_value)

parsed_bare : (schema : Schema) (r : Checked Parsed) (c : Compiled) → reads r ≡ true
    → and_then r (λ p. and_then (planned schema p) (λ plan. Ok (with_command p plan))) ≡ Ok c → c.returning ≡ None
unfolding planned meaning
parsed_bare schema r c is e = search (rules, arith, planned_bare, shows_none)

compiled_bare : (text : List ℕ) → reads (first text) ≡ true → (schema : Schema) (c : Compiled) → compiled schema text ≡ Ok c
    → c.returning ≡ None
unfolding compiled
compiled_bare text is schema c e = parsed_bare schema (first text) c is e

listed_bare : (text : List ℕ) → reads (first text) ≡ true → (r : Checked Compiled)
    → ((c : Compiled) → r ≡ Ok c → c.returning ≡ None) → (c : Compiled) → if_select r ≡ Ok c → c.returning ≡ None
listed_bare text is r none c e = search (rules, arith, cases_Bool)

-- under no schema does it return rows that it writes
pub understood_bare : (text : List ℕ) → reads (first text) ≡ true → (schema : Schema) (c : Compiled) → understood schema text ≡ Ok c
    → c.returning ≡ None
unfolding understood
understood_bare text is schema c e = search (rules, arith, cases_Bool, listed_bare, compiled_bare)

module _ (text : List ℕ) (selects : reads (first text) ≡ true) (params : Row) (old new : State) where
  commits_never : (db : Trees) → ¬ CommitsShowing text params old db
  unfolding CommitsShowing
  commits_never db may = let bare = understood_bare text selects old.now.schema may.0 may.1.is in absurd (let some = rw bare at may.2 in cc)

  -- a SELECT never commits
  pub leaves_no_more : Survives old new (CommitsShowing text params old) → Survives old new (λ _. ⊥)
  leaves_no_more = survives_weaker old new _ _ (λ _ db may. commits_never db may)

  -- the query was run, and changed nothing
  pub shown_same : (rows : List Row) → Shown text params old new rows → IsUnchanged old new
  unfolding Shown
  shown_same rows h = search (rules, arith, understood_bare)

  pub row_same : (row : Row) → QueriesRow text params old new (Ok row) → IsUnchanged old new
  unfolding QueriesRow
  row_same row x = search (rules, arith, shown_same)

  not_run_quiet : (e : Error) → IsNotRun old new text params e → IsUnchanged old new ⊎ IsRolledBack old new
  unfolding IsNotRun
  not_run_quiet e x = search (rules, arith)

  -- a query that fails changes nothing, or is rolled back
  pub fails_quietly : (e : Error) → FailsToQuery text params old new e → IsUnchanged old new ⊎ IsRolledBack old new
  unfolding FailsToQuery
  fails_quietly e x = search (rules, arith, not_run_quiet, understood_bare)

  pub row_quiet : (r : Result Row Error) → QueriesRow text params old new r → IsUnchanged old new ⊎ IsRolledBack old new
  unfolding QueriesRow
  row_quiet (Ok row) x = search (rules, arith, shown_same)
  row_quiet (Err e) x = search (rules, arith, fails_quietly, shown_same)

-- a query for one row that gives another error than that there is none has failed
pub row_fails : (text : List ℕ) (params : Row) (old new : State) (e : Error) → e ≢ QueryReturnedNoRows
    → QueriesRow text params old new (Err e) → FailsToQuery text params old new e
unfolding QueriesRow
row_fails text params old new e other x = search (rules, arith)

pub not_store : (cause : StoreError) → store_error cause ≢ QueryReturnedNoRows
not_store cause e = search (rules, arith)

module _ (text : List ℕ) (selects : IsSelect text) (params : Row) (old new : State) where
  not_run_same : (e : Error) → e ≡ QueryReturnedNoRows → IsNotRun old new text params e → IsUnchanged old new
  unfolding IsNotRun
  not_run_same e none x = search (rules, arith, not_store)

  fails_same : (e : Error) → e ≡ QueryReturnedNoRows → FailsToQuery text params old new e → IsUnchanged old new
  unfolding FailsToQuery
  fails_same e none x = search (rules, arith, not_run_same, understood_bare)

  none_same : (e : Error) → e ≡ QueryReturnedNoRows → QueriesRow text params old new (Err e) → IsUnchanged old new
  unfolding QueriesRow
  none_same e none x = search (rules, arith, fails_same, shown_same)

  pub gives_row : (row : Row) → QueriesRow text params old new (Ok row) → GivesRow text params old new (Some row)
  gives_row row h = (row_same text selects params old new row h, h)

  pub gives_no_row : (e : Error) → e ≡ QueryReturnedNoRows → QueriesRow text params old new (Err e)
      → GivesRow text params old new None
  gives_no_row e is h = (none_same e is h, subst (λ x. QueriesRow text params old new (Err x)) is h)

  pub gives_rows : (rows : List Row) → Shown text params old new rows → GivesRows text params old new rows
  gives_rows rows h = (shown_same text selects params old new rows h, h)

-- the postcondition of a success may be replaced by a weaker one
pub ok_then : {V E : Type 0} (P Q : V → Type 0) (r : Result V E) → ((v : V) → P v → Q v) → IfOk r P → IfOk r Q
ok_then x y r step h = search (rules, arith)

pub err_then : {V E : Type 0} (P Q : E → Type 0) (r : Result V E) → ((e : E) → P e → Q e) → IfErr r P → IfErr r Q
err_then x y r step h = search (rules, arith)
