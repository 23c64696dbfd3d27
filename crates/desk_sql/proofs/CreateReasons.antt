-- Why a text that creates a table fails: out of memory, or the disk failed. No rule refuses a text whose names are new and which the
-- list of objects can hold. For `founding`, and for the migration of older tables.
use Rattle.std.proofs.Common.{◌≡◌, ◌⊎◌, inl, inr, ◌<◌, ◌≤◌, ◌+◌, ◌*◌, ◌^◌, ◌∙◌, ℕ, zero, suc, List, [], ◌∷◌, length, codes, Option, None, Ok, Err, Bool, true, false, not, ◌==◌, eqb-true, nat_lt, IsTrue, IsUtf8, IsAscii, refl, subst, MutBor, arith, rules}
use Rattle.std.specs.List.{AllByRecursion, list_all}
use Rattle.std.proofs.lemmas.Bool.{and_parts, not-true}
use Rattle.std.proofs.lemmas.Bool.Decides.{nat_tests}
use Rattle.std.proofs.lemmas.Str.{IsUtf8-from_ascii}
use Rattle.sqlite_value.specs.declared.value.Value.TheVariants.{Text}
use Rattle.sqlite_value.specs.Order.{value_cmp}
use Rattle.sqlite_trees.specs.Sound.{fits_kind, is_free_name, same_name, begins}
use Rattle.sqlite_schema.specs.declared.schema.Index.{Index}
use Rattle.sqlite_schema.specs.declared.schema.Schema.{Schema}
use Rattle.sqlite_schema.specs.Rules.{table_reals, index_reals}
use Rattle.sqlite_rules.proofs.ListLemmas.{all_from, test_has}
use Rattle.sqlite_catalog.specs.declared.error.Refusal.{Refusal}
use Rattle.sqlite_catalog.specs.Listing.{is_formed, is_fit}
use Rattle.sqlite_catalog.specs.Calls.{RefusesTable}
use Rattle.sqlite.specs.Table.{Table}
use Rattle.sqlite.specs.Tree.{Trees}
use Rattle.sqlite.specs.Command.TheVariants.{CreateTable}
use Rattle.sqlite.specs.Compile.{table_defined_by}
use Rattle.sqlite.specs.Change.{created, next_tree, is_used, is_reserved, automatics}
use Rattle.sqlite.specs.Rows.{Then}
use Rattle.sqlite.specs.Effect.{IsDatabase}
use Rattle.sqlite.specs.Store.{Ghosts}
use Rattle.sqlite.specs.Held.{Held, state}
use Rattle.sqlite.specs.Does.{Does, Defines, MakesTable, MakesSequence, lacks_sequence}
use Rattle.sqlite.specs.declared.error.Error.{Error}
use Rattle.sqlite.specs.Listing.{understood}
use Rattle.sqlite.specs.State.{State, mode_of, HasCleanDisk, ExecutesInside, Survives}
use Rattle.sqlite.proofs.Callers.{IsPlain, command_of, statement_of}
use Rattle.sqlite_tied.specs.Compute.{everything}
use Rattle.desk_sql.specs.Schema.{meta_at, stock_at, batch_at, journey_at, step_at, entry_at, answer_at, entry2_at, mark_at, no_schema, seven_schema, desk_schema}
use Rattle.desk_sql.specs.Texts.{meta_text, stock_text, batch_text, step_text, journey_text, entry_text, answer_text, entry2_text, mark_text}
use Rattle.desk_sql.specs.Calls.{MayBuild, IsEmptyWith, LeavesNoMore, CommitsNothing}
use Rattle.desk_sql.specs.Causes.{IsUp, HasReason}
use Rattle.desk_sql.specs.Indexing.{MayIndex}
use Rattle.desk_sql.proofs.Causing.{takes}
use Rattle.desk_sql.proofs.Making.{creates, schema_8, then_build}
use Rattle.desk_sql.proofs.Quieting.{faulted_earlier, faulted_later, survives_alone, survives_twice}
use Rattle.desk_sql.proofs.Refusing.{gives_on, seen_with, statement_reason}

-- each byte is ASCII
abbrev pub is_ascii : List ℕ → Bool
is_ascii bytes = list_all (λ b. nat_lt b 128) bytes

-- what the text must be beside this schema: its letters and its names, the limits of the store, its key, its row in the list of objects,
-- and that it needs no counter
abbrev tests_of : Schema → List ℕ → Table → List Bool
tests_of schema sql table =
    is_ascii sql ∷ is_ascii table.name ∷ not (is_used schema table.name)
    ∷ list_all (λ (i : Index). not (is_used schema i.name)) (automatics table 0 0 table.uniques) ∷ not (is_reserved table.name)
    ∷ nat_lt (next_tree schema + length table.uniques) 65536 ∷ (table_reals table == 0)
    ∷ list_all (λ key. index_reals (table_reals table) key == 0) table.uniques ∷ nat_lt (2 * length table.name + length sql + 200) 65536
    ∷ is_formed table ∷ is_fit (Text (codes "table")) (Text table.name) (Text table.name) (Text sql)
    ∷ not (lacks_sequence (created schema table)) ∷ []

-- Beside this schema the text creates this table: its name and those of its indexes are new, and it meets no limit of the store.
pub record IsNewTable (schema : Schema) (sql : List ℕ) (table : Table) : Type 0 where
  -- the text is one statement without parameters
  pub meant : command_of (understood schema sql) ≡ CreateTable
  pub plain : IsPlain (understood schema sql)
  pub alone : statement_of sql (understood schema sql) ≡ sql
  pub whole : takes (length sql) 0 (understood schema sql) ≡ true
  pub defined : table_defined_by sql ≡ Ok table
  pub tests : list_all (λ b. b) (tests_of schema sql table) ≡ true

under : (a b : ℕ) → nat_lt a b ≡ true → a < b
under a b less = grind (arith, nat_tests)

no_reals : (n : ℕ) → n ≡ 0 → 2 ^ 64 ≤ n → ⊥
no_reals n none big = omega (arith, none, big)

ascii : (bytes : List ℕ) → is_ascii bytes ≡ true → IsAscii bytes
ascii [] all i = omega arith
ascii (b ∷ bytes) all zero = under b 128 (and_parts (nat_lt b 128) (is_ascii bytes) all).0
ascii (b ∷ bytes) all (suc i) = ascii bytes (and_parts (nat_lt b 128) (is_ascii bytes) all).1 i

-- bytes of ASCII are a text
pub as_text : (bytes : List ℕ) → is_ascii bytes ≡ true → IsUtf8 bytes
as_text bytes all = IsUtf8-from_ascii bytes (ascii bytes all)

module _ (schema : Schema) (sql : List ℕ) (table : Table) (it : IsNewTable schema sql table) where
  each : AllByRecursion (λ b. b ≡ true) (tests_of schema sql table)
  each = all_from (λ b. b ≡ true) (tests_of schema sql table) (λ b there. test_has (λ b. b) (tests_of schema sql table) b it.tests there)

  -- the text defines no other table
  only : (made : Table) → table_defined_by sql ≡ Ok made → made ≡ table
  only made defined = search (rules, arith)

  -- no rule refuses it
  unrefused : (why : Refusal) → ¬ RefusesTable schema sql why
  unrefused why wrong = let known = each in search (rules, arith, only, test_has, not-true, eqb-true, as_text, under, no_reals)

  -- and its row fits the list of objects, whatever the trees are
  unstopped : (db : Trees) (stop : Option Error) → ¬ MakesTable sql (record { schema = schema; trees = db }) (Err stop)
  unstopped db stop x = let known = each in search (rules, arith, under, only, not-true, as_text, unrefused)

  goes : (old : State) (stop : Option Error) → ¬ Defines (mode_of old) (Then (MakesTable sql (seen_with schema old)) MakesSequence) (Err stop)
  goes old stop x = let known = each in search (rules, arith, unstopped, only, not-true, gives_on)

  -- so it fails out of memory, or where the disk failed or refused
  pub create_reason : (old new : State) (e : Error) → IsUp old → old.now.schema ≡ schema → ExecutesInside 0 sql [] old new (Err e) → HasReason old new e
  create_reason old new e up has ran =
      statement_reason sql CreateTable [] it.meant it.plain it.whole refl refl old new up has
      (λ stop does. goes old stop (subst (λ t. Does old.step_limit (mode_of old) [] (seen_with schema old) t None CreateTable (Err stop)) it.alone does))
      e ran

-- it needs no counter
uncounted : {schema : Schema} {sql : List ℕ} {table : Table} → IsNewTable schema sql table → lacks_sequence (created schema table) ≡ false
uncounted {schema = schema} {sql = sql} {table = table} it = let known = each schema sql table it in search (rules, not-true)

-- a reason of a later statement is one of all
pub reason_since : (a b c : State) (e : Error) → a.faults ≤ b.faults → HasReason b c e → HasReason a c e
reason_since a b c e low x = search (rules, arith, faulted_later)

-- so is a failure after calls that left the store up, if they did
pub fails_later : (a b c : State) (e : Error) → Survives a b (λ _. ⊥) → HasCleanDisk b → IsUp a → b.faults ≤ c.faults
    → (IsUp b → HasReason b c e) → HasReason a c e
fails_later a b c e one clean up low fails = search (rules, arith, reason_since, faulted_earlier)

-- One text after another.

-- the text creates a table beside these tables, and more holds of those that there are then
pub record Leads (at : Schema) (text : List ℕ) (More : Schema → Type 0) : Type 0 where
  pub table : Table
  pub new : IsNewTable at text table
  pub more : More (created at table)

led : {at : Schema} {text : List ℕ} {More : Schema → Type 0} (table : Table) → IsNewTable at text table → More (created at table) → Leads at text More
led table new more = record { table = table; new = new; more = more }

-- each text creates a table beside those before it, and they lead to all tables of the desk
abbrev pub Lead : List (List ℕ) → Schema → Type 0
Lead [] at = at ≡ desk_schema
Lead (text ∷ texts) at = Leads at text (Lead texts)

-- these texts do, beside the tables of the connection, which have no row
pub record Reaches (s : State) (texts : List (List ℕ)) : Type 0 where
  pub at : Schema
  pub lead : Lead texts at
  pub may : MayBuild at s
  pub sound : (at ≡ no_schema) ⊎ (IsTrue s.is_open → IsDatabase s.now)

-- where no text is left, the tables are all there, and the index can be made
pub all_reached : (s : State) → Reaches s [] → MayIndex s × (IsTrue s.is_open → IsEmptyWith desk_schema s)
all_reached s it = search (rules, arith)

-- The texts were run in the transaction up to these.
pub record Runs {S : Type 0} (g : Ghosts S) (old new : MutBor (Held S)) (texts : List (List ℕ)) : Type 0 where
  pub same_reference : new.ghost_name ≡ old.ghost_name
  pub survives : LeavesNoMore g old.now new.now
  pub inside : HasCleanDisk (state g new.now) → IsTrue (state g old.now).in_transaction → IsTrue (state g new.now).in_transaction
  pub commit : CommitsNothing g old.now new.now
  pub reached : HasCleanDisk (state g new.now) → MayBuild no_schema (state g old.now) → Reaches (state g new.now) texts

module _ {S : Type 0} (g : Ghosts S) (a b c : MutBor (Held S)) (text : List ℕ) (same : c.ghost_name ≡ b.ghost_name)
    (survives : LeavesNoMore g b.now c.now) (left texts : List (List ℕ)) (it : Runs g a b left) where
  clean_before : HasCleanDisk (state g c.now) → HasCleanDisk (state g b.now)
  clean_before clean = omega (arith, survives.clean, clean)

  -- so they were up to the text after the next
  pub runs_next : (count : ℕ)
      → (HasCleanDisk (state g c.now) → IsTrue (state g b.now).in_transaction → ExecutesInside 0 text [] (state g b.now) (state g c.now) (Ok count))
      → left ≡ text ∷ texts → Runs g a c texts
  runs_next count runs next = record {
    same_reference = same ∙ it.same_reference;
    survives = survives_twice (state g a.now) (state g b.now) (state g c.now) it.survives survives;
    inside = λ clean inside. (runs clean (it.inside (clean_before clean) inside)).1.mode;
    commit = λ clean inside. (
        let ran = (runs clean (it.inside (clean_before clean) inside)).1 in
        let before = it.commit (clean_before clean) inside in
        record { was_open = λ _. before.was_open ran.was_open; committed = λ _. ran.committed_is ∙ before.committed ran.was_open });
    reached = λ clean start. (
        let was = subst (Reaches (state g b.now)) next (it.reached (clean_before clean) start) in
        let new = was.lead.new in
        let made = creates text (state g b.now) (state g c.now) was.at was.lead.table (Ok count) new.meant new.plain new.alone
        new.defined (uncounted new)
        was.may (runs clean was.may.inside) in
        record { at = created was.at was.lead.table; lead = was.lead.more; may = then_build _ _ _ made; sound = inr (λ _. made.sound) });
  }

  pub text_fails : (e : Error)
      → (HasCleanDisk (state g c.now) → IsTrue (state g b.now).in_transaction → ExecutesInside 0 text [] (state g b.now) (state g c.now) (Err e))
      → left ≡ text ∷ texts → HasCleanDisk (state g c.now) → MayBuild no_schema (state g a.now) → IsUp (state g a.now)
      → HasReason (state g a.now) (state g c.now) e
  text_fails e runs next clean start up =
      let was = subst (Reaches (state g b.now)) next (it.reached (clean_before clean) start) in
      fails_later (state g a.now) (state g b.now) (state g c.now) e it.survives (clean_before clean) up survives.counts
      (λ live. create_reason was.at text was.lead.table was.lead.new (state g b.now) (state g c.now) e live (was.may.empty live.is_open).is
      (runs clean was.may.inside))

-- The texts.

-- they are those of `make_tables`
abbrev pub table_texts : List (List ℕ)
table_texts = meta_text ∷ stock_text ∷ batch_text ∷ journey_text ∷ step_text ∷ entry_text ∷ answer_text ∷ entry2_text ∷ mark_text ∷ []

-- each of their facts is found by computing
pub entry2_is_new : IsNewTable seven_schema entry2_text (entry2_at 0)
unfolding understood everything value_cmp fits_kind is_free_name same_name begins lib.Ieee.is_nan lib.Ieee.lt
entry2_is_new = record { meant = refl; plain = (refl, refl); alone = refl; whole = refl; defined = refl; tests = refl }

pub mark_is_new : IsNewTable schema_8 mark_text (mark_at 0)
unfolding understood everything value_cmp fits_kind is_free_name same_name begins lib.Ieee.is_nan lib.Ieee.lt
mark_is_new = record { meant = refl; plain = (refl, refl); alone = refl; whole = refl; defined = refl; tests = refl }

all_lead : Lead table_texts no_schema
unfolding understood everything value_cmp fits_kind is_free_name same_name begins lib.Ieee.is_nan lib.Ieee.lt
all_lead =
    led (meta_at 0) (record { meant = refl; plain = (refl, refl); alone = refl; whole = refl; defined = refl; tests = refl })
    (led (stock_at 0) (record { meant = refl; plain = (refl, refl); alone = refl; whole = refl; defined = refl; tests = refl })
    (led (batch_at 0) (record { meant = refl; plain = (refl, refl); alone = refl; whole = refl; defined = refl; tests = refl })
    (led (journey_at 0) (record { meant = refl; plain = (refl, refl); alone = refl; whole = refl; defined = refl; tests = refl })
    (led (step_at 0) (record { meant = refl; plain = (refl, refl); alone = refl; whole = refl; defined = refl; tests = refl })
    (led (entry_at 0) (record { meant = refl; plain = (refl, refl); alone = refl; whole = refl; defined = refl; tests = refl })
    (led (answer_at 0) (record { meant = refl; plain = (refl, refl); alone = refl; whole = refl; defined = refl; tests = refl })
    (led (entry2_at 0) entry2_is_new (led (mark_at 0) mark_is_new refl))))))))

-- before any of them is run, all are left
pub runs_none : {S : Type 0} (g : Ghosts S) (h : MutBor (Held S)) → Runs g h h table_texts
runs_none g h = record {
  same_reference = refl;
  survives = survives_alone (state g h.now);
  inside = λ clean inside. inside;
  commit = λ clean inside. record { was_open = λ live. live; committed = λ live. refl };
  reached = λ clean start. record { at = no_schema; lead = all_lead; may = start; sound = inl refl };
}
