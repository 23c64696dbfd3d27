-- The text that makes the index on the agents of the journeys: what it leaves, and why it fails. For `add_index` and `make_tables`.
use Rattle.std.proofs.Common.{◌≡◌, ◌∙◌, ℕ, inl, inr, List, [], ◌∷◌, length, codes, Option, None, Ok, Err, Result, OnOk, true, false, if◌then◌else◌, refl, sym, ap, subst, arith, rules}
use Rattle.std.specs.List.{AllByRecursion}
use Rattle.sqlite_value.specs.declared.value.Value.TheVariants.{Text}
use Rattle.sqlite_value.specs.Order.{value_cmp}
use Rattle.sqlite_trees.specs.Sound.{fits_kind, is_free_name, same_name, begins}
use Rattle.sqlite_trees.specs.Tree.{Trees}
use Rattle.sqlite_schema.specs.declared.schema.Constraint.TheVariants.{Unique}
use Rattle.sqlite_schema.specs.declared.schema.Index.{Index}
use Rattle.sqlite_schema.specs.declared.schema.Schema.{Schema}
use Rattle.sqlite_schema.specs.Rules.{Keeps}
use Rattle.sqlite_rules.proofs.ListLemmas.{all_has}
use Rattle.sqlite_rules.proofs.ProbeLemmas.{has_mapped}
use Rattle.sqlite_catalog.specs.declared.error.Refusal.{Refusal}
use Rattle.sqlite_catalog.specs.declared.error.Refusal.TheVariants.{Violates}
use Rattle.sqlite_catalog.specs.Listing.{is_fit}
use Rattle.sqlite_catalog.specs.Calls.{RefusesIndex}
use Rattle.sqlite_resolve.specs.Compile.{index_defined_by}
use Rattle.sqlite.specs.Table.{Table}
use Rattle.sqlite.specs.Command.TheVariants.{CreateIndex}
use Rattle.sqlite.specs.Change.{is_used, is_reserved, indexed}
use Rattle.sqlite.specs.Does.{Tally, Does, MakesIndex as Does_index}
use Rattle.sqlite.specs.declared.error.Error.{Error}
use Rattle.sqlite.specs.Effect.{Database}
use Rattle.sqlite.specs.Listing.{understood}
use Rattle.sqlite.specs.State.{State, mode_of, Writes, Shows, ExecutesInside}
use Rattle.sqlite.proofs.Callers.{IsPlain, command_of, statement_of, runs_as}
use Rattle.sqlite_tied.specs.Compute.{everything}
use Rattle.desk_sql.specs.Schema.{desk_schema, IsExtra, journey_at}
use Rattle.desk_sql.specs.Rows.{Tables}
use Rattle.desk_sql.specs.Calls.{Makes, Sees}
use Rattle.desk_sql.specs.Causes.{IsUp, HasReason}
use Rattle.desk_sql.specs.Indexing.{agent_index_text, agent_index_at, indexed_schema, MayIndex, MakesIndex, AreShortAgents}
use Rattle.desk_sql.proofs.Causing.{takes}
use Rattle.desk_sql.proofs.CreateReasons.{as_text}
use Rattle.desk_sql.proofs.Framing.{shows_same}
use Rattle.desk_sql.proofs.Indexes.{unique_more}
use Rattle.desk_sql.proofs.Refusing.{gives_on, seen_with, statement_reason}
use Rattle.desk_sql.proofs.Storing.{storable}
use Rattle.desk_sql.proofs.Writing.{went, same_value}

abbrev text : List ℕ
text = agent_index_text

-- the table that has the index
abbrev owner : Table
owner = journey_at 6

-- What the text computes to: one statement without parameters, which makes this index on the journeys. Its name is new and no word of
-- the store, and the list of objects can hold it.
record IsNewIndex : Type 0 where
  meant : command_of (understood desk_schema text) ≡ CreateIndex 3
  plain : IsPlain (understood desk_schema text)
  alone : statement_of text (understood desk_schema text) ≡ text
  whole : takes (length text) 0 (understood desk_schema text) ≡ true
  defined : index_defined_by owner text ≡ Ok (agent_index_at 0)
  unused : is_used desk_schema (codes "journey_agent") ≡ false
  unreserved : is_reserved (codes "journey_agent") ≡ false
  listed : is_fit (Text (codes "index")) (Text (codes "journey_agent")) (Text (codes "journey")) (Text text) ≡ true
  becomes : indexed desk_schema owner (agent_index_at 0) ≡ indexed_schema

text_is : IsNewIndex
unfolding understood everything value_cmp fits_kind is_free_name same_name begins lib.Ieee.is_nan lib.Ieee.lt
text_is = grind arith

-- the index that the text defines
only : (index : Index) → index_defined_by owner text ≡ Ok index → index ≡ agent_index_at 0
only index defined = let both : Ok index ≡ Ok (agent_index_at 0) = sym defined ∙ text_is.defined in same_value both

-- it is one that the desk's tables may have
is_extra : AllByRecursion IsExtra (agent_index_at 16 ∷ [])
is_extra = (record { plain = refl; place = inl refl }, tt)

-- What it leaves.

pub makes_index : (old new : State) (r : Result ℕ Error) → MayIndex old → ExecutesInside 0 text [] old new r → OnOk r (MakesIndex old new)
makes_index old new (Err e) may h = tt
makes_index old new (Ok count) may h =
    let start = may.bare h.1.was_open in
    let w = subst (λ t. Writes old new None (CreateIndex 3) t [] count) text_is.alone
    (runs_as text [] old new desk_schema start (CreateIndex 3) text_is.meant text_is.plain count h.0) in
    let does : Does old.step_limit (mode_of old) [] (record { schema = desk_schema; trees = old.now.trees }) text None (CreateIndex 3) (Ok (w.tally, new.now))
    = subst (λ s. Does old.step_limit (mode_of old) [] (record old.now { schema = s }) text None (CreateIndex 3) (Ok (w.tally, new.now))) start w.changed in
    let all = went does in
    let made = all.1 in
    let now : new.now ≡ all.0 = ap (λ (p : Tally × Database). p.1) (same_value all.2) in
    let shown : Shows old new new.now old.committed true
    = subst (λ b. Shows old new new.now (if b then old.committed else new.now) b) may.inside w.shown in
    record {
      was_open = shown.was_open;
      is_open = shown.is_open;
      inside = shown.mode;
      schema = ap (λ (d : Database). d.schema) now ∙ made.is ∙ ap (indexed desk_schema owner) (only made.index made.defined) ∙ text_is.becomes;
      rows = subst (λ (t : Trees). AllByRecursion (λ x. t x.tree ≡ old.now.trees x.tree) desk_schema.tables)
          (sym (ap (λ (d : Database). d.trees) now)) made.rows;
      sound = w.sound;
      committed = shown.committed_is;
    }

-- a transaction that sees rows still sees them
pub indexed_makes : (old new : State) (t : Tables) → MakesIndex old new → Sees old t → Makes old new t
indexed_makes old new t it sees = search (rules, arith, is_extra, shows_same)

-- Why it fails.

unrefused : (db : Trees) (why : Refusal) → Keeps Unique desk_schema db → ¬ RefusesIndex desk_schema db owner text why
unrefused db (Violates rule) keeps (index, defined, unique, broken) =
    broken (subst (λ (s : Schema). Keeps Unique s db) (sym (ap (indexed desk_schema owner) (only index defined) ∙ text_is.becomes))
    (unique_more (agent_index_at 16 ∷ []) is_extra db keeps))
unrefused db why keeps wrong = let it = text_is in search (rules, arith, only, as_text)

-- and its row fits the list of objects, and each entry the store
unstopped : (s : State) (stop : Option Error) → Keeps Unique desk_schema s.now.trees → AreShortAgents s
    → ¬ Does_index text (seen_with desk_schema s) owner (Err stop)
unstopped s stop keeps short x = search (rules, arith, only, has_mapped, all_has, storable, as_text, unrefused)

goes : (old : State) (stop : Option Error) → Keeps Unique desk_schema old.now.trees → AreShortAgents old
    → ¬ Does old.step_limit (mode_of old) [] (seen_with desk_schema old) text None (CreateIndex 3) (Err stop)
goes old stop keeps short (inl h) = unstopped old h.0 keeps short h.1
goes old stop keeps short (inr (after, made, gives)) = gives_on stop gives

-- so it fails out of memory, or where the disk failed or refused
pub index_reason : (old new : State) (e : Error) → MayIndex old → AreShortAgents old → IsUp old → ExecutesInside 0 text [] old new (Err e)
    → HasReason old new e
index_reason old new e may short up ran =
    let has = may.bare up.is_open in
    let keeps = subst (λ (s : Schema). Keeps Unique s old.now.trees) has ((may.sound up.is_open).obeys.rules Unique) in
    statement_reason text (CreateIndex 3) [] text_is.meant text_is.plain text_is.whole refl refl old new up has
    (λ stop does. goes old stop keeps short
    (subst (λ t. Does old.step_limit (mode_of old) [] (seen_with desk_schema old) t None (CreateIndex 3) (Err stop)) text_is.alone does)) e ran
