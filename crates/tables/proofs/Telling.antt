-- What a refusal or a fault reports of the old store. For the functions of `migrating` and `indexing`.
use Rattle.std.proofs.Common.{◌≡◌, ◌↔◌, inr, List, Ok, refl, sym, subst, rules, arith, ◌≢◌, ◌∙◌, ap, Result, Err}
use Rattle.std.specs.List.{AllByRecursion}
use Rattle.sqlite.specs.Store.{Ghosts}
use Rattle.sqlite.specs.Held.{Held, state}
use Rattle.desk_sql.specs.declared.meta.Meta.{Meta}
use Rattle.desk_sql.specs.declared.versions.Version.{Version}
use Rattle.desk_sql.specs.Calls.{ReadsIn, Quiet}
use Rattle.desk_sql.specs.FoundRows.{IsMeta, meta_of}
use Rattle.desk_sql.specs.Rows.{MetaRow}
use Rattle.desk_sql.specs.Versions.{SawVersion}
use Rattle.desk_sql.proofs.Quieting.{survives_twice}
use Rattle.tables.specs.declared.migrate_faults.MigrateFault.{MigrateFault}
use Rattle.tables.specs.declared.migrate_faults.MigrateFault.TheVariants.{AlreadyNew, UnknownSchema, Store, Memory}
use Rattle.tables.specs.Migrating.{IsAsBefore, IsFault, IsRefusal, JudgesOld, NumbersOld, RefusesNumbers, Tells}
use Rattle.desk_sql.specs.Schema.{no_schema}
use Rattle.desk_sql.specs.declared.versions.Version.TheVariants.{One}
use Rattle.sql_model.proofs.Quieting.{quiet_clean}
use Rattle.tables.specs.Outcomes.{TriesOld}
use Rattle.tables.proofs.FailLemmas.{too_many_events}
use Rattle.tables.proofs.OpenKept.{numbers_read}
use Rattle.tables.proofs.Quiet.{as_before}

module _ {S : Type 0} (g : Ghosts S) (old new : Held S) where
  -- the one row that was read has the version of the tables
  pub saw_read : (m : Meta) → ((v : Version) → ReadsIn g old new v (Ok m) IsMeta)
      → SawVersion g old new m.version
  saw_read m found clean v t sees =
      subst (λ (rows : List MetaRow). AllByRecursion (λ (r : MetaRow). r.version ≡ m.version) rows)
      (sym (found v clean t sees).1) (refl, tt)

  -- numbers that are refused are of that version
  pub tells_numbers : (m : Meta) (why : MigrateFault) → SawVersion g old new m.version → IsAsBefore g old new
      → RefusesNumbers m why → Tells g old new why
  tells_numbers m AlreadyNew saw same is = (subst (SawVersion g old new) is saw, same)
  tells_numbers m (UnknownSchema n) saw same is =
      ((is.1, is.2, inr (subst (SawVersion g old new) (sym is.0) saw)), same)
  tells_numbers m Store saw same is = tt
  tells_numbers m Memory saw same is = absurd is

  -- an error is no refusal
  pub tells_fault : (why : MigrateFault) (IsMemory : Type 0) → (why ≡ Memory ↔ IsMemory) → (why ≡ Store ↔ (¬ IsMemory))
      → IsAsBefore g old new → Tells g old new why
  tells_fault why IsMemory memory store same = search (rules, arith)

-- After the numbers were read.

-- an error before the commit is a fault
pub is_fault : (why : MigrateFault) (IsMemory : Type 0) → (why ≡ Memory ↔ IsMemory) → (why ≡ Store ↔ (¬ IsMemory)) → IsFault why
is_fault why IsMemory memory store = search (rules, arith)

-- and a fault is no refusal
pub not_refused : (why : MigrateFault) → IsFault why → IsRefusal why → ⊥
not_refused why fault refused = search (rules, arith)

module _ {S : Type 0} (g : Ghosts S) (old mid new : Held S) where
  -- out of memory nothing has changed since the beginning
  still_as_before : IsAsBefore g old mid → IsAsBefore g mid new → IsAsBefore g old new
  still_as_before one two = search (rules, arith, survives_twice)

  pub tells_later : IsAsBefore g old mid → (why : MigrateFault) → IsFault why → (why ≡ Memory → IsAsBefore g mid new) → Tells g old new why
  tells_later same it fault memory = search (rules, arith, not_refused, still_as_before)

module _ {S : Type 0} (g : Ghosts S) (old new : Held S) (meta : Meta) (filled : old.schema ≢ no_schema) (quiet : Quiet g old new)
    (found : (v : Version) → ReadsIn g old new v (Ok meta) IsMeta) where
  -- they are those of the state that the tables represented
  numbers_are : NumbersOld g old new meta
  numbers_are clean s stood =
      numbers_read (state g old) (state g new) meta (λ v t sees. found v clean t sees) One s (stood (quiet_clean g old new quiet clean)) filled

  -- so they are accepted or refused
  pub judges : (r : Result Meta MigrateFault) → JudgesOld meta r → TriesOld g old new r
  judges (Ok m) is = record {
    filled = filled;
    numbers = λ clean s stood. ap meta_of is.same ∙ numbers_are clean s stood;
    version = subst (SawVersion g old new) (ap (λ (n : Meta). n.version) (sym is.same) ∙ is.version) (saw_read g old new meta found);
    few = is.few;
  }
  judges (Err why) refused = record {
    told = tells_numbers g old new meta why (saw_read g old new meta found) (as_before g old new quiet) refused;
    bare = λ none. absurd (filled none);
    store = λ clean s stood up store. inr (too_many_events meta s (numbers_are clean s stood) (subst (RefusesNumbers meta) store refused));
  }
