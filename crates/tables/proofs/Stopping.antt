-- What a crash leaves, and what the connection shows, if a migration did not complete. For migrate.
use Rattle.std.proofs.Common.{◌≡◌, ◌≢◌, inl, inr, ℕ, suc, [], ◌∷◌, length, Bool, true, false, IsTrue, refl, sym, ap, ◌∙◌, arith, rules}
use Rattle.sqlite.specs.Store.{Ghosts}
use Rattle.sqlite.specs.Held.{Held, state}
use Rattle.sqlite.specs.State.{HasCleanDisk}
use Rattle.sqlite_schema.specs.declared.schema.Schema.{Schema}
use Rattle.desk_sql.specs.declared.versions.Version.{Version}
use Rattle.desk_sql.specs.declared.versions.Version.TheVariants.{One, Two}
use Rattle.desk_sql.specs.declared.meta.Meta.{Meta}
use Rattle.desk_sql.specs.Calls.{Quiet}
use Rattle.desk_sql.specs.Rows.{Tables, no_rows}
use Rattle.desk_sql.specs.Schema.{no_schema, seven_schema}
use Rattle.desk_sql.specs.Versions.{number_of, AreOfVersion, SawVersion}
use Rattle.ledger.specs.Answer.{State}
use Rattle.sql_model.specs.Keeping.{SeesOf, IsFound, KeepsIn, StoodFor, WasClean}
use Rattle.sql_model.specs.Standing.{StandsIn}
use Rattle.sql_model.proofs.Quieting.{quiet_clean, quiet_leaves}
use Rattle.tables.specs.declared.migrate_faults.MigrateFault.{MigrateFault}
use Rattle.tables.specs.declared.migrate_faults.MigrateFault.TheVariants.{AlreadyNew, UnknownSchema, Store, Memory}
use Rattle.tables.specs.Migrating.{IsRefusal, LeavesEither, LeavesOneOf, NumbersOld, ShowsAsBefore, ShowsOld, Tells, WasNotNew, WasNotOld}
use Rattle.tables.proofs.OpenKept.{was_desk}
use Rattle.tables.proofs.Quiet.{as_before}

-- version 1 has tables
not_bare : seven_schema ≡ no_schema → ⊥
not_bare e = let n : ◌≡◌ {A = ℕ} 7 0 = ap (λ (s : Schema). length s.tables) e in omega arith

-- rows that represent a state have the number of their version
has_number : (v : Version) (n : ℕ) (t : Tables) (s : State) → StandsIn v t s → AreOfVersion n t → number_of v ≡ n
has_number v n t s stands all = search (rules, arith)

module _ {S : Type 0} (g : Ghosts S) (old mid : Held S) where
  -- a version that was seen shows that the connection was open: a closed one may be said to see any rows
  pub saw_open : (n : ℕ) → SawVersion g old mid n → HasCleanDisk (state g mid) → IsTrue (state g old).is_open
  saw_open n saw clean = go (state g old).is_open refl
    where
      other : Tables
      other = record no_rows { meta = record { version = suc n; events = 0; journeys = 0 } ∷ [] }

      go : (b : Bool) → (state g old).is_open ≡ b → IsTrue (state g old).is_open
      go true e = e
      go false e =
          let all : AreOfVersion n other = saw clean Two other (λ here. absurd (let never : true ≡ false = sym here ∙ e in cc)) in
          let one : suc n ≡ n = all.0 in
          absurd (let no : ⊥ = omega (arith, one) in no)

  -- tables that show a state have the number of their version
  pub saw_number : (v : Version) (n : ℕ) (s : State) → SawVersion g old mid n → HasCleanDisk (state g mid)
      → SeesOf v (state g old) s → number_of v ≡ n
  saw_number v n s saw clean desk = search (rules, arith, has_number)

  -- where the tables have version 1, the connection represented no state in tables of version 2
  not_new : (s : State) → SawVersion g old mid 1 → (old.schema ≡ no_schema → ⊥) → HasCleanDisk (state g mid) → HasCleanDisk (state g old)
      → StoodFor Two (state g old) s → ⊥
  not_new s saw filled clean at_old stood =
      let two : 2 ≡ 1 = saw_number Two 1 s saw clean (was_desk Two (state g old) s (stood at_old) filled (saw_open 1 saw clean)) in omega (arith, two)

  module _ (quiet : Quiet g old mid) where
    -- a disk that is clean after a quiet call was clean before it
    at_first : HasCleanDisk (state g mid) → HasCleanDisk (state g old)
    at_first = quiet_clean g old mid quiet

    -- after a quiet call a crash leaves what it could leave before
    pub left_as_before : LeavesEither g old mid
    left_as_before clean v s stood db may = search (rules, arith, quiet_leaves, at_first)

    -- after such a call the connection shows what it showed
    pub shows_as_before : ShowsAsBefore g old mid
    shows_as_before clean v s stood live = ((as_before g old mid quiet).stands v s stood clean).sees live

    -- and keeps what it represented in tables of version 1
    pub kept_there : (s : State) → StoodFor One (state g old) s → KeepsIn One (state g mid) s
    kept_there s stood still = let found = (as_before g old mid quiet).stands One s stood still in record { sees = found.sees; leaves = found.leaves }

    -- where the tables have a version other than 1, the connection represented no state in tables of version 1
    not_old : (n : ℕ) → n ≢ 1 → SawVersion g old mid n → WasNotOld g old mid
    not_old n other saw clean live s stood =
        let found : IsFound One (state g old) s = stood (at_first clean) in
        other (sym (saw_number One n s saw clean (found.sees live)))

    -- where the store has no tables, the connection represented no state in tables of version 1
    bare_not_old : old.schema ≡ no_schema → WasNotOld g old mid
    bare_not_old bare clean live s stood = search (rules, arith, at_first, not_bare)

  -- so no refusal comes on tables of version 1
  pub refuses_others : Quiet g old mid → (why : MigrateFault) → Tells g old mid why → IsRefusal why → WasNotOld g old mid
  refuses_others quiet AlreadyNew told is = not_old quiet 2 (λ e. omega (arith, e)) told.0
  refuses_others quiet (UnknownSchema n) told is = elim told.0.2 [
    | inl none ↦ bare_not_old quiet none.1
    | inr saw ↦ not_old quiet n told.0.0 saw
  ]
  refuses_others quiet Store told is = absurd is
  refuses_others quiet Memory told is = absurd is

  -- A migration that goes on after tables of version 1 were read.
  module _ (new : Held S) (m : Meta) (quiet : Quiet g old mid) (saw : SawVersion g old mid 1) (filled : old.schema ≡ no_schema → ⊥)
      (sound : WasClean g mid new) where
    pub was_not_new : WasNotNew g old new
    was_not_new clean s stood = not_new s saw filled (sound clean) (at_first quiet (sound clean)) stood

    -- a crash leaves what it could leave at first, or the new tables
    pub left_either : NumbersOld g old mid m → LeavesOneOf g mid new m → LeavesEither g old new
    left_either numbers left clean it s stood db may = search (rules, arith, kept_there, left_as_before, was_not_new)

    -- the connection shows the old tables
    pub shows_either : ShowsOld g mid new → ShowsAsBefore g old new
    shows_either shows clean it s stood live = search (rules, arith, kept_there, was_not_new)
