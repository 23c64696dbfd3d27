-- What a connection keeps after an opening, and what a failed opening leaves. For found_tables and read_version.
use Rattle.std.proofs.Common.{◌≡◌, ◌⊎◌, inl, inr, ◌↔◌, ℕ, Bool, true, false, [], ◌∷◌, length, IsTrue, Some, Ok, refl, sym, ap, subst, ◌∙◌, rules, arith}
use Rattle.sqlite.specs.Store.{Ghosts}
use Rattle.sqlite.specs.Tree.{Trees}
use Rattle.sqlite.specs.Effect.{Database, IsDatabase}
use Rattle.sqlite_schema.specs.declared.schema.Schema.{Schema}
use Rattle.sqlite.specs.Held.{Held, state}
use Rattle.sqlite.specs.Steps.{FailsToCommit}
use Rattle.sqlite.specs.declared.error.Error.{Error}
use Rattle.sqlite.specs.State.{State as Connected, HasCleanDisk, IsUnchanged, IsRolledBack, KeepsCommit, Shows as ShowsNow}
use Rattle.desk_sql.specs.declared.versions.Version.{Version}
use Rattle.desk_sql.specs.declared.versions.Version.TheVariants.{One, Two}
use Rattle.desk_sql.specs.Versions.{number_of}
use Rattle.desk_sql.specs.Calls.{Sees, MaySeeIn, Founds, WasOpen, LeavesNoMore, Quiet}
use Rattle.desk_sql.specs.Changes.{founded}
use Rattle.desk_sql.specs.FoundRows.{IsMeta, meta_of}
use Rattle.desk_sql.specs.Rows.{Tables, MetaRow, ShowsIn}
use Rattle.desk_sql.specs.Schema.{no_schema, IsSchemaOf}
use Rattle.desk_sql.specs.declared.meta.Meta.{Meta}
use Rattle.commands.specs.declared.replies.Fault.{Fault}
use Rattle.commands.specs.declared.replies.Fault.TheVariants as fault
use Rattle.ledger.specs.Answer.{State, start}
use Rattle.sql_model.specs.ExpectedRows.{meta_in}
use Rattle.sql_model.specs.Keeping.{Sees as SeesFound, SeesNew}
use Rattle.sql_model.specs.Standing.{StandsFor}
use Rattle.sql_model.proofs.Founding.{founded_stands}
use Rattle.sql_model.proofs.KeepLemmas.{is_database}
use Rattle.sql_model.proofs.Quieting.{quiet_clean}
use Rattle.tables.specs.declared.faults.OpenFault.{OpenFault}
use Rattle.tables.specs.declared.faults.OpenFault.TheVariants.{Store, Memory}
use Rattle.sql_model.specs.Keeping.{MeansIn}
use Rattle.tables.specs.Keeping.{MeansOf, SeesOf, IsKept, IsKeptIn, IsFound}
use Rattle.desk_sql.specs.Calls.{Idle}
use Rattle.tables.specs.Opening.{FailsOpening, FailsToOpen, Tells}
use Rattle.tables.proofs.Quiet.{as_before}
use Rattle.sql_writes.proofs.CommitLemmas.{KeepsOne}

-- the schema of the desk has tables, in each version
pub not_bare : (v : Version) (schema : Schema) → IsSchemaOf v schema → schema ≡ no_schema → ⊥
not_bare One schema it bare = let n : ◌≡◌ {A = ℕ} 7 0 = ap (λ (s : Schema). length s.tables) (sym it.is ∙ bare) in omega (arith, n)
not_bare Two schema it bare = let n : ◌≡◌ {A = ℕ} 9 0 = ap (λ (s : Schema). length s.tables) (sym it.is ∙ bare) in omega (arith, n)

-- a connection without tables that represented a state counts as one of the newest version; it is a new desk's state
pub was_new : (v : Version) (c : Connected) (s : State) → IsFound v c s → c.now.schema ≡ no_schema → IsTrue c.is_open
    → (v ≡ Two) × (s ≡ start)
was_new One c s found bare open_now = absurd (not_bare One c.now.schema (found.sees open_now).schema bare)
was_new Two c s found bare open_now = elim (found.sees open_now) [
  | inl desk ↦ absurd (not_bare Two c.now.schema desk.schema bare)
  | inr fresh ↦ (refl, fresh.new)
]

-- a connection with tables that represented a state shows the state
pub was_desk : (v : Version) (c : Connected) (s : State) → IsFound v c s → (c.now.schema ≡ no_schema → ⊥) → IsTrue c.is_open
    → SeesOf v c s
was_desk One c s found filled open_now = found.sees open_now
was_desk Two c s found filled open_now = elim (found.sees open_now) [
  | inl desk ↦ desk
  | inr fresh ↦ absurd (filled fresh.schema)
]

-- What a failed opening leaves.

-- A store without tables is seen as before, if its databases are those of the last commit.
pub record HasGoneBack (a b : Connected) : Type 0 where
  pub was_open : IsTrue a.is_open
  pub now : b.now ≡ a.committed
  pub committed : b.committed ≡ a.committed

still_new : (a b : Connected) (s : State) → HasGoneBack a b → SeesNew a s → SeesNew b s
still_new a b s back saw = search (rules, arith)

-- a store whose transaction was rolled back is seen as before
pub gone_back : (a mid b : Connected) → KeepsCommit a mid → IsRolledBack mid b → IsTrue b.is_open → HasGoneBack a b
gone_back a mid b kept back live = search (rules, arith)

-- a commit that fails in a transaction is rolled back
pub rolled_back : (late end : Connected) (e : Error) → IsTrue late.in_transaction → FailsToCommit late end e → IsRolledBack late end
rolled_back late end e inside (inl fails) = fails.3
rolled_back late end e inside (inr over) = absurd (let no : true ≡ false = sym inside ∙ over.1 in cc)

pub still_bare : (v : Version) (a b : Connected) (s : State) → IsFound v a s → a.now.schema ≡ no_schema
    → HasGoneBack a b → SeesFound v b s
still_bare One a b s found bare back = absurd (not_bare One a.now.schema (found.sees back.was_open).schema bare)
still_bare Two a b s found bare back = elim (found.sees back.was_open) [
  | inl desk ↦ absurd (not_bare Two a.now.schema desk.schema bare)
  | inr fresh ↦ inr (still_new a b s back fresh)
]

-- A quiet call changes nothing, or is rolled back.

-- so it leaves a connection as an opening asks for it
pub quiet_idle : {S : Type 0} (g : Ghosts S) (old new : Held S) → Quiet g old new → Idle old → Idle new
quiet_idle g old new it was = record { outside = it.mode was.outside; unlimited = it.survives.limit ∙ was.unlimited }

module _ {S : Type 0} (g : Ghosts S) (old late : Held S) where
  -- if the tables were created, the connection was open, and sees the rows of a new desk
  pub has_founded : (state g old).now.schema ≡ no_schema → HasCleanDisk (state g late)
      → Founds g (record old { in_transaction = true }) late {V = Unit {0}} (Ok tt) founded
      → WasOpen g (record old { in_transaction = true }) late {V = Unit {0}} (Ok tt)
      → IsTrue (state g old).is_open × Sees (state g late) founded
  has_founded bare clean made live = search (rules, arith)

  -- the commit of these rows keeps the state of a new desk
  pub keeps_founded : KeepsOne g → (end : Held S) → Sees (state g late) founded
      → ShowsNow (state g late) (state g end) (state g late).now (state g late).now false → IsKept (state g end) start
  keeps_founded law end sees shown = search (rules, arith, is_database, founded_stands)

  -- the trees that were there before, or those of a new desk, represent a state that the connection represented
  pub either_means : (v : Version) (s : State) → IsFound v (state g old) s → (v ≡ Two) × (s ≡ start) → Sees (state g late) founded
      → (db : Trees) → (state g old).may_leave db ⊎ (db ≡ (state g late).now.trees) → MeansOf v db s
  either_means v s found new sees db (inl may) = found.leaves db may
  either_means One s found new sees db (inr is) = absurd (let never = new.0 in cc)
  either_means Two s found new sees db (inr is) = inl (subst (λ (t : Trees). MeansIn Two t s) (sym is) (record {
    of = is_database (state g late) founded sees;
    tables = founded;
    shown = sees.rows;
    stands = subst (λ (x : State). StandsFor founded x) (sym new.1) founded_stands;
  }))

module _ {S : Type 0} (g : Ghosts S) (old new : Held S) where
  -- a fault of the store implies no version
  pub tells_fault : (f : Fault) (r : OpenFault) → (r ≡ Memory ↔ f ≡ fault.Memory) → (r ≡ Store ↔ f ≡ fault.Store)
      → LeavesNoMore g old new → Tells g old new r
  tells_fault fault.Memory r memory store less = subst (λ (x : OpenFault). Tells g old new x) (sym (memory.1 refl)) less
  tells_fault fault.Store r memory store less = subst (λ (x : OpenFault). Tells g old new x) (sym (store.1 refl)) tt

-- an opening that only read, and failed for this fault, leaves all as it was
pub fails_quietly : {S : Type 0} (g : Ghosts S) (old new : Held S) → Quiet g old new → Idle old → (old.schema ≡ no_schema → ⊥)
    → (f : OpenFault) → Tells g old new f → FailsToOpen g old new f → FailsOpening g old new f
fails_quietly g old new it was filled f told store = record {
  stands = (as_before g old new it).stands;
  told = told;
  store = store;
  founds = λ clean bare up is. absurd (filled bare);
  idle = quiet_idle g old new it was;
  sound = quiet_clean g old new it;
}

module _ (old new : Connected) (m : Meta) (seen : (v : Version) (t : Tables) → MaySeeIn v old t → IsUnchanged old new × IsMeta t m) where
  -- if a version was read, the connection was open
  was_open : IsTrue old.is_open
  was_open = go old.is_open refl
    where
      go : (b : Bool) → old.is_open ≡ b → IsTrue old.is_open
      go true e = e
      go false e = (seen Two founded (λ here. absurd (let never : true ≡ false = sym here ∙ e in cc))).0.0.was_open

  module _ (v : Version) (s : State) (found : IsFound v old s) (filled : old.now.schema ≡ no_schema → ⊥) where
    -- the desk that was there
    desk : SeesOf v old s
    desk = was_desk v old s found filled was_open

    -- what was read of it
    read : IsUnchanged old new × IsMeta desk.tables m
    read = seen v desk.tables (λ _. record { schema = desk.schema; rows = desk.shown; sound = desk.sound })

    -- the numbers that were read are those of its state, and of its version
    pub numbers_read : meta_of m ≡ meta_in v s.ledger
    numbers_read = let same : meta_of m ∷ [] ≡ meta_in v s.ledger ∷ [] = sym read.1 ∙ desk.stands.meta in cc

    pub has_number : m.version ≡ number_of v
    has_number = ap (λ (r : MetaRow). r.version) numbers_read

    -- a connection that was read keeps the state that it represented
    keeps_read : ((db : Trees) → new.may_leave db → old.may_leave db) → IsKeptIn v new s
    keeps_read less =
        let is = read.0.0 in
        record {
          sees = λ _. record {
            schema = subst (λ (d : Database). IsSchemaOf v d.schema) (sym is.now_is) desk.schema;
            sound = subst IsDatabase (sym is.now_is) desk.sound;
            committed = is.now_is ∙ desk.committed ∙ sym is.committed_is;
            tables = desk.tables;
            shown = subst (λ (d : Database). ShowsIn v d.trees desk.tables) (sym is.now_is) desk.shown;
            stands = desk.stands;
          };
          leaves = λ db may. found.leaves db (less db may);
        }

    -- the version whose number was read is that of the tables
    pub is_named : (now : Version) → ((w : Version) → Some now ≡ Some w ↔ m.version ≡ number_of w) → v ≡ now
    is_named now named =
        let both : Some now ≡ Some v = (named v).1 has_number in
        let same : now ≡ v = cc in
        sym same

    -- the connection keeps the state in tables of that version
    pub keeps_named : (now : Version) → ((w : Version) → Some now ≡ Some w ↔ m.version ≡ number_of w)
        → ((db : Trees) → new.may_leave db → old.may_leave db) → IsKeptIn now new s
    keeps_named now named less =
        subst (λ w. IsKeptIn w new s) (is_named now named) (keeps_read less)
