-- What a transaction that makes the index leaves, however it ends, and what the reading before it says. For the functions of `indexing`.
use Rattle.std.proofs.Common.{◌≡◌, ◌≢◌, ◌↔◌, ◌+◌, ◌<◌, inl, inr, ℕ, suc, List, [], ◌∷◌, length, true, false, Result, Ok, Err, IsTrue, refl, sym, ap, subst, ◌∙◌, arith, rules}
use Rattle.std.specs.Prelude.{⊤}
use Rattle.sqlite.specs.Store.{Ghosts}
use Rattle.sqlite.specs.Effect.{Database, IsDatabase}
use Rattle.sqlite.specs.Held.{Held, state}
use Rattle.sqlite.specs.Steps.{FailsToCommit}
use Rattle.sqlite.specs.declared.error.Error.{Error}
use Rattle.sqlite.specs.State.{HasCleanDisk, IsRolledBack, KeepsCommit, Survives, Shows as ShowsNow}
use Rattle.sqlite_schema.specs.declared.schema.Index.{Index}
use Rattle.sqlite_schema.specs.declared.schema.Schema.{Schema}
use Rattle.desk_sql.specs.declared.versions.Version.{Version}
use Rattle.desk_sql.specs.declared.versions.Version.TheVariants.{One, Two}
use Rattle.desk_sql.specs.Calls.{LeavesNoMore, MayRun, Quiet, ReadsIn}
use Rattle.desk_sql.specs.Indexing.{HasExtra, MayIndex, MakesIndex}
use Rattle.desk_sql.specs.Rows.{Tables, Shows}
use Rattle.desk_sql.specs.FoundRows.{IsMeta, meta_of}
use Rattle.desk_sql.specs.Schema.{no_schema, desk_schema, desk_with, IsSchemaOf}
use Rattle.desk_sql.specs.Versions.{SawVersion}
use Rattle.desk_sql.specs.declared.meta.Meta.{Meta}
use Rattle.desk_sql.proofs.AgentIndex.{indexed_makes}
use Rattle.ledger.specs.Answer.{State}
use Rattle.desk_sql.specs.Writable.{HasRowids}
use Rattle.sql_model.specs.Keeping.{IsFound, IsKeptIn, KeepsIn, SeesDesk, StoodFor}
use Rattle.sql_model.proofs.KeepLemmas.{same_desk}
use Rattle.sql_model.proofs.Quieting.{quiet_clean, quiet_keeps}
use Rattle.tables.specs.declared.migrate_faults.MigrateFault.{MigrateFault}
use Rattle.tables.specs.declared.migrate_faults.MigrateFault.TheVariants.{Store, Memory}
use Rattle.tables.specs.Indexing.{JudgesNewest, Keeps, RefusesIndex, StandsOn, TriesNewest}
use Rattle.tables.specs.Migrating.{IsFault}
use Rattle.tables.proofs.OpenKept.{numbers_read, was_desk}
use Rattle.tables.proofs.Stopping.{saw_open, saw_number}
use Rattle.tables.proofs.Telling.{is_fault, saw_read}
use Rattle.sql_writes.proofs.CommitLemmas.{KeepsOne, Left, Wrote, keeps_next, either_left}

none_more : (n : ℕ) → 0 + n ≡ n
none_more n = omega arith

-- the desk's tables without further indexes have just the desk's schema
exact : (schema : Schema) → IsSchemaOf Two schema → ¬ HasExtra schema → schema ≡ desk_schema
exact schema it lacks = go it.extra it.is
  where
    go : (extra : List Index) → schema ≡ desk_with extra → schema ≡ desk_schema
    go [] is = is
    go (i ∷ more) is =
        let many : 7 < suc (suc (suc (suc (suc (suc (suc (suc (length more)))))))) = omega arith in
        absurd (lacks (subst HasExtra (sym is) many))

module _ {S : Type 0} (g : Ghosts S) (old begun late : Held S) (is : begun ≡ record old { in_transaction = true }) where
  -- a transaction that began, whatever was done in it
  pub left_from : LeavesNoMore g begun late
      → (HasCleanDisk (state g late) → IsTrue (state g begun).in_transaction → KeepsCommit (state g begun) (state g late))
      → Left g (record old { in_transaction = true }) late
  left_from less commit = subst (λ (h : Held S). Left g h late) is (record { less = less; commit = commit })

  module _ (lacks : ¬ HasExtra old.schema) where
    bare : ¬ HasExtra begun.schema
    bare = subst (λ (h : Held S). ¬ HasExtra h.schema) (sym is) lacks

    makes : (HasCleanDisk (state g late) → MayIndex (state g begun) → MakesIndex (state g begun) (state g late)) → HasCleanDisk (state g late)
        → (t : Tables) → MayRun (state g begun) t → MakesIndex (state g begun) (state g late)
    makes made clean t may = made clean (record {
      inside = may.inside;
      bare = λ here. exact (state g begun).now.schema (may.sees here).schema bare;
      sound = λ here. (may.sees here).sound;
    })

    -- a transaction in which the index was made, as one that wrote no rows
    pub wrote_index : LeavesNoMore g begun late
        → (HasCleanDisk (state g late) → IsTrue (state g begun).in_transaction → KeepsCommit (state g begun) (state g late))
        → (HasCleanDisk (state g late) → IsTrue (state g begun).in_transaction → IsTrue (state g begun).is_open)
        → (HasCleanDisk (state g late) → IsTrue (state g begun).in_transaction → IsTrue (state g late).in_transaction)
        → (HasCleanDisk (state g late) → MayIndex (state g begun) → MakesIndex (state g begun) (state g late))
        → Wrote g (record old { in_transaction = true }) late (λ _. ⊤) 0 (λ t. t)
    wrote_index less commit live inside made =
        subst (λ (h : Held S). Wrote g h late (λ _. ⊤) 0 (λ t. t)) is (record {
          left = record { less = less; commit = commit };
          live = live;
          inside = inside;
          made = λ clean t may fits. (
              let it = makes made clean t may in indexed_makes (state g begun) (state g late) t it (may.sees it.was_open));
          rowids = λ clean t may here fits n left. (
              let has = subst (λ k. HasRowids k (state g begun).now.trees) (none_more n) left in
              let o = (makes made clean t may).rows in
              record {
                few = has.few;
                stock = rw o.1.0 (has.stock);
                batch = rw o.1.1.0 (has.batch);
                step = rw o.1.1.1.1.0 (has.step);
                answer = rw o.1.1.1.1.1.1.0 (has.answer);
                mark = rw o.1.1.1.1.1.1.1.1.0 (has.mark);
              });
        })

    -- where the connection kept a desk, the index was made beside the desk's tables
    pub made_index : (s : State) → KeepsIn Two (state g old) s → LeavesNoMore g begun late
        → (HasCleanDisk (state g late) → IsTrue (state g begun).in_transaction → IsTrue (state g begun).is_open)
        → (HasCleanDisk (state g late) → MayIndex (state g begun) → MakesIndex (state g begun) (state g late)) → HasCleanDisk (state g late)
        → MakesIndex (state g begun) (state g late)
    made_index s keeps less live made clean =
        let inside : IsTrue (state g begun).in_transaction = subst (λ (h : Held S). IsTrue (state g h).in_transaction) (sym is) refl in
        let at_old : HasCleanDisk (state g begun) = omega (arith, less.clean, clean) in
        let before : HasCleanDisk (state g old) = subst (λ (h : Held S). HasCleanDisk (state g h)) is at_old in
        let here : IsTrue (state g old).is_open = subst (λ (h : Held S). IsTrue (state g h).is_open) is (live clean inside) in
        let saw = (keeps before).sees here in
        let now : (state g begun).now ≡ (state g old).now = ap (λ (h : Held S). (state g h).now) is in
        makes made clean saw.tables (record {
          inside = inside;
          sees = λ _. record {
            schema = subst (λ (d : Database). IsSchemaOf Two d.schema) (sym now) saw.schema;
            rows = subst (λ (d : Database). Shows d.trees saw.tables) (sym now) saw.shown;
            sound = subst IsDatabase (sym now) saw.sound;
          };
        })

module _ {S : Type 0} (g : Ghosts S) (old late end : Held S) (s : State) (keeps : KeepsIn Two (state g old) s) where
  -- a transaction that was rolled back leaves the desk that the connection saw
  sees_back : Left g (record old { in_transaction = true }) late → HasCleanDisk (state g late) → IsRolledBack (state g late) (state g end)
      → IsTrue (state g end).is_open → SeesDesk (state g end) s
  sees_back left clean back live = search (rules, arith, same_desk)

  -- the index was not made
  pub keeps_undone : Left g (record old { in_transaction = true }) late → LeavesNoMore g late end
      → (HasCleanDisk (state g end) → IsRolledBack (state g late) (state g end)) → HasCleanDisk (state g end) → IsKeptIn Two (state g end) s
  keeps_undone left less undone clean = search (rules, arith, sees_back)

  module _ (wrote : Wrote g (record old { in_transaction = true }) late (λ _. ⊤) 0 (λ t. t)) where
    -- it was made, and committed
    pub keeps_indexed : HasCleanDisk (state g late) → KeepsOne g
        → ShowsNow (state g late) (state g end) (state g late).now (state g late).now false → IsKeptIn Two (state g end) s
    keeps_indexed clean law shown = search (rules, arith, keeps_next)

    -- it was made, and its commit failed
    pub keeps_uncommitted : Survives (state g late) (state g end) (λ db. db ≡ (state g late).now.trees) → (e : Error)
        → (HasCleanDisk (state g end) → FailsToCommit (state g late) (state g end) e) → HasCleanDisk (state g end) → IsKeptIn Two (state g end) s
    keeps_uncommitted survives e failed clean =
        let at_late : HasCleanDisk (state g late) = omega (arith, survives.clean, clean) in
        record {
          sees = sees_back wrote.left at_late (back_of (wrote.inside at_late refl) (failed clean));
          leaves = λ db may. elim (either_left g old late (λ _. ⊤) 0 (λ t. t) s s wrote (λ t st. tt) (λ t st. st) keeps at_late db
              (survives.crash clean db may)) [ inl same ↦ same | inr same ↦ same ];
        }
      where
        back_of : IsTrue (state g late).in_transaction → FailsToCommit (state g late) (state g end) e → IsRolledBack (state g late) (state g end)
        back_of inside (inl fails) = fails.3
        back_of inside (inr over) = absurd (let no : true ≡ false = sym inside ∙ over.1 in cc)

-- What the reading says.

module _ {S : Type 0} (g : Ghosts S) (old new : Held S) where
  -- the numbers are those of the newest version, and of the state, or they are refused
  pub judges_newest : (meta : Meta) (r : Result Meta MigrateFault) → old.schema ≢ no_schema → Quiet g old new
      → ((v : Version) → ReadsIn g old new v (Ok meta) IsMeta) → JudgesNewest meta r → TriesNewest g old new r
  judges_newest meta (Ok m) filled quiet found is = record {
    version = subst (SawVersion g old new) (ap (λ (n : Meta). n.version) (sym is.0) ∙ is.1) (saw_read g old new meta found);
    filled = filled;
    numbers = λ clean s stood. ap meta_of is.0 ∙ numbers_read (state g old) (state g new) meta (λ v t sees. found v clean t sees) Two s
        (stood (quiet_clean g old new quiet clean)) filled;
  }
  judges_newest meta (Err why) filled quiet found refused = rw refused.0 (refused.1, inr (saw_read g old new meta found))

  pub refuses_fault : (why : MigrateFault) → IsFault why → RefusesIndex g old new why
  refuses_fault why it = search (rules, arith)

  -- an error is a fault
  pub refuses_error : (why : MigrateFault) (IsMemory : Type 0) → (why ≡ Memory ↔ IsMemory) → (why ≡ Store ↔ (¬ IsMemory)) → RefusesIndex g old new why
  refuses_error why IsMemory memory store = refuses_fault why (is_fault why IsMemory memory store)

-- the state is kept there
pub kept_on : {S : Type 0} (g : Ghosts S) (old mid : Held S) → Quiet g old mid → SawVersion g old mid 2 → old.schema ≢ no_schema
    → (s : State) → StoodFor Two (state g old) s → KeepsIn Two (state g mid) s
kept_on g old mid quiet saw filled s stood clean =
    let at_old = quiet_clean g old mid quiet clean in
    quiet_keeps g old mid quiet Two s
    (λ _. record {
      sees = λ _. was_desk Two (state g old) s (stood at_old) filled (saw_open g old mid 2 saw clean);
      leaves = (stood at_old).leaves;
    }) clean

-- Whatever follows the reading of tables of the newest version, and keeps what the connection kept, keeps what it represented.
pub stands_on : {S : Type 0} (g : Ghosts S) (old mid new : Held S) → Quiet g old mid → SawVersion g old mid 2 → old.schema ≢ no_schema
    → (HasCleanDisk (state g new) → HasCleanDisk (state g mid)) → Keeps g mid new → StandsOn g old new
stands_on g old mid new quiet saw filled sound keeps One s stood clean =
    let at_mid = sound clean in
    let found : IsFound One (state g old) s = stood (quiet_clean g old mid quiet at_mid) in
    absurd (let one : 1 ≡ 2 = saw_number g old mid One 2 s saw at_mid (found.sees (saw_open g old mid 2 saw at_mid)) in omega (arith, one))
stands_on g old mid new quiet saw filled sound keeps Two s stood clean =
    let it = keeps s (kept_on g old mid quiet saw filled s stood) clean in
    record { sees = λ live. inl (it.sees live); leaves = it.leaves }
