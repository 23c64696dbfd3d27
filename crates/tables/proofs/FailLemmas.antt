-- Why a migration failed, from call to call. For the functions of `migrating`.
use Rattle.std.proofs.Common.{◌≡◌, ◌≢◌, ◌⊎◌, ◌↔◌, inl, inr, true, IsTrue, refl, subst, arith, rules}
use Rattle.sqlite.specs.Tree.{Trees}
use Rattle.sqlite.specs.Store.{Ghosts}
use Rattle.sqlite.specs.Held.{Held, state}
use Rattle.sqlite.specs.State.{State as Connected, HasCleanDisk, Survives}
use Rattle.sqlite.specs.Steps.{FailsToCommit}
use Rattle.sqlite.specs.declared.error.Error.{Error}
use Rattle.sqlite.specs.declared.error.Error.TheVariants.{SqliteFailure}
use Rattle.sqlite.specs.declared.error.ErrorCode.TheVariants.{OutOfMemory}
use Rattle.desk_sql.specs.declared.meta.Meta.{Meta}
use Rattle.desk_sql.specs.declared.versions.Version.TheVariants.{One}
use Rattle.desk_sql.specs.Calls.{MaySeeIn}
use Rattle.desk_sql.specs.Causes.{HasFaulted, HasReason, IsUp}
use Rattle.desk_sql.specs.Readable.{HasMeta}
use Rattle.desk_sql.specs.Rows.{Tables}
use Rattle.ledger.specs.Answer.{State}
use Rattle.sql_model.specs.Keeping.{IsFound, KeepsIn, SeesOf}
use Rattle.sql_model.specs.Staying.{StaysUp}
use Rattle.sql_model.proofs.Staying.{commit_why, faulted_earlier, faulted_later, stays_begun, stays_committing, stays_twice, stays_up}
use Rattle.sql_reads.proofs.ReadReasons.{few_journeys}
use Rattle.tables.specs.Copying.{MayAdd}
use Rattle.tables.specs.Migrating.{AreNumbersOf, RefusesNumbers}
use Rattle.tables.specs.MigrateReasons.{MigrationRanOut, HasTooMany}
use Rattle.tables.specs.declared.migrate_faults.MigrateFault.{MigrateFault}
use Rattle.tables.specs.declared.migrate_faults.MigrateFault.TheVariants.{Store}
use Rattle.tables.proofs.CommitLemmas.{Wrote}

-- an error that was told as Store was the store's own
pub not_memory : (old new : Connected) (e : Error) (why : MigrateFault) → (why ≡ Store ↔ (e ≢ SqliteFailure OutOfMemory)) → HasReason old new e
    → why ≡ Store → HasFaulted old new
not_memory old new e why store it is = search (rules, arith)

-- numbers of version 1 that are refused as the store's are those of a ledger with too many events
pub too_many_events : (m : Meta) (s : State) → AreNumbersOf m s → RefusesNumbers m Store → HasTooMany s
too_many_events m s numbers refused = search (rules, arith, few_journeys)

-- a reading of meta of a desk of version 1 fails for a reason
pub meta_fails : (old new : Connected) (s : State) (e : Error) → IsFound One old s → IsUp old
    → ((t : Tables) → MaySeeIn One old t → HasMeta t → HasReason old new e) → HasReason old new e
meta_fails old new s e found up fails = search (rules, arith)

-- A transaction over tables of version 1 that a connection kept.
module _ {S : Type 0} (g : Ghosts S) (old late end : Held S) (s : State) (keeps : KeepsIn One (state g old) s) (up : IsUp (state g old))
    (clean : HasCleanDisk (state g late)) (less : Survives (state g (record old { in_transaction = true })) (state g late) (λ _. ⊥)) where
  abbrev begun : Held S
  begun = record old { in_transaction = true }

  -- the tables that it saw
  saw : SeesOf One (state g old) s
  saw = (keeps (omega (arith, less.clean))).sees up.is_open

  may_add : MayAdd (state g begun) saw.tables
  may_add = record { inside = refl; sees = λ _. record { schema = saw.schema; rows = saw.shown; sound = saw.sound } }

  up_begun : IsUp (state g begun)
  up_begun = record { is_open = up.is_open; unlimited = up.unlimited }

  -- tables that were not written are Store only where the disk failed or refused
  pub not_written : (Ends : Trees → Type 0) → Survives (state g late) (state g end) Ends → (e : Error) (why : MigrateFault)
      → (HasCleanDisk (state g late) → (t : Tables) → MayAdd (state g begun) t → IsUp (state g begun) → HasReason (state g begun) (state g late) e)
      → (why ≡ Store ↔ (e ≢ SqliteFailure OutOfMemory)) → why ≡ Store → HasFaulted (state g old) (state g end)
  not_written Ends back e why fails store is = search (rules, arith, not_memory, saw, may_add, up_begun, faulted_earlier)

  -- tables that were not committed are Store only there, or where the commit ran out of memory
  pub not_committed : (Ends : Trees → Type 0) → Survives (state g late) (state g end) Ends → (m : Meta) → AreNumbersOf m s → Wrote g begun late m
      → IsTrue (state g late).in_transaction → (e : Error) → FailsToCommit (state g late) (state g end) e
      → HasFaulted (state g old) (state g end) ⊎ MigrationRanOut g end s
  not_committed Ends back m numbers wrote inside e failed = elim (less.closes clean up.is_open) [
    | inr faulted ↦ inl (faulted_earlier (state g begun) (state g late) (state g end) faulted back.counts)
    | inl live ↦ elim (commit_why (state g late) (state g end) e live inside failed) [
      | inl faulted ↦ inl (faulted_later (state g begun) (state g late) (state g end) less.counts faulted)
      | inr is ↦ inr (record {
        numbers = m;
        are = numbers;
        tables = saw.tables;
        stands = saw.stands;
        late = late;
        wrote = wrote.made clean saw.tables may_add;
        failed = subst (λ x. FailsToCommit (state g late) (state g end) x) is failed;
      })
    ]
  ]

-- a store stays up through a transaction, however it ends
pub stays_through : {S : Type 0} (g : Ghosts S) (old late end : Held S) (Ends : Trees → Type 0)
    → Survives (state g (record old { in_transaction = true })) (state g late) (λ _. ⊥) → Survives (state g late) (state g end) Ends → StaysUp g old end
stays_through g old late end Ends less ended = search (rules, arith, stays_begun, stays_twice, stays_up, stays_committing)

-- A fault after the numbers were read.
module _ {S : Type 0} (g : Ghosts S) (old mid new : Held S) (s : State) (read : StaysUp g old mid) (brought : StaysUp g mid new)
    (clean : HasCleanDisk (state g mid)) (up : IsUp (state g old)) where
  -- what failed then failed for a reason since the beginning
  pub fails_later : {Q : Type 0} → (IsUp (state g mid) → HasFaulted (state g mid) (state g new) ⊎ MigrationRanOut g new s)
      → HasFaulted (state g old) (state g new) ⊎ (MigrationRanOut g new s ⊎ Q)
  fails_later fails = search (rules, arith, faulted_earlier, faulted_later)
