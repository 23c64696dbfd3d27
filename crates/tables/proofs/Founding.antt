-- What is left of a store without tables where one transaction was to create those of a desk, and why it did not. For found_tables.
use Rattle.std.proofs.Common.{◌≡◌, ◌⊎◌, ◌↔◌, inl, inr, true, Ok, refl, subst, false, IsTrue, sym, ◌∙◌, rules, arith}
use Rattle.sqlite.specs.Tree.{Trees}
use Rattle.sqlite.specs.Store.{Ghosts}
use Rattle.sqlite.specs.Held.{Held, state}
use Rattle.sqlite.specs.State.{HasCleanDisk, Survives, IsRolledBack, Shows as ShowsNow}
use Rattle.sqlite.specs.Steps.{FailsToCommit}
use Rattle.sqlite.specs.declared.error.Error.{Error}
use Rattle.sqlite.specs.declared.error.Error.TheVariants.{SqliteFailure}
use Rattle.sqlite.specs.declared.error.ErrorCode.TheVariants.{OutOfMemory}
use Rattle.commands.specs.declared.replies.Fault.{Fault}
use Rattle.desk_sql.specs.Calls.{Founds, Makes, MayBuild, CommitsNothing, LeavesNoMore, StaysInside, WasOpen, Idle}
use Rattle.desk_sql.specs.Causes.{HasFaulted, HasReason, IsUp}
use Rattle.desk_sql.specs.Changes.{founded}
use Rattle.desk_sql.specs.Schema.{no_schema}
use Rattle.sql_model.proofs.Staying.{commit_why, faulted_earlier, faulted_later, of_error, stays_begun, stays_committing, stays_twice, stays_up}
use Rattle.tables.specs.Opening.{FoundingRanOut, FailsOpening, FailsToOpen, Opens}
use Rattle.sqlite.proofs.StateLemmas.{survives_then}
use Rattle.sqlite.proofs.Callers.{survives_begin}
use Rattle.commands.specs.declared.replies.Fault.TheVariants as fault
use Rattle.desk_sql.specs.declared.versions.Version.{Version}
use Rattle.desk_sql.specs.declared.versions.Version.TheVariants.{Two}
use Rattle.ledger.specs.Answer.{State}
use Rattle.sql_model.specs.Keeping.{Sees as SeesFound, WasClean}
use Rattle.sql_writes.proofs.CommitLemmas.{KeepsOne}
use Rattle.tables.specs.Keeping.{IsFound, IsKept}
use Rattle.tables.specs.declared.faults.OpenFault.{OpenFault}
use Rattle.tables.specs.declared.faults.OpenFault.TheVariants.{Memory, Store}
use Rattle.tables.proofs.OpenKept.{either_means, gone_back, has_founded, keeps_founded, not_bare, rolled_back, still_bare, tells_fault, was_new}

module _ {S : Type 0} (g : Ghosts S) (old late end : Held S) (bare : (state g old).now.schema ≡ no_schema) (up : IsUp (state g old))
    (clean : HasCleanDisk (state g late)) where
  abbrev at_begin : Held S
  at_begin = record old { in_transaction = true }

  -- a transaction over a store without tables may create them
  may_build : MayBuild no_schema (state g at_begin)
  may_build = record { inside = refl; empty = λ _. record { is = bare; empty = tt } }

  -- tables that were not created are Store only where the disk failed or refused
  not_created : (Ends : Trees → Type 0) → Survives (state g late) (state g end) Ends → (e : Error) (f : Fault)
      → (HasCleanDisk (state g late) → MayBuild no_schema (state g at_begin) → IsUp (state g at_begin) → HasReason (state g at_begin) (state g late) e)
      → (f ≡ fault.Memory ↔ e ≡ SqliteFailure OutOfMemory) → f ≡ fault.Store → HasFaulted (state g old) (state g end)
  not_created Ends back e f fails memory store = search (rules, arith, may_build, of_error, faulted_earlier)

  -- tables that were not committed are Store only there, or where the commit ran out of memory
  not_committed : Survives (state g at_begin) (state g late) (λ _. ⊥) → Founds g at_begin late {V = Unit {0}} (Ok tt) founded
      → (e : Error) → FailsToCommit (state g late) (state g end) e
      → HasFaulted (state g old) (state g end) ⊎ FoundingRanOut g old end
  not_committed less founds e failed =
      let makes : Makes (state g at_begin) (state g late) founded = founds clean may_build in
      elim (commit_why (state g late) (state g end) e makes.is_open makes.inside failed) [
        | inl faulted ↦ inl (faulted_later (state g at_begin) (state g late) (state g end) less.counts faulted)
        | inr is ↦ inr (record {
          late = late;
          founds = makes;
          failed = subst (λ x. FailsToCommit (state g late) (state g end) x) is failed;
        })
      ]

-- a transaction began on a connection without tables, came as far as `late`, and is over at `end`, committed or not
module _ {S : Type 0} (g : Ghosts S) (old late end : Held S) (was : Idle old) (bare : old.schema ≡ no_schema)
    (less : LeavesNoMore g (record old { in_transaction = true }) late) (ended : end.in_transaction ≡ false) {Commits : Trees → Type 0}
    (over : Survives (state g late) (state g end) Commits) where
  abbrev begun : Held S
  begun = record old { in_transaction = true }

  at_late : HasCleanDisk (state g end) → HasCleanDisk (state g late)
  at_late clean = omega (arith, over.clean, clean)

  at_first : WasClean g old end
  at_first clean = omega (arith, less.clean, at_late clean)

  -- it is as an opening asks for it
  still_idle : Idle end
  still_idle = record { outside = ended; unlimited = over.limit ∙ (less.limit ∙ was.unlimited) }

  -- no desk was kept there whose opening could fail
  keeps_none : (f : OpenFault) → FailsToOpen g old end f
  keeps_none f clean v s keeps up store = absurd (not_bare v old.schema ((keeps (at_first clean)).sees up.is_open).schema bare)

  -- after a rollback it has no tables, as before
  bare_again : CommitsNothing g begun late → (HasCleanDisk (state g end) → IsRolledBack (state g late) (state g end)) → HasCleanDisk (state g end)
      → (v : Version) (s : State) → IsFound v (state g old) s → IsTrue (state g end).is_open → SeesFound v (state g end) s
  bare_again commits back clean v s found live =
      let gone = gone_back (state g begun) (state g late) (state g end) (commits (at_late clean) refl) (back clean) live in
      still_bare v (state g old) (state g end) s found bare (record { was_open = gone.was_open; now = gone.now; committed = gone.committed })

  -- the tables were created, and the transaction was committed
  pub made_all : Founds g begun late {V = Unit {0}} (Ok tt) founded → WasOpen g begun late {V = Unit {0}} (Ok tt) → KeepsOne g
      → (HasCleanDisk (state g end) → ShowsNow (state g late) (state g end) (state g late).now (state g late).now false) → Opens g old end Two
  made_all made live law done = record {
    finds = λ clean v s stood. (
        let has = has_founded g old late bare (at_late clean) made live in
        let new = was_new v (state g old) s (stood (at_first clean)) bare has.0 in
        subst (λ (x : State). IsKept (state g end) x) (sym new.1) (keeps_founded g old late law end has.1 (done clean)));
    only = λ clean v s stood. (was_new v (state g old) s (stood (at_first clean)) bare (has_founded g old late bare (at_late clean) made live).0).0;
    version = λ clean v t sees. (
        let has = has_founded g old late bare (at_late clean) made live in
        absurd (not_bare v old.schema (sees has.0).schema bare));
    idle = still_idle;
    sound = at_first;
    up = stays_begun g old end (stays_twice g begun late end (stays_up g begun late less) (stays_committing g late end Commits over) at_late);
    sees = λ filled. absurd (filled bare);
  }

  -- they were created, but not committed: a crash leaves the old trees or the new ones
  pub not_kept : Founds g begun late {V = Unit {0}} (Ok tt) founded → WasOpen g begun late {V = Unit {0}} (Ok tt)
      → StaysInside g begun late {V = Unit {0}} (Ok tt) → CommitsNothing g begun late
      → ((db : Trees) → Commits db → db ≡ (state g late).now.trees)
      → (e : Error) → (HasCleanDisk (state g end) → FailsToCommit (state g late) (state g end) e) → FailsOpening g old end Store
  not_kept made live inside commits new_trees e failed = record {
    stands = λ v s stood clean. (
        let found = stood (at_first clean) in
        let has = has_founded g old late bare (at_late clean) made live in
        let new = was_new v (state g old) s found bare has.0 in
        record {
          sees = bare_again commits (λ clean. rolled_back (state g late) (state g end) e (inside (at_late clean) refl) (failed clean)) clean v s found;
          leaves = λ db left. (let came : (state g old).may_leave db ⊎ (db ≡ (state g late).now.trees) = elim (over.crash clean db left) [
            | inl before ↦ elim (less.crash (at_late clean) db before) [ inl first ↦ inl first | inr none ↦ absurd none ]
            | inr is ↦ inr (new_trees db is)
          ] in
              either_means g old late v s found new has.1 db came);
        });
    told = tt;
    store = keeps_none Store;
    founds = λ clean none up is. not_committed g old late end none up (at_late clean) less made e (failed clean);
    idle = still_idle;
    sound = at_first;
  }

-- they were not created, and the transaction was rolled back
pub not_made : {S : Type 0} (g : Ghosts S) (old late end : Held S) → Idle old → (bare : old.schema ≡ no_schema)
    → (less : LeavesNoMore g (record old { in_transaction = true }) late) → end.in_transaction ≡ false
    → (over : LeavesNoMore g late end) → CommitsNothing g (record old { in_transaction = true }) late
    → (HasCleanDisk (state g end) → IsRolledBack (state g late) (state g end)) → (e : Error) (f : Fault) (r : OpenFault)
    → (HasCleanDisk (state g late) → MayBuild no_schema (state g (record old { in_transaction = true }))
    → IsUp (state g (record old { in_transaction = true })) → HasReason (state g (record old { in_transaction = true })) (state g late) e)
    → (f ≡ fault.Memory ↔ e ≡ SqliteFailure OutOfMemory) → (r ≡ Memory ↔ f ≡ fault.Memory) → (r ≡ Store ↔ f ≡ fault.Store)
    → FailsOpening g old end r
not_made g old late end was bare less ended over commits back e f r fails of memory store =
    let whole : LeavesNoMore g old end = survives_begin g old (state g end) (λ _. ⊥)
    (survives_then _ _ _ (λ _. ⊥) (λ _. ⊥) (λ _. ⊥) (λ _ db h. h) (λ _ db h. h) less over) in
    record {
      stands = λ v s stood clean. (
          let found = stood (at_first g old late end was bare less ended over clean) in
          record {
            sees = bare_again g old late end was bare less ended over commits back clean v s found;
            leaves = λ db may. elim (whole.crash clean db may) [ inl before ↦ found.leaves db before | inr none ↦ absurd none ];
          });
      told = tells_fault g old end f r memory store whole;
      store = keeps_none g old late end was bare less ended over r;
      founds = λ clean none up is. inl (not_created g old late end none up (at_late g old late end was bare less ended over clean) (λ _. ⊥) over e f
          fails of (store.0 is));
      idle = still_idle g old late end was bare less ended over;
      sound = at_first g old late end was bare less ended over;
    }
