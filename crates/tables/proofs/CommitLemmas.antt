-- What the commit of a migration keeps. For bring_over.
use Rattle.std.proofs.Common.{◌≡◌, ◌⊎◌, true, false, IsTrue, refl, arith, rules}
use Rattle.sqlite.specs.Tree.{Trees}
use Rattle.sqlite.specs.Store.{Ghosts}
use Rattle.sqlite.specs.State.{HasCleanDisk, Survives, Shows as ShowsNow}
use Rattle.sqlite.specs.Held.{Held, state}
use Rattle.desk_sql.specs.declared.versions.Version.TheVariants.{One, Two}
use Rattle.desk_sql.specs.declared.meta.Meta.{Meta}
use Rattle.desk_sql.specs.Calls.{Sees, LeavesNoMore}
use Rattle.desk_sql.specs.Rows.{Tables}
use Rattle.ledger.specs.Answer.{State}
use Rattle.sql_model.specs.Keeping.{MeansIn, SeesOf, IsKeptIn, KeepsIn}
use Rattle.sql_model.proofs.KeepLemmas.{is_database}
use Rattle.sql_writes.proofs.CommitLemmas.{KeepsOne}
use Rattle.tables.specs.Copying.{MayAdd}
use Rattle.tables.specs.Migrating.{AreNumbersOf, migrated}
use Rattle.tables.proofs.Standing.{migrated_stands}

-- a transaction that began here wrote the migrated rows
pub record Wrote {S : Type 0} (g : Ghosts S) (start late : Held S) (m : Meta) : Type 0 where
  pub less : Survives (state g start) (state g late) (λ _. ⊥)
  pub live : HasCleanDisk (state g late) → IsTrue (state g start).in_transaction → IsTrue (state g start).is_open
  pub made : HasCleanDisk (state g late) → (t : Tables) → MayAdd (state g start) t → Sees (state g late) (migrated m t)

-- what the contract of the writing says, from the start of the transaction
pub wrote_from : {S : Type 0} (g : Ghosts S) (old begun late : Held S) (m : Meta) → begun ≡ record old { in_transaction = true }
    → LeavesNoMore g begun late
    → (HasCleanDisk (state g late) → IsTrue (state g begun).in_transaction → IsTrue (state g begun).is_open)
    → (HasCleanDisk (state g late) → (t : Tables) → MayAdd (state g begun) t → Sees (state g late) (migrated m t))
    → Wrote g (record old { in_transaction = true }) late m
wrote_from {S} g old begun late m is less live made = search (rules, arith)

module _ {S : Type 0} (g : Ghosts S) (old late : Held S) (m : Meta) (s : State)
    (wrote : Wrote g (record old { in_transaction = true }) late m) (numbers : AreNumbersOf m s)
    (keeps : KeepsIn One (state g old) s) (clean : HasCleanDisk (state g late)) where
  -- the connection kept the state at the start of the transaction, since nothing unclean becomes clean
  at_start : HasCleanDisk (state g (record old { in_transaction = true }))
  at_start = omega (arith, wrote.less.clean)

  kept : IsKeptIn One (state g old) s
  kept = keeps at_start

  -- the connection saw the old tables before
  saw : SeesOf One (state g old) s
  saw = kept.sees (wrote.live clean refl)

  has_made : Sees (state g late) (migrated m saw.tables)
  has_made = search (rules, arith, saw)

  -- the transaction's trees represent the same state, in tables of version 2
  late_means : MeansIn Two (state g late).now.trees s
  late_means = search (rules, arith, is_database, saw, has_made, migrated_stands)

  -- after the commit a crash leaves only those trees
  pub leaves_new : KeepsOne g → (end : Held S)
      → ShowsNow (state g late) (state g end) (state g late).now (state g late).now false
      → (db : Trees) → (state g end).may_leave db → MeansIn Two db s
  leaves_new law end shown db may = search (rules, arith, late_means)

  -- the connection keeps the state in those trees
  pub keeps_new : KeepsOne g → (end : Held S)
      → ShowsNow (state g late) (state g end) (state g late).now (state g late).now false
      → IsKeptIn Two (state g end) s
  keeps_new law end shown = search (rules, arith, has_made, saw, migrated_stands, leaves_new)

  -- whether the commit succeeded or not, a crash leaves trees that it could leave before, or the new ones
  pub either_left : (db : Trees) → (state g late).may_leave db ⊎ (db ≡ (state g late).now.trees)
      → (state g old).may_leave db ⊎ MeansIn Two db s
  either_left db it = search (rules, arith, late_means)
