-- Each recoverable state after a migration, or with an index, stands for what the connection stood for. For migrate_over and index_over.
use Rattle.std.proofs.Common.{ℕ, inl, inr, arith}
use Rattle.sqlite.specs.Store.{Ghosts}
use Rattle.sqlite.specs.Held.{Held, state}
use Rattle.sqlite.specs.State.{HasCleanDisk}
use Rattle.desk_sql.specs.declared.versions.Version.TheVariants.{Two}
use Rattle.desk_jobs.specs.Executions.{StandsStill}
use Rattle.tables.specs.Indexing.{StandsOn}
use Rattle.tables.specs.Migrating.{LeavesEither}
use Rattle.tables.specs.Outcomes.{Migrates}

module _ {S : Type 0} (g : Ghosts S) (old new : Held S) (clean : HasCleanDisk (state g new)) where
  pub migrated_still : {n : ℕ} → Migrates g old new n → StandsStill g old new
  migrated_still m w world stood db may = grind (arith, m.left, m.only_old)

  pub unmigrated_still : LeavesEither g old new → StandsStill g old new
  unmigrated_still left w world (v, stood) db may = elim (left clean v _ stood db may) [
    | inl before ↦ (v, before.1)
    | inr brought ↦ (Two, inl brought.1)
  ]

  pub indexed_still : StandsOn g old new → StandsStill g old new
  indexed_still stands w world (v, stood) db may = (v, (stands v _ stood clean).leaves db may)
