-- What the migration of the tables of a connection, and their index on own journeys, come to as jobs.
use Rattle.std.specs.Prelude.{◌≡◌, if◌then◌else◌, ℕ, List, [], ◌∷◌, codes, decimal}
use Rattle.sqlite.specs.Store.{Ghosts}
use Rattle.sqlite.specs.Held.{Held}
use Rattle.commands.specs.Texts.{sentence}
use Rattle.commands.specs.declared.replies.Refusal.TheVariants as refusal
use Rattle.tables.specs.Indexing.{RefusesIndex}
use Rattle.tables.specs.Outcomes.{FailsToMigrate}
use Rattle.tables.specs.declared.migrate_faults.MigrateFault.{MigrateFault}
use Rattle.tables.specs.declared.migrate_faults.MigrateFault.TheVariants as migration
use Rattle.tables.specs.declared.indexing.Indexed.{Indexed}
use Rattle.program_ends.specs.Ends.{EndsBadly}
use Rattle.program_ends.specs.declared.ends.End.{End}
use Rattle.program_ends.specs.declared.ends.End.TheVariants as finish
use Rattle.program_ends.specs.declared.faults.ProgramFault.TheVariants as fault
use Rattle.saga_core.specs.StreamScenes.{ended}

-- the line with the number of migrated events: `migrated 1 to 2 events 7`
abbrev pub migrated_line : ℕ → List ℕ
migrated_line events = ended (sentence (codes "migrated 1 to 2 events" ∷ decimal events ∷ []))

-- the line with the number of indexed journeys: `indexed journeys 7`, or `already indexed journeys 7` where there was an index
abbrev pub indexed_line : Indexed → List ℕ
indexed_line i =
    ended (sentence ((if i.is_new then codes "indexed journeys" else codes "already indexed journeys") ∷ decimal i.journeys ∷ []))

-- the end if tables cannot be migrated, or indexed: those of the newest version, and those of an unknown one, are refused
abbrev pub end_of_migration : MigrateFault → End
end_of_migration migration.AlreadyNew = finish.Refused refusal.AlreadyNew
end_of_migration (migration.UnknownSchema version) = finish.Refused (refusal.UnknownSchema version)
end_of_migration migration.Store = finish.Fault fault.OpeningStore
end_of_migration migration.Memory = finish.Fault fault.OpeningMemory

module _ {S : Type 0} (g : Ghosts S) (old new : Held S) (end : End) where
  -- the tables of a connection were not migrated, and the end says why
  pub record FailsMigration : Type 0 where
    pub why : MigrateFault
    pub says : end ≡ end_of_migration why
    pub fails : FailsToMigrate g old new why
    pub bad : EndsBadly end

  -- they got no index, and the end says why
  pub record FailsIndex : Type 0 where
    pub why : MigrateFault
    pub says : end ≡ end_of_migration why
    pub refuses : RefusesIndex g old new why
    pub bad : EndsBadly end
