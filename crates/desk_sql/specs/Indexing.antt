-- The index on the agents of the journeys, beside those of the keys: what making it leaves, and why it fails.
use Rattle.std.specs.Prelude.{◌≡◌, ◌<◌, ℕ, false, List, [], ◌∷◌, codes, length, Result, OnOk, IfErr, IsTrue}
use Rattle.std.specs.List.{AllByRecursion}
use Rattle.sqlite_schema.specs.declared.schema.Index.{Index}
use Rattle.sqlite_schema.specs.declared.schema.Schema.{Schema}
use Rattle.sqlite.specs.Effect.{IsDatabase}
use Rattle.sqlite.specs.Store.{Ghosts}
use Rattle.sqlite.specs.Held.{Held, state}
use Rattle.sqlite.specs.State.{State, HasCleanDisk}
use Rattle.sqlite.specs.declared.error.Error.{Error}
use Rattle.desk_sql.specs.Causes.{IsUp, HasReason}
use Rattle.desk_sql.specs.Lists.{IsNumbered}
use Rattle.desk_sql.specs.Rows.{JourneyRow, journey_row}
use Rattle.desk_sql.specs.Schema.{plain_order, desk_schema, desk_with}
use Rattle.desk_sql.specs.Writable.{IsShort}

-- the text that makes the index
abbrev pub agent_index_text : List ℕ
agent_index_text = codes "CREATE INDEX journey_agent ON journey(agent, id)"

-- the index in this tree
abbrev pub agent_index_at : ℕ → Index
agent_index_at tree =
    record { name = codes "journey_agent"; tree = tree; table = 6; columns = 3 ∷ 0 ∷ []; order = plain_order; is_unique = false }

-- all nine tables, with that index behind their own trees
abbrev pub indexed_schema : Schema
indexed_schema = desk_with (agent_index_at 16 ∷ [])

-- the schema has more indexes than those of the keys
abbrev pub HasExtra : Schema → Type 0
HasExtra schema = length desk_schema.indexes < length schema.indexes

-- the connection is in a transaction, and has the desk's tables and no index beside those of their keys, if it is open
pub record MayIndex (s : State) : Type 0 where
  pub inside : IsTrue s.in_transaction
  pub bare : IsTrue s.is_open → s.now.schema ≡ desk_schema
  pub sound : IsTrue s.is_open → IsDatabase s.now

-- the transaction was open and goes on, and has the index now; each table has the rows that it had, and nothing was committed
pub record MakesIndex (old new : State) : Type 0 where
  pub was_open : IsTrue old.is_open
  pub is_open : IsTrue new.is_open
  pub inside : IsTrue new.in_transaction
  pub schema : new.now.schema ≡ indexed_schema
  pub rows : AllByRecursion (λ t. new.now.trees t.tree ≡ old.now.trees t.tree) desk_schema.tables
  pub sound : IsDatabase new.now
  pub committed : new.committed ≡ old.committed

-- the journeys of the database are these, and each agent's name fits into an index
pub record AreShortAgents (s : State) : Type 0 where
  pub journeys : List JourneyRow
  pub shown : IsNumbered (λ (j : JourneyRow). j.id) journey_row (s.now.trees 6) journeys
  pub short : AllByRecursion (λ (j : JourneyRow). IsShort (length j.agent)) journeys

module _ {S : Type 0} (g : Ghosts S) (old new : Held S) where
  -- beside the desk's tables a success makes the index
  abbrev pub Indexes : {V : Type 0} → Result V Error → Type 0
  Indexes result = HasCleanDisk (state g new) → MayIndex (state g old) → OnOk result (MakesIndex (state g old) (state g new))

  -- in a transaction of a store that is up it fails only out of memory, or where the disk failed or refused
  abbrev pub FailsToIndex : {V : Type 0} → Result V Error → Type 0
  FailsToIndex result =
      HasCleanDisk (state g new) → MayIndex (state g old) → AreShortAgents (state g old) → IsUp (state g old)
      → IfErr result (HasReason (state g old) (state g new))
