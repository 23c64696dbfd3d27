-- The rows of a query that remain to be returned.
use Rattle.std.specs.Prelude.{◌≡◌, ◌⊎◌, ℕ, false, List, [], ◌∷◌, ◌++◌, filter, ◌≤◌, Option, Some, None}
use Rattle.sqlite.specs.Order.{Row}
use Rattle.sqlite.specs.Query.{Query, IsAnswer}
use Rattle.sqlite.specs.Program.{overlay}
use Rattle.sqlite.specs.Store.{Ghosts}
use Rattle.sqlite.specs.Held.{Held, state}
use Rattle.sqlite.specs.Given.{HasGiven, IsEnded}
use Rattle.sqlite.specs.State.{HasCleanDisk, IsUnchanged}
use Rattle.sqlite.specs.declared.types.Value.TheVariants.{Text}
use Rattle.desk_sql.specs.declared.versions.Version.{Version}
use Rattle.desk_sql.specs.Schema.{IsSchemaOf}
use Rattle.desk_sql.specs.Lists.{IsListed}
use Rattle.desk_sql.specs.Rows.{whole, Tables, StockRow, JourneyRow}
use Rattle.desk_sql.specs.Calls.{MaySeeIn, LeavesNoMore}
use Rattle.desk_sql.specs.FoundRows.{is_owned_after, is_unfinished_after}
use Rattle.desk_sql.specs.Stock.{IsByCell}

-- the first of these was returned, and the later ones remain; or there was none
abbrev pub HandsFirst : {X : Type 0} → (List X → Type 0) → Option X → List X → Type 0
HandsFirst rests found [] = (found ≡ None) × rests []
HandsFirst rests found (x ∷ later) = (found ≡ Some x) × rests later

-- of the values that remained, the first was returned
abbrev pub Hands : {X : Type 0} → (List X → Type 0) → (List X → Type 0) → Option X → Type 0
Hands {X} rested rests found = (later : List X) → rested later → HandsFirst rests found later

-- this is the one list with these values in this order
abbrev pub IsOnlyOrder : {X : Type 0} → (X → X → Type 0) → List X → List X → Type 0
IsOnlyOrder {X} IsUpTo values listed = (other : List X) → IsListed IsUpTo values other → other ≡ listed

-- the cells in their only order
abbrev pub IsStockInOrder : Tables → List StockRow → Type 0
IsStockInOrder t listed = IsOnlyOrder IsByCell t.stock listed

-- a lower number, or the same
abbrev pub IsByNumber : JourneyRow → JourneyRow → Type 0
IsByNumber a b = a.id ≤ b.id

-- the unfinished journeys above a number, in order
abbrev pub ListsUnfinished : ℕ → Tables → List JourneyRow → Type 0
ListsUnfinished after t listed = IsListed IsByNumber (filter (is_unfinished_after after) t.journey) listed

-- the journeys of an agent above a number, in order
abbrev pub ListsOwned : List ℕ → ℕ → Tables → List JourneyRow → Type 0
ListsOwned agent after t listed = IsListed IsByNumber (filter (is_owned_after agent after) t.journey) listed

-- the queries show cells and journeys in this order
abbrev pub stock_shown : StockRow → Row
stock_shown s =
    whole s.kind ∷ Text s.supplier ∷ Text s.product ∷ whole s.night ∷ whole s.allot ∷ whole s.free ∷ []

abbrev pub journey_shown : JourneyRow → Row
journey_shown j =
    whole j.id ∷ whole j.num ∷ Text j.agent ∷ whole j.steps ∷ whole j.tries ∷ whole j.cursor.pos
    ∷ whole j.cursor.phase ∷ whole j.cursor.target ∷ whole j.cursor.used ∷ []

module _ {S : Type 0} (g : Ghosts S) where
  -- The connection runs this query on the desk's tables, and each answer of the query is the rows that
  -- were returned, followed by these.
  pub record RunsOn (text : List ℕ) (q : Query) (params : Row) (h : Held S) (later : List Row) : Type 0 where
    pub version : Version
    pub schema : IsSchemaOf version h.schema
    pub given : List Row
    pub gave : HasGiven g text params h given
    pub whole : (rows : List Row) → IsAnswer q (overlay (state g h).now.trees []) params rows
        → rows ≡ given ++ later

  -- these rows of the query remain; none remains if the query has ended
  abbrev pub Rests : List ℕ → Query → Held S → List Row → Type 0
  Rests text q h later = ((params : Row) × RunsOn text q params h later) ⊎ (IsEnded h × (later ≡ []))

  module _ (old new : Held S) where
    -- of the tables as they are, these values remain to be returned
    abbrev pub Begins : {X : Type 0} → (Tables → List X → Type 0) → (Held S → List X → Type 0) → Type 0
    Begins {X} IsList RestsOn =
        HasCleanDisk (state g new) → (v : Version) (t : Tables) → MaySeeIn v (state g old) t → (later : List X)
        → IsList t later → RestsOn new later

    -- nothing changes
    abbrev pub StaysAsItIs : Type 0
    StaysAsItIs = HasCleanDisk (state g new) → IsUnchanged (state g old) (state g new)

    -- Rows were started: of the tables as they are, these values remain to be returned. Nothing changes, no transaction begins, and a
    -- crash leaves no more than before.
    pub record Starts {X : Type 0} (IsList : Tables → List X → Type 0) (RestsOn : Held S → List X → Type 0) : Type 0 where
      pub begun : Begins IsList RestsOn
      pub same : StaysAsItIs
      pub mode : old.in_transaction ≡ false → new.in_transaction ≡ false
      pub survives : LeavesNoMore g old new
