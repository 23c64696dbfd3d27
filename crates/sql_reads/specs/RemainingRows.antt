-- The items of a journey that remain in a source, and what a source of rows leaves of its connection.
use Rattle.std.specs.Prelude.{◌≡◌, ℕ, Bool, List, [], ◌++◌, drop, true, false, refl}
use Rattle.std.specs.Borrow.{MutBor}
use Rattle.std.proofs.Common.{◌∙◌}
use Rattle.commands.specs.declared.items.Item.{Item}
use Rattle.ledger.specs.Answer.{State}
use Rattle.ledger.specs.History.{position_of}
use Rattle.ledger.specs.Ledger.{history}
use Rattle.sqlite.specs.Store.{Ghosts}
use Rattle.sqlite.specs.Held.{Held, state}
use Rattle.sqlite.specs.declared.rows.stream.Rows.{Rows}
use Rattle.sqlite.specs.State.{HasCleanDisk}
use Rattle.desk_sql.specs.Calls.{Quiet}
use Rattle.desk_sql.specs.declared.versions.Version.{Version}
use Rattle.desk_sql.proofs.Quieting.{quiet_alone, quiet_twice}
use Rattle.sql_model.specs.Keeping.{KeepsIn}
use Rattle.sql_model.specs.Standing.{IsDesk}
use Rattle.sql_reads.specs.ItemSearch.{HasSteps}
use Rattle.sql_reads.specs.declared.history_rows.ItemCursor.{ItemCursor}
use Rattle.sql_reads.specs.declared.item_search.Sought.{Sought}

module _ {S : Type 0} (g : Ghosts S) where
  -- the connection keeps a journey, in tables of this version, that has come to this position; these are its
  -- items after an event, and all of its items from this position on
  pub record AreBehind (v : Version) (h : Held S) (w : Sought) (pos : ℕ) (items : List Item) : Type 0 where
    pub desk : State
    pub is_desk : IsDesk desk
    pub keeps : KeepsIn v (state g h) desk
    pub has_steps : HasSteps desk.ledger w.journey w.steps
    pub before : List Item
    pub stands : position_of before ≡ pos
    pub whole : history desk.ledger w.journey ≡ before ++ items
    pub behind : history (drop w.after desk.ledger) w.journey ≡ items

  -- these items of a journey remain; none if it is finished
  abbrev pub ItemsLeft : Version → Held S → Sought → ℕ → Bool → List Item → Type 0
  ItemsLeft v h w pos true items = items ≡ []
  ItemsLeft v h w pos false items = AreBehind v h w pos items

  -- these items remain after those that the cursor returned, and no row has failed
  abbrev pub ItemsRest : Held S → ItemCursor → List Item → Type 0
  ItemsRest h c items = (c.failed ≡ false) × ItemsLeft c.version h c.sought c.pos c.finished items

  module _ (old new : Held S) where
    -- while the store returns what was written, such a list of each desk that the connection kept in
    -- tables of this version remains to be read
    abbrev pub BeginsKept : Version → {X : Type 0} → (State → List X → Type 0) → (List X → Type 0)
        → Type 0
    BeginsKept v {X} IsList Rests =
        HasCleanDisk (state g new) → (s : State) → IsDesk s → KeepsIn v (state g old) s
        → (rows : List X) → IsList s rows → Rests rows

  -- the reference is the same, and nothing changes on its connection
  pub record StaysUnder (a b : MutBor (Held S)) : Type 0 where
    pub same_reference : b.ghost_name ≡ a.ghost_name
    pub quiet : Quiet g a.now b.now

-- the reference to the rows is the same, they borrow the same connection, and nothing changes on it
pub record RowsStay {S : Type 0} (g : Ghosts S) (a b : MutBor (Rows S g)) : Type 0 where
  pub same_reference : b.ghost_name ≡ a.ghost_name
  pub under : StaysUnder g a.now.conn b.now.conn

-- nothing changes on the connection of a source of rows if no call is made, or by two calls if by each of them
pub stays_alone : {S : Type 0} {g : Ghosts S} (a : MutBor (Held S)) → StaysUnder g a a
stays_alone {S} {g} a = record { same_reference = refl; quiet = quiet_alone g a.now }

pub stays_twice : {S : Type 0} {g : Ghosts S} (a b c : MutBor (Held S))
    → StaysUnder g a b → StaysUnder g b c → StaysUnder g a c
stays_twice {S} {g} a b c one two = record {
  same_reference = two.same_reference ∙ one.same_reference;
  quiet = quiet_twice g a.now b.now c.now one.quiet two.quiet;
}

-- the same, for the rows that a source borrows
pub rows_stay_alone : {S : Type 0} {g : Ghosts S} (a : MutBor (Rows S g)) → RowsStay g a a
rows_stay_alone a = record { same_reference = refl; under = stays_alone a.now.conn }

pub rows_stay_twice : {S : Type 0} {g : Ghosts S} (a b c : MutBor (Rows S g))
    → RowsStay g a b → RowsStay g b c → RowsStay g a c
rows_stay_twice a b c one two = record {
  same_reference = two.same_reference ∙ one.same_reference;
  under = stays_twice a.now.conn b.now.conn c.now.conn one.under two.under;
}
