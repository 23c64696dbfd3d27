-- A list that statements return: which rows of it remain, and how its rows are started.
use Rattle.std.specs.Prelude.{◌≡◌, ℕ, List, map}
use Rattle.std.specs.Borrow.{MutBor}
use Rattle.sqlite.specs.Order.{Row}
use Rattle.sqlite.specs.Query.{Query}
use Rattle.sqlite.specs.Store.{Ghosts}
use Rattle.sqlite.specs.Held.{Held}
use Rattle.sqlite.specs.declared.rows.stream.Rows.{Rows}
use Rattle.desk_sql.specs.RemainingRows.{Rests, Starts}
use Rattle.desk_sql.specs.Rows.{Tables}

-- the texts of a list's statements, what these mean, and how a row of the list is shown
pub record Listing (Statement X : Type 0) : Type 0 where
  pub text : Statement → List ℕ
  pub query : Statement → Query
  pub shows : X → Row

-- these rows of the list remain of one of its statements
abbrev pub RestsOf : {Statement X S : Type 0} → Listing Statement X → Ghosts S → Held S → List X → Type 0
RestsOf {Statement} list g h later =
    (statement : Statement) × Rests g (list.text statement) (list.query statement) h (map list.shows later)

-- rows were started, which borrow this connection
pub record StartsOver {S : Type 0} (g : Ghosts S) (conn : MutBor (Held S)) (rows : Rows S g) {X : Type 0} (IsList : Tables → List X → Type 0)
    (RestsOn : Held S → List X → Type 0) : Type 0 where
  pub same_reference : rows.conn.ghost_name ≡ conn.ghost_name
  pub starts : Starts g conn.now rows.conn.now IsList RestsOn
