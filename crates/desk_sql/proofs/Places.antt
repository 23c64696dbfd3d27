-- The tables of the desk, each with the values that its rows are. For the lemmas of each statement that writes.
use Rattle.std.proofs.Common.{◌≡◌, ◌<ℤ◌, ℕ, ℤ, pos, List, [], map, slice_get, Some, Bool, true, false, append-nil, refl, rules}
use Rattle.std.specs.List.{list_all}
use Rattle.sqlite.specs.declared.types.Value.TheVariants.{Int}
use Rattle.sqlite.specs.Order.{Row}
use Rattle.sqlite.specs.Table.{Table}
use Rattle.sqlite.specs.Program.{overlay}
use Rattle.sqlite.specs.Rows.{stamped}
use Rattle.sqlite_trees.specs.Tree.{Trees, rowid, with_tree, IsAscending}
use Rattle.sqlite_schema.specs.Rules.{is_key_of, is_key_if_to}
use Rattle.sqlite_value.specs.Keys.{first_key, joined}
use Rattle.sqlite_rules.specs.Lists.{Has}
use Rattle.sqlite_tied.specs.Compute.{everything}
use Rattle.desk_sql.specs.Schema.{desk_schema, meta_at, stock_at, batch_at, journey_at, step_at, answer_at, entry2_at, mark_at}
use Rattle.desk_sql.specs.Lists.{numbered_row, IsTableOf, IsNumbered, changed}
use Rattle.desk_sql.specs.Rows.{whole, Tables, Shows, MetaRow, meta_row, stock_columns, batch_columns, JourneyRow, journey_row, step_columns, EntryRow, entry_row, answer_columns, mark_columns}
use Rattle.desk_sql.proofs.Keyed.{id_of, value_of, value_there, own_rise, replaced_values, numbered_changed}

-- How rows are values: each row is that of an element, which has a rowid and a value.
pub record Codec {X Y : Type 0} (f : Y → Row) (id : Y → ℤ) (value : Y → X) (lift : (X → X) → Y → Y)
    (IsRows : List Row → List X → Type 0) : Type 0 where
  pub keyed : (y : Y) → rowid (f y) ≡ Int (id y)
  pub elements : (rows : List Row) (xs : List X) → IsRows rows xs → List Y
  pub rows_are : (rows : List Row) (xs : List X) (it : IsRows rows xs) → rows ≡ map f (elements rows xs it)
  pub rise : (rows : List Row) (xs : List X) (it : IsRows rows xs) → IsAscending (λ (x y : Y). id x <ℤ id y) (elements rows xs it)
  pub has : (rows : List Row) (xs : List X) (it : IsRows rows xs) (y : Y) → Has (elements rows xs it) y → Has xs (value y)
  pub replaced : (rows new : List Row) (xs : List X) (it : IsRows rows xs) (test : X → Bool) (change : X → X)
      → ((y : Y) → id (lift change y) ≡ id y)
      → new ≡ map f (changed (λ (y : Y). test (value y)) (lift change) (elements rows xs it)) → IsRows new (changed test change xs)

-- under rowids that the store chooses
pub chosen : {X : Type 0} (columns : X → Row)
    → Codec (numbered_row columns) id_of value_of (λ (h : X → X) (p : ℤ × X). (p.0, h p.1)) (IsTableOf columns)
chosen columns = record {
  keyed = λ p. refl;
  elements = λ rows xs it. it.numbered;
  rows_are = λ rows xs it. it.rows_are;
  rise = λ rows xs it. it.rise;
  has = λ rows xs it p there. (value_there columns rows xs it p there).0;
  replaced = λ rows new xs it test change same is. replaced_values columns rows new xs test change it is;
}

-- under the values' own numbers
pub own : {X : Type 0} (number : X → ℕ) (row_of : X → Row) (keyed : (x : X) → rowid (row_of x) ≡ whole (number x))
    → Codec row_of (λ x. pos (number x)) (λ x. x) (λ (h : X → X). h) (IsNumbered number row_of)
own number row_of keyed = record {
  keyed = keyed;
  elements = λ rows xs it. xs;
  rows_are = λ rows xs it. it.rows_are;
  rise = λ rows xs it. own_rise number row_of keyed xs it.rise;
  has = λ rows xs it x there. there;
  replaced = λ rows new xs it test change same is.
      numbered_changed number row_of keyed rows new xs test change (λ x. let e = same x in cc) it is;
}

-- A table of the desk: where the schema lists it, which values it has, and which tables there are if it has others.
pub record Place {X : Type 0} (at : ℕ) (table : Table) (IsRows : List Row → List X → Type 0) (values : Tables → List X)
    (with_values : Tables → List X → Tables) : Type 0 where
  pub there : slice_get desk_schema.tables at ≡ Some table
  pub uncounted : table.is_counted ≡ false
  pub unstamped : (params : Row) → stamped table params ≡ params
  pub seen : (db : Trees) → overlay db [] table.tree ≡ db table.tree
  pub owns : list_all (is_key_of desk_schema) table.references ≡ true
  pub serves : list_all (λ (t : Table). list_all (is_key_if_to desk_schema table) t.references) desk_schema.tables ≡ true
  pub shown : (db : Trees) (t : Tables) → Shows db t → IsRows (db table.tree) (values t)
  pub with_rows : (db : Trees) (t : Tables) → Shows db t → (rows : List Row) (xs : List X) → IsRows rows xs
      → Shows (with_tree db table.tree rows) (with_values t xs)

pub meta : Place 0 (meta_at 0) (IsNumbered (λ (m : MetaRow). 1) meta_row) (λ t. t.meta) (λ t xs. record t { meta = xs })
unfolding everything first_key joined
meta = record { there = refl; uncounted = refl; unstamped = append-nil; seen = λ _. refl; owns = refl; serves = refl; shown = λ _ _ s. s.meta; with_rows = λ db t s rows xs is. search rules }

pub stock : Place 1 (stock_at 1) (IsTableOf stock_columns) (λ t. t.stock) (λ t xs. record t { stock = xs })
unfolding everything first_key joined
stock = record { there = refl; uncounted = refl; unstamped = append-nil; seen = λ _. refl; owns = refl; serves = refl; shown = λ _ _ s. s.stock; with_rows = λ db t s rows xs is. search rules }

pub batches : Place 2 (batch_at 3) (IsTableOf batch_columns) (λ t. t.batch) (λ t xs. record t { batch = xs })
unfolding everything first_key joined
batches = record { there = refl; uncounted = refl; unstamped = append-nil; seen = λ _. refl; owns = refl; serves = refl; shown = λ _ _ s. s.batch; with_rows = λ db t s rows xs is. search rules }

pub journeys : Place 3 (journey_at 6) (IsNumbered (λ (j : JourneyRow). j.id) journey_row) (λ t. t.journey) (λ t xs. record t { journey = xs })
unfolding everything first_key joined
journeys = record { there = refl; uncounted = refl; unstamped = append-nil; seen = λ _. refl; owns = refl; serves = refl; shown = λ _ _ s. s.journey; with_rows = λ db t s rows xs is. search rules }

pub steps : Place 4 (step_at 8) (IsTableOf step_columns) (λ t. t.step) (λ t xs. record t { step = xs })
unfolding everything first_key joined
steps = record { there = refl; uncounted = refl; unstamped = append-nil; seen = λ _. refl; owns = refl; serves = refl; shown = λ _ _ s. s.step; with_rows = λ db t s rows xs is. search rules }

pub answers : Place 6 (answer_at 11) (IsTableOf answer_columns) (λ t. t.answer) (λ t xs. record t { answer = xs })
unfolding everything first_key joined
answers = record { there = refl; uncounted = refl; unstamped = append-nil; seen = λ _. refl; owns = refl; serves = refl; shown = λ _ _ s. s.answer; with_rows = λ db t s rows xs is. search rules }

pub entries : Place 7 (entry2_at 13) (IsNumbered (λ (e : EntryRow). e.num) entry_row) (λ t. t.entries) (λ t xs. record t { entries = xs })
unfolding everything first_key joined
entries = record { there = refl; uncounted = refl; unstamped = append-nil; seen = λ _. refl; owns = refl; serves = refl; shown = λ _ _ s. s.entries; with_rows = λ db t s rows xs is. search rules }

pub marks : Place 8 (mark_at 14) (IsTableOf mark_columns) (λ t. t.mark) (λ t xs. record t { mark = xs })
unfolding everything first_key joined
marks = record { there = refl; uncounted = refl; unstamped = append-nil; seen = λ _. refl; owns = refl; serves = refl; shown = λ _ _ s. s.mark; with_rows = λ db t s rows xs is. search rules }
