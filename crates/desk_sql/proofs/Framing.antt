-- An edit of one table leaves all other tables as they are. For the lemmas of each statement that writes.
use Rattle.std.proofs.Common.{◌≡◌, ◌≢◌, eqb-true, ℕ, List, IsTrue, arith, rules}
use Rattle.std.proofs.lemmas.Bool.{eqb-false}
use Rattle.sqlite.specs.Order.{Row}
use Rattle.sqlite.specs.Tree.{Trees, with_tree}
use Rattle.sqlite.specs.Edit.{Edit, edited}
use Rattle.sqlite.specs.State.{State}
use Rattle.desk_sql.specs.Lists.{IsNumbered}
use Rattle.desk_sql.specs.Rows.{EntryRow, entry_row, Tables, Shows}
use Rattle.desk_sql.specs.Calls.{IsReady, MayRun, Makes}
use Rattle.desk_sql.proofs.Writing.{Edits}

-- an open transaction is ready
pub ready_of : (s : State) (t : Tables) → MayRun s t → IsTrue s.is_open → IsReady s
ready_of s t may here = record { inside = may.inside; schema = (may.sees here).schema }

-- trees that are the same show the same rows
pub shows_same : (f g : Trees) (t : Tables) → f 0 ≡ g 0 → f 1 ≡ g 1 → f 3 ≡ g 3 → f 6 ≡ g 6 → f 8 ≡ g 8 → f 11 ≡ g 11 → f 13 ≡ g 13
    → f 14 ≡ g 14 → Shows g t → Shows f t
shows_same f g t m s b j p a e k it = search (rules, arith)

module _ (old new : State) (edit : Edit) (it : Edits old new edit) where
  abbrev next : Trees
  next = new.now.trees

  abbrev db : Trees
  db = old.now.trees

  -- each tree is as it was, except that of the edited table
  tree_is : (t : ℕ) (rows : List Row) → edited db edit ≡ rows → (t ≢ edit.table.tree → next t ≡ db t)
      → next t ≡ with_tree db edit.table.tree rows t
  tree_is t rows is other = search (rules, arith, eqb-true, eqb-false)

  shows_next : (rows : List Row) (after : Tables) → edited db edit ≡ rows → Shows (with_tree db edit.table.tree rows) after
      → Shows next after
  shows_next rows after is = search (rules, arith, shows_same, tree_is)

  -- of all tables, just the edited one has these rows
  pub makes_at : (tree : ℕ) (rows : List Row) (after : Tables) → edit.table.tree ≡ tree → edited db edit ≡ rows
      → Shows (with_tree db tree rows) after → Makes old new after
  makes_at tree rows after at is shown = grind (arith, shows_next)

-- the items have other rows
pub with_entries : (db : Trees) (t : Tables) → Shows db t → (rows : List Row) (xs : List EntryRow)
    → IsNumbered (λ (e : EntryRow). e.num) entry_row rows xs → Shows (with_tree db 13 rows) (record t { entries = xs })
with_entries db t s rows xs is = search rules
