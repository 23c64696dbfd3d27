-- The next step of a journey, as a move.
use Rattle.std.specs.Prelude.{◌≡◌, ℕ, ◌≤◌, ◌==◌, ◌&&◌, Bool, false, List, IsTrue}
use Rattle.std.specs.FinSet as set
use Rattle.std.specs.Ordering.{nat_cmp}
use Rattle.plan.specs.PlanModel.{Planned, option_count}
use Rattle.commands.specs.declared.items.Cause.TheVariants.{Refused}
use Rattle.commands.specs.declared.items.Cursor.{Cursor}
use Rattle.commands.specs.declared.items.Item.{Item}
use Rattle.commands.specs.declared.items.Item.TheVariants.{Transaction, Compensation, Turn}
use Rattle.ledger.specs.History.{is_open, may_come}
use Rattle.ledger.specs.Recovery.{is_forward}
use Rattle.ledger.specs.Cursors.{cursor_of, marks_of}
use Rattle.ledger.specs.Legal.{HasHistory}
use Rattle.saga_core.specs.declared.deciding.Move.{Move}
use Rattle.saga_core.specs.declared.deciding.Move.TheVariants as move

-- the move names this item; for a compensation the move gives the step alone
abbrev pub names : Move → Item → Bool
names (move.Take i c) (Transaction k d) = (i == k) && (c == d)
names (move.Undo i) (Compensation k d) = i == k
names (move.Turn p) (Turn q Refused) = p == q
names _ _ = false

-- a journey with this plan and this history has this cursor and these save-points
pub record IsHere (plan : Planned) (marks : set.FinSet nat_cmp) (cursor : Cursor)
    (h : List Item) : Type 0 where
  pub has : HasHistory plan h
  pub cursor_is : cursor_of plan h ≡ cursor
  pub marks_are : marks_of h ≡ marks

-- whatever the history: of the items that a step makes, only the one that the move names may come next
abbrev pub NamesOnlyStep : Planned → set.FinSet nat_cmp → Cursor → Bool → Move → Type 0
NamesOnlyStep plan marks cursor fits decided =
    (h : List Item) (x : Item) → IsHere plan marks cursor h → IsTrue (is_forward x)
    → IsTrue (may_come plan h fits x) → IsTrue (names decided x)

-- whatever the history: if the journey is open, the move names an item that a step makes and that may come next
abbrev pub NamesStep : Planned → set.FinSet nat_cmp → Cursor → Bool → Move → Type 0
NamesStep plan marks cursor fits decided =
    (h : List Item) → IsHere plan marks cursor h → IsTrue (is_open cursor.phase)
    → (x : Item) × IsTrue (is_forward x) × IsTrue (may_come plan h fits x)
    × IsTrue (names decided x)

-- this is an option of this step of the plan
abbrev pub IsOptionOf : Planned → ℕ → ℕ → Type 0
IsOptionOf plan i c = (1 ≤ c) × (c ≤ option_count plan i)
