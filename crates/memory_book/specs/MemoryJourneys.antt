-- What a book in memory keeps of a journey, and how one more item changes it.
use Rattle.std.specs.Prelude.{◌≡◌, ℕ, ◌+◌, ◌-◌, ◌<◌, ◌≤◌, ◌==◌, ◌&&◌, ◌||◌, Bool, List, [], ◌∷◌, ◌++◌, length, take, nat_le, slice_index, IsTrue}
use Rattle.plan.specs.PlanModel.{Planned, step_count, option_count}
use Rattle.commands.specs.declared.items.Item.{Item}
use Rattle.commands.specs.declared.items.Item.TheVariants.{Transaction, Compensation, Turn, Save}
use Rattle.commands.specs.declared.items.Cursor.{Cursor}
use Rattle.commands.specs.declared.items.Phase.TheVariants.{Run, Back}
use Rattle.ledger.specs.History.{is_going_back, is_open}
use Rattle.plan.specs.Marks.{last_mark}

-- the option belongs to the step at this place, counted from 0
abbrev pub IsOptionAt : Planned → ℕ → ℕ → Type 0
IsOptionAt plan place c = (1 ≤ c) × (c ≤ option_count plan (place + 1))

-- the position and phase of a journey, and the options that its standing steps took, agree with its plan
pub record IsPlaced (plan : Planned) (cursor : Cursor) (taken : List ℕ) : Type 0 where
  pub counted : length taken ≡ cursor.pos
  pub within : cursor.pos ≤ step_count plan
  pub running : cursor.phase ≡ Run → cursor.pos < step_count plan
  pub back : (p : ℕ) → cursor.phase ≡ Back p → p < cursor.pos
  pub short : (p : ℕ) → cursor.phase ≡ Back p → cursor.pos < step_count plan
  pub options : (i : ℕ) → i < length taken → IsOptionAt plan i (slice_index taken i)

-- the options that the standing steps took, after one more item
abbrev pub taken_after : Item → List ℕ → List ℕ
taken_after (Transaction i c) taken = taken ++ c ∷ []
taken_after (Compensation i c) taken = take (length taken - 1) taken
taken_after _ taken = taken

-- whether a save-point stands after one more item, which brings the journey to this position
abbrev pub stands_after : Item → ℕ → (ℕ → Bool) → ℕ → Bool
stands_after (Save p) pos before q = (q == p) || before q
stands_after (Compensation i c) pos before q = nat_le q pos && before q
stands_after _ pos before q = before q

-- the item may be next for a journey with this cursor
abbrev pub IsNext : Planned → Cursor → Item → Type 0
IsNext plan cursor (Transaction i c) =
    (cursor.phase ≡ Run) × (i ≡ cursor.pos + 1) × IsOptionAt plan cursor.pos c
IsNext plan cursor (Compensation i c) =
    IsTrue (is_going_back cursor.phase) × (i ≡ cursor.pos) × IsOptionAt plan (cursor.pos - 1) c
IsNext plan cursor (Turn p cause) = IsTrue (is_open cursor.phase)
IsNext plan cursor (Save p) = (1 ≤ p) × (p ≤ last_mark)
