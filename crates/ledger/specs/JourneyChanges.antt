-- What one more event changes of a journey, by its plan, its cursor and its save-points.
use Rattle.std.specs.Prelude.{ℕ, ◌+◌, ◌-◌, ◌==◌, ◌&&◌, ◌||◌, not, Bool, List, nat_lt, if◌then◌else◌, find, Option, Some, None, option_map}
use Rattle.allotment.specs.Cells.{is_cell}
use Rattle.allotment.specs.declared.cells.Cell.{Cell}
use Rattle.allotment.specs.declared.cells.Row.{Row}
use Rattle.plan.specs.PlanModel.{Planned, step_count}
use Rattle.commands.specs.declared.items.Cause.{Cause}
use Rattle.commands.specs.declared.items.Cause.TheVariants.{Refused}
use Rattle.commands.specs.declared.items.Cursor.{Cursor}
use Rattle.commands.specs.declared.items.Item.{Item}
use Rattle.commands.specs.declared.items.Item.TheVariants.{Transaction, Compensation, Turn, Save}
use Rattle.commands.specs.declared.items.Phase.{Phase}
use Rattle.commands.specs.declared.items.Phase.TheVariants.{Run, Back, Ended, Undone}

-- Phases.

-- after one more step, a journey of n steps has ended or runs on
abbrev pub phase_up : ℕ → ℕ → Phase
phase_up n pos = if pos == n then Ended else Run

-- turned to p, a journey goes back while it is above; at the start it is undone, elsewhere it runs again
abbrev pub phase_down : ℕ → ℕ → Phase
phase_down p pos = if nat_lt p pos then Back p else if p == 0 then Undone else Run

-- the target of a journey, if it goes back
abbrev pub target_of : Phase → Option ℕ
target_of (Back p) = Some p
target_of _ = None

-- the phase of a journey that went back by a step, at its new position
abbrev pub phase_back : Phase → ℕ → Phase
phase_back (Back p) pos = phase_down p pos
phase_back phase pos = phase

-- Cursors.

-- one more refusal, if that is why the journey turned
abbrev pub used_after : Cause → ℕ → ℕ
used_after Refused used = used + 1
used_after _ used = used

-- where a journey is after this item
abbrev pub cursor_after : Planned → Cursor → Item → Cursor
cursor_after plan c (Transaction i k) =
    record { pos = c.pos + 1; phase = phase_up (step_count plan) (c.pos + 1); used = c.used }
cursor_after plan c (Compensation i k) =
    record { pos = c.pos - 1; phase = phase_back c.phase (c.pos - 1); used = c.used }
cursor_after plan c (Turn p cause) =
    record { pos = c.pos; phase = phase_down p c.pos; used = used_after cause c.used }
cursor_after plan c (Save p) = c

-- Save-points.

-- whether a save-point stands at p after this item, where `taken` says which stood before
abbrev pub is_taken_after : Item → (ℕ → Bool) → ℕ → Bool
is_taken_after (Save q) taken p = (p == q) || taken p
is_taken_after (Compensation i k) taken p = not (p == i) && taken p
is_taken_after _ taken p = taken p

-- Allotments.

-- the places of the row that these rows have for the cell
abbrev pub places_in_rows : List Row → Cell → Option ℕ
places_in_rows rows x =
    option_map (λ (r : Row). r.places) (find (λ (r : Row). is_cell x r.cell) rows)

-- the newer allotment, if there is one, else the older
abbrev pub newer : Option ℕ → Option ℕ → Option ℕ
newer (Some places) before = Some places
newer None before = before
