-- Where a journey is after its next item, by the numbers of its cursor alone.
use Rattle.std.specs.Prelude.{ℕ, ◌+◌, ◌-◌, ◌<◌, ◌≤◌, ⊤}
use Rattle.commands.specs.declared.items.Cause.{Cause}
use Rattle.commands.specs.declared.items.Cursor.{Cursor}
use Rattle.commands.specs.declared.items.Item.{Item}
use Rattle.commands.specs.declared.items.Item.TheVariants.{Transaction, Compensation}
use Rattle.ledger.specs.JourneyChanges.{phase_up, phase_down, phase_back, used_after}

-- the cursor of a journey of so many steps after one more step
abbrev pub stepped_up : ℕ → Cursor → Cursor
stepped_up steps c = record { pos = c.pos + 1; phase = phase_up steps (c.pos + 1); used = c.used }

-- the cursor of a journey after the compensation of its last standing step
abbrev pub stepped_down : Cursor → Cursor
stepped_down c = record { pos = c.pos - 1; phase = phase_back c.phase (c.pos - 1); used = c.used }

-- the cursor of a journey after a turn to this target for this cause
abbrev pub turned_to : ℕ → Cause → Cursor → Cursor
turned_to target cause c = record { pos = c.pos; phase = phase_down target c.pos; used = used_after cause c.used }

-- a step is left for a transaction, and one stands for a compensation
abbrev pub IsWithin : ℕ → Cursor → Item → Type 0
IsWithin steps c (Transaction i k) = c.pos < steps
IsWithin steps c (Compensation i k) = 1 ≤ c.pos
IsWithin steps c _ = ⊤
