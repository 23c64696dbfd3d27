-- The numbers of a cursor after an item fit the store's integers. For `step_up`, `step_down` and `turn`.
use Rattle.std.proofs.Common.{◌≡◌, ℕ, ◌+◌, ◌-◌, ◌<◌, ◌≤◌, ◌^◌, Bool, true, false, if◌then◌else◌, refl, arith, ◌==◌, nat_lt}
use Rattle.plan.specs.Limits.{most_steps}
use Rattle.commands.specs.declared.items.Cause.{Cause}
use Rattle.commands.specs.declared.items.Cause.TheVariants.{Refused}
use Rattle.commands.specs.declared.items.Cursor.{Cursor}
use Rattle.commands.specs.declared.items.Phase.{Phase}
use Rattle.commands.specs.declared.items.Phase.TheVariants.{Run, Back, Ended, Undone}
use Rattle.ledger.specs.JourneyChanges.{phase_up, phase_down, phase_back}
use Rattle.desk_sql.specs.Changes.{IsSmallCursor}
use Rattle.sql_model.specs.ExpectedRows.{target_of}
use Rattle.sql_model.specs.Moving.{cursor_written}
use Rattle.saga_core.specs.Cursors.{stepped_up, stepped_down, turned_to}
use Rattle.sql_commands.specs.Placing.{IsPlacedIn}

-- small numbers are stored as small numbers
numbers_small : (pos used : ℕ) (p : Phase) → pos ≤ 2 ^ 62 → target_of p ≤ 2 ^ 62 → used ≤ 2 ^ 62
    → IsSmallCursor (cursor_written (record { pos = pos; phase = p; used = used }))
numbers_small pos used (Back p) a b d = (omega arith, (omega arith, (omega arith, (omega arith, tt))))
numbers_small pos used _ a b d = (omega arith, (omega arith, (omega arith, (omega arith, tt))))

-- after a step the target is small
up_small : (n pos : ℕ) → target_of (phase_up n pos) ≤ 2 ^ 62
up_small n pos = go (pos == n)
  where
    go : (b : Bool) → target_of (if b then Ended else Run) ≤ 2 ^ 62
    go true = omega arith
    go false = omega arith

-- after a turn back the target is small
down_small : (p pos : ℕ) → p ≤ 2 ^ 62 → target_of (phase_down p pos) ≤ 2 ^ 62
down_small p pos low = go (nat_lt p pos) (p == 0)
  where
    go : (a b : Bool) → target_of (if a then Back p else if b then Undone else Run) ≤ 2 ^ 62
    go true b = low
    go false true = omega arith
    go false false = omega arith

-- the target of a journey after a compensation is small
back_small : (c : Cursor) (p : Phase) (pos : ℕ) → c.phase ≡ p → ((q : ℕ) → c.phase ≡ Back q → q < c.pos) → c.pos ≤ most_steps
    → target_of (phase_back p pos) ≤ 2 ^ 62
back_small c (Back q) pos e above low = down_small q pos (omega (arith, above q e))
back_small c _ pos e above low = omega arith

-- the cursors after a step, after a compensation and after a turn have small numbers
pub stepped_up_small : (steps : ℕ) (c : Cursor) → steps ≤ most_steps → IsPlacedIn steps c → c.pos < steps
    → IsSmallCursor (cursor_written (stepped_up steps c))
stepped_up_small steps c few placed below =
    numbers_small (c.pos + 1) c.used (phase_up steps (c.pos + 1)) (omega arith) (up_small steps (c.pos + 1)) (omega (arith, placed.counted))

pub stepped_down_small : (steps : ℕ) (c : Cursor) → steps ≤ most_steps → IsPlacedIn steps c
    → IsSmallCursor (cursor_written (stepped_down c))
stepped_down_small steps c few placed =
    numbers_small (c.pos - 1) c.used (phase_back c.phase (c.pos - 1)) (omega (arith, placed.within))
    (back_small c c.phase (c.pos - 1) refl placed.above (omega (arith, placed.within))) (omega (arith, placed.counted))

pub turned_small : (c : Cursor) (p : ℕ) (cause : Cause) → c.pos ≤ 2 ^ 62 → c.used < 2 ^ 62 → p ≤ 2 ^ 62
    → IsSmallCursor (cursor_written (turned_to p cause c))
turned_small c p Refused pos used low = numbers_small c.pos (c.used + 1) (phase_down p c.pos) pos (down_small p c.pos low) (omega arith)
turned_small c p _ pos used low = numbers_small c.pos c.used (phase_down p c.pos) pos (down_small p c.pos low) (omega arith)
