-- Where a journey may turn, and what its next step takes: by its plan, its position, how often a step of it was
-- refused, and the positions at which a save-point was taken while it ran. Steps and options are counted from 1.
use Rattle.std.specs.Prelude.{ℕ, ◌+◌, ◌==◌, ◌&&◌, ◌||◌, Bool, true, List, [], ◌∷◌, max, min, nat_lt, nat_le, if◌then◌else◌, filter, Option, Some, None}
use Rattle.allotment.specs.Want.{Wanted}
use Rattle.allotment.specs.Cells.{numbers_from}
use Rattle.plan.specs.PlanModel.{Planned, is_marked_at, option_count, want_at, step_count}

-- Save-points.

-- a save-point stands at p: a marked position at most the present one, or one that was taken
abbrev pub is_save_point : Planned → (ℕ → Bool) → ℕ → ℕ → Bool
is_save_point plan taken pos p = (is_marked_at plan p && nat_le p pos) || taken p

-- the save-points of the journey, in order
abbrev pub save_points : Planned → (ℕ → Bool) → ℕ → List ℕ
save_points plan taken pos =
    filter (is_save_point plan taken pos) (numbers_from 1 (step_count plan))

-- the greatest of these numbers, or 0 where there is none
abbrev pub greatest : List ℕ → ℕ
greatest [] = 0
greatest (p ∷ others) = max p (greatest others)

-- the last save-point, or 0 where there is none
abbrev pub last_save : Planned → (ℕ → Bool) → ℕ → ℕ
last_save plan taken pos = greatest (save_points plan taken pos)

-- The next step.

-- the option that the next step takes: one further on after each refusal, up to the last one of that step
abbrev pub next_option : Planned → ℕ → ℕ → ℕ
next_option plan pos used = min (used + 1) (option_count plan (pos + 1))

-- the want that the next step takes
abbrev pub next_want : Planned → ℕ → ℕ → Option Wanted
next_want plan pos used = want_at plan (pos + 1) (next_option plan pos used)

-- Turns.

-- where a refused step leads: to the last save-point while there are tries left, else to the start
abbrev pub refused_target : Planned → (ℕ → Bool) → ℕ → ℕ → ℕ
refused_target plan taken pos used = if nat_lt used plan.tries then last_save plan taken pos else 0

-- a journey that is going back to q may only be sent below q; a running one, to any position
abbrev pub is_below_going : Option ℕ → ℕ → Bool
is_below_going None p = true
is_below_going (Some q) p = nat_lt p q

-- a caller may turn the journey back to p: to the start or a save-point, below where it is going
abbrev pub may_turn : Planned → (ℕ → Bool) → ℕ → Option ℕ → ℕ → Bool
may_turn plan taken pos going p =
    ((p == 0) || is_save_point plan taken pos p) && is_below_going going p
