-- Turns: where each one leads, and whether it may be made.
use Rattle.std.specs.Prelude.{◌≡◌, ℕ, ◌≤◌, ◌==◌, ◌||◌, Bool, true, false, IsTrue, IsFalse, Option, Some, None}
use Rattle.std.specs.Ordering.{nat_cmp}
use Rattle.std.specs.FinSet as set
use Rattle.plan.specs.PlanModel.{Planned, step_count}
use Rattle.plan.specs.Marks.{is_taken_in}
use Rattle.plan.specs.Rules.{is_save_point, last_save, refused_target, may_turn}
use Rattle.plan.specs.declared.turns.Turn.{Turn}
use Rattle.plan.specs.declared.turns.Turn.TheVariants.{Stop, Refused, Asked}

-- where a turn leads: after a stop to the last save-point, after a refusal by the tries, else to where it was asked
abbrev pub turn_target : Planned → (ℕ → Bool) → ℕ → ℕ → Turn → ℕ
turn_target plan taken pos used Stop = last_save plan taken pos
turn_target plan taken pos used Refused = refused_target plan taken pos used
turn_target plan taken pos used (Asked p) = p

-- a turn may be made: after a stop or a refusal if the journey is not going back, on request if it may turn there
abbrev pub may_be_made : Planned → (ℕ → Bool) → ℕ → Option ℕ → Turn → Bool
may_be_made plan taken pos going (Asked p) = may_turn plan taken pos going p
may_be_made plan taken pos None turn = true
may_be_made plan taken pos (Some q) turn = false

-- with these save-points taken, the turn leads to p
abbrev pub LeadsTo : Planned → set.FinSet nat_cmp → ℕ → ℕ → Turn → ℕ → Type 0
LeadsTo plan marks pos used turn p = p ≡ turn_target plan (is_taken_in marks) pos used turn

-- with these save-points taken, there is no such turn
abbrev pub IsNoTurn : Planned → set.FinSet nat_cmp → ℕ → Option ℕ → Turn → Type 0
IsNoTurn plan marks pos going turn = IsFalse (may_be_made plan (is_taken_in marks) pos going turn)

-- with these save-points taken, p is the start, or a save-point stands there
abbrev pub IsLanding : Planned → set.FinSet nat_cmp → ℕ → ℕ → Type 0
IsLanding plan marks pos p = IsTrue ((p == 0) || is_save_point plan (is_taken_in marks) pos p)

-- with these save-points taken, none stands above this position, up to the last step
abbrev pub IsNoneAbove : Planned → set.FinSet nat_cmp → ℕ → ℕ → Type 0
IsNoneAbove plan marks pos last =
    (p : ℕ) → p ≤ step_count plan → IsTrue (is_save_point plan (is_taken_in marks) pos p) → p ≤ last
