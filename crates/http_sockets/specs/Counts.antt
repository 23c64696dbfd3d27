-- How many peers may still come, if that is limited.
use Rattle.std.specs.Prelude.{◌≡◌, ◌<◌, ◌≤◌, ◌-◌, ℕ, Option, Some, None, option_map}

-- one fewer, down to none
abbrev pub one_fewer : Option ℕ → Option ℕ
one_fewer to_come = option_map (λ count. count - 1) to_come

-- fewer may come, if that is limited
abbrev pub IsFewer : Option ℕ → Option ℕ → Type 0
IsFewer None new = new ≡ None
IsFewer (Some old) None = ⊥
IsFewer (Some old) (Some new) = new < old

-- no more may come
abbrev pub IsNoMore : Option ℕ → Option ℕ → Type 0
IsNoMore None new = new ≡ None
IsNoMore (Some old) None = ⊥
IsNoMore (Some old) (Some new) = new ≤ old
