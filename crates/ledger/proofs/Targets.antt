-- Where a turn leads: to the start, or to a save-point that stands. Lemmas on the rules by numbers.
use Rattle.std.proofs.Common.{◌≡◌, ℕ, ◌⊎◌, List, [], ◌∷◌, refl, arith, eqb-true, inl, Bool, true, filter, Option, IsTrue}
use Rattle.std.proofs.lemmas.Bool.{and_parts, or_cases}
use Rattle.plan.specs.PlanModel.{Planned}
use Rattle.plan.specs.Rules.{is_save_point, greatest, last_save, refused_target, may_turn}

-- p is the start, or a save-point that stands
abbrev pub IsTarget : Planned → (ℕ → Bool) → ℕ → ℕ → Type 0
IsTarget plan taken pos p = (p ≡ 0) ⊎ IsTrue (is_save_point plan taken pos p)

-- the greatest of the numbers that pass passes, unless there is none
greatest-passes : (test : ℕ → Bool) (ps : List ℕ)
    → (greatest (filter test ps) ≡ 0) ⊎ IsTrue (test (greatest (filter test ps)))
greatest-passes test [] = inl refl
greatest-passes test (p ∷ ps) = grind (arith, greatest-passes test ps)

-- the last save-point is a target: the greatest of those that stand
pub last_save-target : (plan : Planned) (taken : ℕ → Bool) (pos p : ℕ)
    → p ≡ last_save plan taken pos → IsTarget plan taken pos p
last_save-target plan taken pos p e = grind (arith, greatest-passes)

-- a refused step leads to a target: the last save-point, or the start
pub refused-target : (plan : Planned) (taken : ℕ → Bool) (pos used p : ℕ)
    → p ≡ refused_target plan taken pos used → IsTarget plan taken pos p
refused-target plan taken pos used p e = grind (arith, last_save-target)

-- a request turns the journey only to a target
pub asked-target : (plan : Planned) (taken : ℕ → Bool) (pos p : ℕ) (going : Option ℕ)
    → may_turn plan taken pos going p ≡ true → IsTarget plan taken pos p
asked-target plan taken pos p going e = grind (arith, and_parts, or_cases, eqb-true)
