-- The JSON value of a plan, step by step and option by option. It contains no float.
use Rattle.std.proofs.Common.{refl, ap, sym, ◌∙◌, add-one, arith, inl, inr, ◌≡◌, ℕ, ◌+◌, ◌<◌, zero, suc, false, List, [], ◌∷◌, ◌++◌, map, take, length, slice_get, Some}
use Rattle.std.proofs.lemmas.List.{map-append}
use Rattle.std.proofs.lemmas.Option.{slice_get_cases}
use Rattle.serde_json.specs.View.{items_of}
use Rattle.serde_json.specs.Written.{has_float, items_have_float}
use Rattle.allotment.specs.Want.{Wanted}
use Rattle.plan.specs.PlanData.{plan_data, step_data, want_data}
use Rattle.plan.specs.PlanModel.{Planned, StepPlan}

-- Lists of values.

-- the elements up to the next one are those before it, and it
take_more : {X : Type 0} (xs : List X) (n : ℕ) (x : X) → slice_get xs n ≡ Some x → take (suc n) xs ≡ take n xs ++ x ∷ []
take_more [] n x e = cc
take_more (y ∷ xs) zero x e = cc
take_more (y ∷ xs) (suc n) x e = ap (λ l. y ∷ l) (take_more xs n x e)

module _ {X Y Z : Type 0} (g : X → Z) (f : Y → Z) (ys : List Y) (n : ℕ) (old new : List X) (x : X) where
  -- the values up to the next element are those before it, and its own
  pub value_more : (y : Y) → slice_get ys n ≡ Some y → new ≡ old ++ x ∷ [] → map g old ≡ map f (take n ys) → g x ≡ f y
      → map g new ≡ map f (take (n + 1) ys)
  value_more y found pushed so_far is =
      ap (map g) pushed ∙ map-append g old (x ∷ []) ∙ ap (λ l. l ++ g x ∷ []) so_far ∙ ap (λ z. map f (take n ys) ++ z ∷ []) is
      ∙ sym (map-append f (take n ys) (y ∷ [])) ∙ ap (map f) (sym (take_more ys n y found) ∙ ap (λ k. take k ys) (sym (add-one n)))

  -- the same of an element that the list has
  pub next_value : n < length ys → ((y : Y) → slice_get ys n ≡ Some y → g x ≡ f y) → new ≡ old ++ x ∷ []
      → map g old ≡ map f (take n ys) → map g new ≡ map f (take (n + 1) ys)
  next_value within is pushed so_far =
      elim (slice_get_cases ys n).1 [
        | inl at ↦ value_more at.0 at.2 pushed so_far (is at.0 at.2)
        | inr past ↦ absurd (omega (arith, past.0, within))
      ]

-- No floats.

-- a list of options contains no float
no_float-wants : (ws : List Wanted) → items_have_float (items_of (map want_data ws)) ≡ false
no_float-wants [] = refl
no_float-wants (w ∷ later) = no_float-wants later

-- a list of steps contains no float
no_float-steps : (ss : List StepPlan) → items_have_float (items_of (map step_data ss)) ≡ false
no_float-steps [] = refl
no_float-steps (s ∷ later) = rw (no_float-wants s.options) (no_float-steps later)

-- a plan contains no float
pub no_float_plan : (p : Planned) → has_float (plan_data p) ≡ false
no_float_plan p = rw (no_float-steps p.steps) refl
