-- The two fields are those of the night.
use Rattle.std.proofs.Common.{◌≡◌, ◌++◌, ◌∷◌, [], subst, IfOk, List, ℕ, arith}
use Rattle.previews.specs.Layouts.{night_fields}
use Rattle.previews.proofs.records.put_night.Goals as goal

pub returns-in_ok-free-in-Some : goal.returns-in_ok-free-in-Some
returns-in_ok-free-in-Some c =
    let two : List ℕ → List ℕ → List (List ℕ) = λ a b. a ∷ b ∷ [] in
    let fields : two c.as_str.result.now c.as_str-in-Some.result.now ≡ night_fields c.args.night.now = grind arith in
    record { adds = subst (λ fs. IfOk c.put_two.result (λ all. all ≡ c.args.fields ++ fs)) fields c.put_two.ensures.adds }
