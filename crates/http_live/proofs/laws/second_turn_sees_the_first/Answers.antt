-- The law at the second of two turns.
use Rattle.std.proofs.Common.{false, [], ◌∷◌, ◌++◌, arith, refl}
use Rattle.http_live.specs.InTime.{more, none}
use Rattle.http_live.proofs.laws.second_turn_sees_the_first.Goals as goal

pub returns : goal.returns
returns g c = record {
  sees = λ first now last xs ys one two.
      c.turns_are_in_order.ensures.law false false first now last (first ∷ now ∷ []) (xs ++ ys)
      (more _ _ _ _ _ (first ∷ []) xs ys (more _ _ _ _ _ [] [] xs (none first) one) two) (1, omega arith, refl);
}
