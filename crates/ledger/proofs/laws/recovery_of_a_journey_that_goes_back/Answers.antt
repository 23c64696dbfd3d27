-- Each law is used as it stands: the recovered ledger that exists is the worked one, since there is only one.
use Rattle.std.proofs.Common.{◌≡◌, ◌≤◌, ◌+◌, List, [], ◌∷◌, length, subst}
use Rattle.ledger.specs.Examples.{done, undone}
use Rattle.ledger.specs.LawExamples.{aborted_to_2_is_legal, recovered_from_2, begun_from_2}
use Rattle.ledger.specs.Ledger.{Event}
use Rattle.ledger.specs.Recovery.{bound}
use Rattle.ledger.specs.RecoveryExamples.{aborted_to_2, items, journey_going_back_is_recovered, journey_going_back_is_under_way}
use Rattle.ledger.proofs.laws.recovery_of_a_journey_that_goes_back.Goals as goal

pub returns : goal.returns
returns c =
    let law = c.recoveries.ensures in
    let it = law.exists aborted_to_2 aborted_to_2_is_legal in
    let same : it.recovered ≡ recovered_from_2
    = law.unique aborted_to_2 it.recovered recovered_from_2 it.is_recovered journey_going_back_is_recovered in
    record {
      within = subst (λ (r : List Event). length r ≤ length aborted_to_2 + bound aborted_to_2) same it.within;
      cut_off = it.cut_off begun_from_2 (items (undone 3 ∷ done 3 ∷ done 4 ∷ done 5 ∷ done 6 ∷ [])) same;
      under_way = law.under_way aborted_to_2 aborted_to_2_is_legal begun_from_2 journey_going_back_is_under_way;
    }
