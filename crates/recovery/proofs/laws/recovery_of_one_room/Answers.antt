-- The law is used as it stands.
use Rattle.std.proofs.Common.{◌≡◌, ◌≤◌, ◌∙◌, List, length, sym, subst}
use Rattle.ledger.specs.Ledger.{Event}
use Rattle.ledger.specs.Recovery.{bound}
use Rattle.recovery.specs.Examples.{room_changes_hands, room_is_wanted_twice, room_is_recovered, room_ledger_is_legal}
use Rattle.recovery.proofs.laws.recovery_of_one_room.Goals as goal

pub returns : goal.returns
returns c =
    let it = c.one_recovery.ensures.one room_is_wanted_twice room_ledger_is_legal in
    let same : room_changes_hands ≡ it.events = it.alone room_changes_hands room_is_recovered in
    record {
      alone = λ other is. it.alone other is ∙ sym same;
      bounded = subst (λ (es : List Event). length es ≤ bound room_is_wanted_twice.ledger) (sym same) it.bounded;
    }
