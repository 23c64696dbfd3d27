-- What waits at a slot is yielded, or its connection ends, and no message is answered.
use Rattle.std.proofs.Common.{Ok, inl, refl, subst, sym}
use Rattle.http_live.specs.Calls.{AreLeft}
use Rattle.http_live.specs.InTime.{both, gave, was_told}
use Rattle.http_live.proofs.TurnLemmas.{left_one}
use Rattle.http_live.proofs.serving.finish_turn.Goals.{in-Comes, in-Ready+then-at-slots, in-Ready+else-at-slots, in-Leaves+then-at-slots-2, in-Leaves+else-at-slots-2, in-End}
use Rattle.http_live.proofs.serving.finish_turn.Goals as goal

pub returns-clause-left : goal.returns-clause-left
returns-clause-left g c =
    let slots = c.args.slots.now in
    let same : AreLeft slots slots = record { kept = refl; arrivals = refl; unread = refl } in
    elim c.match-next_turn.branch [
      | in-Comes w ↦ subst (AreLeft slots) (sym w.slots-is) same
      | in-Ready+then-at-slots w ↦
          subst (AreLeft slots) (sym w.slots-is) (left_one slots w.in-Ready.at w.index-slots-at.result _ w.flush-standing.ensures.left)
      | in-Ready+else-at-slots w ↦ subst (AreLeft slots) (sym w.slots-is) same
      | in-Leaves+then-at-slots-2 w ↦
          subst (AreLeft slots) (sym w.slots-is)
          (left_one slots w.in-Leaves.at w.index-slots-at-then-at-slots-2.result _ w.clear.ensures.cleared.left)
      | in-Leaves+else-at-slots-2 w ↦ subst (AreLeft slots) (sym w.slots-is) same
      | in-End w ↦ subst (AreLeft slots) (sym w.slots-is) same
    ]

-- the source gave the turn, and heard for what a slot waits
pub returns-clause-gives : goal.returns-clause-gives
returns-clause-gives g c =
    let one = gave c.next_turn.ensures.takes in
    elim c.match-next_turn.branch [
      | in-Comes w ↦ rw w.turns-is one
      | in-Ready+then-at-slots w ↦ rw w.turns-is (both one (was_told w.in-Ready.at (Ok _) (_, inl refl, w.hear.ensures.hears)))
      | in-Ready+else-at-slots w ↦ rw w.turns-is one
      | in-Leaves+then-at-slots-2 w ↦ rw w.turns-is one
      | in-Leaves+else-at-slots-2 w ↦ rw w.turns-is one
      | in-End w ↦ rw w.turns-is one
    ]
