-- A turn is one of a slot, or none.
-- More than 60 lines: seven ways out.
use Rattle.std.proofs.Common.{◌≡◌, ◌∙◌, [], Ok, ap, inl, inr, refl, sym}
use Rattle.std.proofs.lemmas.Result.{err_from_is_err_and}
use Rattle.http_live.specs.Endings.{ends_stopped, is_stop}
use Rattle.http_live.specs.InTime.{came, ended, had_none, left, went_on}
use Rattle.http_live.proofs.RestLemmas.{stops_in_turn}
use Rattle.http_live.proofs.TurnLemmas.{changes_one, turn_as}
use Rattle.http_live.proofs.serving.take_turn.Goals as goal

-- a peer takes a slot, or is let go
pub returns-in-Comes-clause-turn : goal.returns-in-Comes-clause-turn
returns-in-Comes-clause-turn g c =
    let come = c.in-Comes.ensures in
    ([], came _ _ _ c.welcome.new.slots _ _ _ _ _ _ come.takes come.door come.mode come.pair c.welcome.ensures.taken)

-- the store failed at the message of a slot
pub returns-in_err-standing-in-Ready-clause-turn : goal.returns-in_err-standing-in-Ready-clause-turn
returns-in_err-standing-in-Ready-clause-turn g c =
    let failed = err_from_is_err_and c.from_residual.result c.from_residual.ensures.1 in
    let turn = c.in_err-standing-in-Ready.ensures in
    rw (failed.1, failed.2) (
      _,
      went_on _ _ _ _ _ _ _ _ _ c.in-Ready.at _ c.in-Ready.ensures.takes c.show_received.ensures.sees c.second-second.ensures.sees
          (changes_one _ c.args.slots.now c.in-Ready.at c.index-slots-at.result _ c.if-at-slots.true
          turn.goes_on)
          refl turn.serves.sound,
    )

-- the connection of a slot went on
pub returns-then-at-slots-clause-turn : goal.returns-then-at-slots-clause-turn
returns-then-at-slots-clause-turn g c =
    let turn = c.in_ok-standing-in-Ready.ensures in
    let standing = c.in_ok-standing-in-Ready.standing in
    let same : is_stop standing ≡ ends_stopped (Ok c.ending_after.result) =
    sym (ap (λ end. ends_stopped (Ok end)) c.ending_after.ensures.ending ∙ stops_in_turn standing) in
    turn_as same (
      _,
      went_on _ _ _ _ _ _ _ _ _ c.in-Ready.at (Ok standing) c.in-Ready.ensures.takes c.show_received.ensures.sees c.second-second.ensures.sees
          (changes_one _ c.args.slots.now c.in-Ready.at c.index-slots-at.result _ c.if-at-slots.true
          turn.goes_on)
          (_, c.show_page.ensures.sees, c.hear.ensures.hears) turn.serves.sound,
    )

-- there is no such slot
pub returns-else-at-slots-clause-turn : goal.returns-else-at-slots-clause-turn
returns-else-at-slots-clause-turn g c = ([], had_none _ _ _ _ c.in-Ready.at c.in-Ready.ensures.takes c.if-at-slots.false)

-- the connection of a slot ends
pub returns-then-at-slots-2-clause-turn : goal.returns-then-at-slots-2-clause-turn
returns-then-at-slots-2-clause-turn g c = (
  [],
  left _ _ _ _ _ c.in-Leaves.at c.in-Leaves.ensures.takes
      (inl (changes_one _ c.args.slots.now c.in-Leaves.at c.index-slots-at-then-at-slots-2.result _ c.if-at-slots-2.true c.clear.ensures.cleared)),
)

-- there is no such slot
pub returns-else-at-slots-2-clause-turn : goal.returns-else-at-slots-2-clause-turn
returns-else-at-slots-2-clause-turn g c =
    ([], left _ _ _ _ _ c.in-Leaves.at c.in-Leaves.ensures.takes (inr (c.if-at-slots-2.false, refl)))

-- no turn comes
pub returns-in-End-clause-turn : goal.returns-in-End-clause-turn
returns-in-End-clause-turn g c = ([], ended _ _ _ _ c.in-End.ensures.takes)
