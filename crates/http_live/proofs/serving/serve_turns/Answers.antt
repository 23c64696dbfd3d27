-- Turn after turn.
use Rattle.std.proofs.Common.{Ok, ap, inl, refl, rules}
use Rattle.std.proofs.lemmas.Result.{err_from_is_err_and}
use Rattle.http_live.specs.Endings.{ends_stopped}
use Rattle.http_live.specs.InTime.{both, instant, was_shown}
use Rattle.saga_core.proofs.CallLemmas.{stays_alone, stays_served, stays_twice}
use Rattle.http_live.proofs.TurnLemmas.{gives_turn, no_turn, one_more, turn_as}
use Rattle.http_live.proofs.serving.serve_turns.Goals as goal

-- no turn was taken yet
pub loop-init : goal.loop-init
loop-init g c = record {
  gives = was_shown (inl refl);
  turns = no_turn (instant c.args.turns.now c.args.slots.now c.args.book.now);
  stays = stays_alone c.args.book.now;
}

-- one more turn was taken
pub loop-preserved : goal.loop-preserved
loop-preserved g c =
    let at = c.loop in
    let turn = c.in_ok-ending.ensures in record {
      gives = both at.invariant.gives (gives_turn _ _ _ _ _ turn.turn.1);
      turns = one_more at.invariant.turns (turn_as (ap (λ end. ends_stopped (Ok end)) c.in-None.is) turn.turn);
      stays = stays_twice at.invariant.stays (stays_served turn.serves);
    }

-- the store failed
pub returns-in_err-ending-clause-turns : goal.returns-in_err-ending-clause-turns
returns-in_err-ending-clause-turns g c =
    let failed = err_from_is_err_and c.from_residual.result c.from_residual.ensures.1 in
    rw (failed.1, failed.2) (one_more c.loop.invariant.turns c.in_err-ending.ensures.turn)

-- serving ends
pub returns-in-Some-clause-turns : goal.returns-in-Some-clause-turns
returns-in-Some-clause-turns g c =
    one_more c.loop.invariant.turns (turn_as (ap (λ end. ends_stopped (Ok end)) c.in-Some.is) c.in_ok-ending.ensures.turn)

pub returns-in-Some-clause-serves : goal.returns-in-Some-clause-serves
returns-in-Some-clause-serves g c =
    let stays = stays_twice c.loop.invariant.stays (stays_served c.in_ok-ending.ensures.serves) in
    record { failed = search rules; stays_failed = stays.stays_failed; stays_left = stays.stays_left; sound = stays.sound }
