-- What a slot has more, and gains in a turn, is what its connection has more.
use denote.Enum.Bare.{same_true}
use Rattle.std.proofs.Common.{◌++◌, ◌∙◌, ap, arith, refl, sym}
use Rattle.std.proofs.lemmas.Grind.{common_steps}
use Rattle.std.proofs.lemmas.Result.{err_from_is_err_and}
use Rattle.http_conversations.specs.Conversations.{history}
use Rattle.http_live.specs.contracts.slots.Standing.{the_type}
use Rattle.http_live.specs.Endings.{is_stop}
use Rattle.http_live.specs.Slots.{exchanges_before, exchanges_now, exchanges_with}
use Rattle.http_live.proofs.GainLemmas.{gains_at, gains_over}
use Rattle.http_live.proofs.LeadLemmas.{turn_at}
use Rattle.http_live.proofs.slots.Slot.serve.Goals as goal

-- the store failed
pub returns-in_err-standing-clause-goes_on : goal.returns-in_err-standing-clause-goes_on
returns-in_err-standing-clause-goes_on g c =
    let failed = err_from_is_err_and c.from_residual.result c.from_residual.ensures.1 in
    let s = c.args.self.now in
    let on = c.in_err-standing.ensures.goes_on in
    rw (failed.1, failed.2) (record {
      turn = turn_at _ (exchanges_before s) (exchanges_with c.in-Some.connection) (exchanges_with c.serve.new.self) _ _
          (ap (λ t. exchanges_before s ++ exchanges_now t) c.in-Some.is) refl on.turn;
      ends = grind (arith, common_steps);
      gains = tt;
    })

-- it is over
pub returns-then-eq-clause-goes_on : goal.returns-then-eq-clause-goes_on
returns-then-eq-clause-goes_on g c =
    let s = c.args.self.now in
    let on = c.in_ok-standing.ensures.goes_on in
    let standing = c.in_ok-standing.standing in
    let was = ap (λ t. exchanges_before s ++ exchanges_now t) c.in-Some.is in
    let kept = c.clear.ensures.cleared.left.kept in
    let pending = (history c.serve.new.self.conversation).pending in record {
      turn = turn_at (is_stop standing) (exchanges_before s) (exchanges_with c.in-Some.connection) (exchanges_with c.serve.new.self) _ _ was kept on.turn;
      ends = grind (arith, common_steps);
      gains = gains_over standing pending _ _ _ (same_true the_type tt _ _ (sym c.eq.ensures ∙ c.if-eq.true))
          (gains_at (exchanges_before s) (exchanges_with c.in-Some.connection) (exchanges_with c.serve.new.self) _ _ was kept standing pending on.gains);
    }

-- it goes on
pub returns-else-eq-clause-goes_on : goal.returns-else-eq-clause-goes_on
returns-else-eq-clause-goes_on g c =
    let s = c.args.self.now in
    let on = c.in_ok-standing.ensures.goes_on in
    let standing = c.in_ok-standing.standing in
    let was = ap (λ t. exchanges_before s ++ exchanges_now t) c.in-Some.is in record {
      turn = turn_at (is_stop standing) (exchanges_before s) (exchanges_with c.in-Some.connection) (exchanges_with c.serve.new.self) _ _ was refl on.turn;
      ends = grind (arith, common_steps);
      gains = gains_at (exchanges_before s) (exchanges_with c.in-Some.connection) (exchanges_with c.serve.new.self) _ _ was refl standing _ on.gains;
    }
