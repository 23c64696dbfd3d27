-- Where nothing was to be answered, every page was yielded. What stops the desk, and what a turn gains.
use Rattle.std.proofs.Common.{Ok, ap, arith, refl, sym, ◌∙◌}
use Rattle.commands.specs.declared.replies.Fault.TheVariants.{Memory}
use Rattle.http_conversations.specs.Conversations.{history}
use Rattle.http_conversations.specs.History.{History, stops_by}
use Rattle.http_live.specs.Endings.{is_stop}
use Rattle.http_live.proofs.GainLemmas.{gains_lost, gains_none, gains_page, none_stops}
use Rattle.http_live.proofs.LeadLemmas.{turn_as, turn_none}
use Rattle.http_live.proofs.RestLemmas.{used_up}
use Rattle.http_live.proofs.connection.Connection.serve.Goals as goal

-- what waits is yielded
pub returns-then-wants_write-clause-goes_on : goal.returns-then-wants_write-clause-goes_on
returns-then-wants_write-clause-goes_on g c =
    let steps = c.push.ensures.steps in record {
      turn = turn_none (is_stop c.push.result) _ _ (none_stops c.push.result steps.unanswered) steps.kept;
      ends = grind arith;
      gains = gains_none c.push.result _ _ _ steps.unanswered steps.kept;
    }

-- a message was answered
pub returns-in-Ok-true-clause-goes_on : goal.returns-in-Ok-true-clause-goes_on
returns-in-Ok-true-clause-goes_on g c =
    let answer = c.in-Ok-true.ensures in
    let h = history c.answer.new.self.conversation in record {
      turn = turn_as (is_stop c.answered.result) (stops_by (Ok c.in-Ok-true.field-0) h) _ _ _
          (c.answered.ensures.stopping ∙ ap (λ b. stops_by (Ok b) h) (sym c.in-Ok-true.field-0-test)) refl answer.turn;
      ends = record { rests = c.answered.ensures.rests; arrival = answer.arrival; broken = tt };
      gains = gains_page c.answered.result c.in-Ok-true.field-0 (history c.args.self.now.conversation) h c.in-Ok-true.field-0-test
          answer.takes c.answered.ensures.answered;
    }

-- more is read
pub returns-in-Ok-false-clause-goes_on : goal.returns-in-Ok-false-clause-goes_on
returns-in-Ok-false-clause-goes_on g c =
    let answer = c.in-Ok-false.ensures in
    let h = history c.answer.new.self.conversation in
    let none = answer.none (ap Ok c.in-Ok-false.field-0-test) in
    let steps = c.go_on.ensures.steps in record {
      turn = turn_as (is_stop c.go_on.result) (stops_by (Ok c.in-Ok-false.field-0) h) _ _ _
          (none_stops c.go_on.result steps.unanswered ∙ ap (λ b. stops_by (Ok b) h) (sym c.in-Ok-false.field-0-test)) steps.kept answer.turn;
      ends = record {
        rests = steps.rests
            (used_up (history c.args.self.now.conversation) h c.wants_write.result c.wants_write.ensures.pending.1 c.if-wants_write.false none.0 none.1);
        arrival = steps.arrival ∙ answer.arrival;
        broken = tt;
      };
      gains = gains_none c.go_on.result _ _ _ steps.unanswered (steps.kept ∙ ap (λ (k : History). k.exchanges) none.1);
    }

-- the page was lost
pub returns-in-Err-Memory-clause-goes_on : goal.returns-in-Err-Memory-clause-goes_on
returns-in-Err-Memory-clause-goes_on g c =
    let answer = c.in-Err-Memory.ensures in
    let k = history c.answer.new.self.conversation in record {
      turn = rw c.in-Err-Memory.field-0-is at answer.turn;
      ends = record { rests = tt; arrival = answer.arrival; broken = tt };
      gains = gains_lost Memory k.pending (history c.args.self.now.conversation) k answer.takes;
    }
