-- A connection is served message by message, until a closing page, the end of the input or a fault.
-- More than 60 lines: a loop and seven ways out.
use Rattle.std.proofs.Common.{◌∙◌, sym, arith}
use Rattle.std.proofs.lemmas.Result.{err_from_is_err_and}
use Rattle.saga_core.specs.declared.serve_faults.ServeFault.TheVariants.{Read}
use Rattle.saga_core.proofs.KnownLemmas.{for_known}
use Rattle.http_conversations.specs.Conversations.{history}
use Rattle.saga_core.proofs.CallLemmas.{stays_alone, stays_served, stays_twice}
use Rattle.http_conversations.proofs.ServeLemmas.{all_answered, answer_fails, closes_all, closing_of, open_of, rest_is, starts, stays_on, stops, write_fails}
use Rattle.http_conversations.proofs.ServeReasonLemmas.{sends_then, serves_none, serves_nothing}
use Rattle.http_conversations.proofs.serving.serve_messages.Goals as goal

-- memory ran out at the beginning

pub returns-in_err-paths-clause-served : goal.returns-in_err-paths-clause-served
returns-in_err-paths-clause-served g c =
    let failed = err_from_is_err_and c.from_residual.result c.from_residual.ensures.1 in
    rw (failed.1, failed.2) (serves_nothing (g.W.Write.contents c.args.writer.now) (g.R.Read.remaining c.args.reader.now) c.args.book.now)

pub returns-in_err-buffer-clause-served : goal.returns-in_err-buffer-clause-served
returns-in_err-buffer-clause-served g c =
    let failed = err_from_is_err_and c.from_residual-in_err-buffer.result c.from_residual-in_err-buffer.ensures.1 in
    rw (failed.1, failed.2) (serves_nothing (g.W.Write.contents c.args.writer.now) (g.R.Read.remaining c.args.reader.now) c.args.book.now)

-- no message was answered
pub loop-pages-init : goal.loop-pages-init
loop-pages-init g c = grind (arith, stays_alone, starts, serves_none, g.B.Book.stands, g.B.Book.leaves)

-- the next message was not answered
pub returns-in_err-found-clause-served : goal.returns-in_err-found-clause-served
returns-in_err-found-clause-served g c =
    let at = c.loop-pages in
    let next = c.in_err-found.ensures in
    let failed = err_from_is_err_and c.from_residual-in_err-found.result c.from_residual-in_err-found.ensures.1 in
    rw (failed.1, failed.2) (record {
      answers = λ sound s stood. for_known (g.R.Read.remaining c.args.reader.now) _ (λ input is.
          let so_far = at.invariant.so_far (next.serves.sound sound) s stood input is in
          answer_fails so_far sound c.in_err-found.field-0.0 (rest_is so_far _ next.next));
      reasons = (history c.answer_next.new.conversation, next.reason _ _ at.invariant.reason);
    })

-- the input has ended
pub returns-then-not-found-clause-served : goal.returns-then-not-found-clause-served
returns-then-not-found-clause-served g c =
    let at = c.loop-pages in
    let next = c.in_ok-found.ensures in
    record {
      answers = λ sound s stood. for_known (g.R.Read.remaining c.args.reader.now) _ (λ input is.
          let so_far = at.invariant.so_far (next.serves.sound sound) s stood input is in
          all_answered so_far sound (rw c.if-not-found.true at (rest_is so_far _ next.next)));
      reasons = (history c.answer_next.new.conversation, next.reason _ _ at.invariant.reason);
    }

-- the page was written in part
pub returns-in_err-send_page-clause-served : goal.returns-in_err-send_page-clause-served
returns-in_err-send_page-clause-served g c =
    let at = c.loop-pages in
    let next = c.in_ok-found.ensures in
    let sent = c.in_err-send_page.ensures in
    let failed = err_from_is_err_and c.from_residual-in_err-send_page.result c.from_residual-in_err-send_page.ensures.1 in
    rw (failed.1, failed.2, sent.fault) (record {
      answers = λ sound s stood. for_known (g.R.Read.remaining c.args.reader.now) _ (λ input is.
          let so_far = at.invariant.so_far (next.serves.sound sound) s stood input is in
          write_fails so_far sound (rw c.if-not-found.false at (rest_is so_far _ next.next)) sent.some);
      reasons = (
        history c.send_page.new.conversation,
        sends_then (next.reason _ _ at.invariant.reason) c.send_page.new.conversation.served sent.some.same,
      );
    })

-- the page closes
pub returns-then-not-is_open-clause-served : goal.returns-then-not-is_open-clause-served
returns-then-not-is_open-clause-served g c =
    let at = c.loop-pages in
    let next = c.in_ok-found.ensures in
    let sent = c.in_ok-send_page.ensures in
    record {
      answers = λ sound s stood. for_known (g.R.Read.remaining c.args.reader.now) _ (λ input is.
          let so_far = at.invariant.so_far (next.serves.sound sound) s stood input is in
          let got = rw c.if-not-found.false at (rest_is so_far _ next.next) in
          closes_all so_far sound got sent.some sent.all
          (closing_of _ (history c.answer_next.new.conversation).stage got.stage (λ is_open.
          let opened = c.is_open.ensures.is_open.1 (sent.some.same.stage ∙ is_open) in
          let closed = c.if-not-is_open.true in cc)));
      reasons = (
        history c.send_page.new.conversation,
        sends_then (next.reason _ _ at.invariant.reason) c.send_page.new.conversation.served sent.some.same,
      );
    }

-- the page does not close
pub loop-pages-preserved : goal.loop-pages-preserved
loop-pages-preserved g c =
    let at = c.loop-pages in
    let next = c.in_ok-found.ensures in
    let sent = c.in_ok-send_page.ensures in
    let is_open = c.is_open.ensures.is_open.0 c.if-not-is_open.false in
    let reason = sends_then (next.reason _ _ at.invariant.reason) c.send_page.new.conversation.served sent.some.same in
    record {
      awaits = record { is_open = is_open; free = sent.all; at_port = reason.at_port };
      stays = stays_twice at.invariant.stays (stays_served next.serves);
      reason = reason;
      so_far = λ sound s stood input is.
          let so_far = at.invariant.so_far (next.serves.sound sound) s stood input is in
          let got = rw c.if-not-found.false at (rest_is so_far _ next.next) in
          stays_on so_far sound got sent.some sent.all
          (open_of _ (history c.answer_next.new.conversation).stage got.stage (sym sent.some.same.stage ∙ is_open)) (sym sent.some.same.stage ∙ is_open);
    }

-- more messages were answered than can be counted
pub returns-clause-served : goal.returns-clause-served
returns-clause-served g c = record {
  answers = λ sound s stood. for_known (g.R.Read.remaining c.args.reader.now) _ (λ input is.
      stops Read (c.loop-pages.invariant.so_far sound s stood input is) tt);
  reasons = (history c.loop-pages.conversation, c.loop-pages.invariant.reason);
}
