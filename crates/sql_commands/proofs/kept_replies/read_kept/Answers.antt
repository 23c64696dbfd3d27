-- The kept reply is found, or that none is kept.
use Rattle.std.proofs.Common.{[]}
use Rattle.sql_reads.proofs.ReadLemmas.{found_rows, query_fails, read_ok, read_so}
use Rattle.sql_commands.proofs.EventCommits.{kept_line, kept_reply, none_kept, reply_texts}
use Rattle.sql_commands.proofs.kept_replies.read_kept.Goals as goal

-- no row: nothing is kept
pub returns-in-Ok-None : goal.returns-in-Ok-None
returns-in-Ok-None g c =
    read_ok (found_rows (rw c.in-Ok-None.field-0-is at c.in-Ok-None.ensures.queries))
    (λ s desk at. none_kept at.tables s c.args.agent.now c.args.key.now at.stands desk (rw (← c.as_str.ensures.text, ← c.as_str-2.ensures.text) at.found))

-- a row: the reply is the kept one
pub returns-in-Ok : goal.returns-in-Ok
returns-in-Ok g c =
    read_ok (found_rows (rw c.in-Ok-Some.field-0-is at c.in-Ok-Some.ensures.queries))
    (λ s desk at. kept_reply at.tables s c.args.agent.now c.args.key.now c.in-Ok-Some.kept c.in-Ok.reply at.stands desk (rw (← c.as_str.ensures.text, ← c.as_str-2.ensures.text) at.found) c.in-Ok.ensures.reply)

-- a kept line is that of a reply, so that it is read while there is memory
pub returns-in-Ok-Some : goal.returns-in-Ok-Some
returns-in-Ok-Some g c =
    read_so _ (found_rows (rw c.in-Ok-Some.field-0-is at c.in-Ok-Some.ensures.queries)) (λ s desk at. tt)
    (λ s desk spelled _ at. c.in-Err-reply_in.ensures.there (kept_line at.tables s (record { agent = c.args.agent.now; key = c.args.key.now; text = [] }) c.in-Ok-Some.kept at.stands desk (rw (← c.as_str.ensures.text, ← c.as_str-2.ensures.text) at.found)))

pub returns : goal.returns
returns g c =
    query_fails c.in-Err.ensures.queries c.fault_of.ensures.memory
    (λ t s st desk spelled _. reply_texts t s st desk _ _)
