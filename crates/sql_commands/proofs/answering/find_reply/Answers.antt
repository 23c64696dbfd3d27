-- The reply that is kept under the key is found, or that the key is new.
use Rattle.std.proofs.Common.{refl}
use Rattle.sql_reads.proofs.ReadLemmas.{found_rows, no_read, query_fails, read_ok, read_so}
use Rattle.sql_commands.proofs.EventCommits.{kept_line, known_reply, new_key, reply_texts}
use Rattle.sql_commands.proofs.answering.find_reply.Goals as goal

-- there is no ask
pub returns-in-None : goal.returns-in-None
returns-in-None g c = read_ok no_read (λ s desk _. rw c.in-None.is refl)

-- no row: the key is new
pub returns-in-Ok-None : goal.returns-in-Ok-None
returns-in-Ok-None g c =
    let ask = c.in-Some.ask.now in
    read_ok (found_rows (rw c.in-Ok-None.field-0-is at c.in-Ok-None.ensures.queries))
    (λ s desk at. rw c.in-Some.is (new_key at.tables s ask at.stands desk (rw (← c.agent.ensures.agent, ← c.as_str.ensures.text, ← c.key.ensures.key, ← c.as_str-in-Some.ensures.text) at.found)))

-- a row: the reply is the kept one
pub returns-in-Ok : goal.returns-in-Ok
returns-in-Ok g c =
    let ask = c.in-Some.ask.now in
    read_ok (found_rows (rw c.in-Ok-Some.field-0-is at c.in-Ok-Some.ensures.queries))
    (λ s desk at. rw c.in-Some.is (known_reply at.tables s ask c.in-Ok-Some.kept c.in-Ok.reply at.stands desk (rw (← c.agent.ensures.agent, ← c.as_str.ensures.text, ← c.key.ensures.key, ← c.as_str-in-Some.ensures.text) at.found) c.in-Ok.ensures.again))

-- a kept line is that of a reply, so that it is read while there is memory
pub returns-in-Ok-Some : goal.returns-in-Ok-Some
returns-in-Ok-Some g c =
    let ask = c.in-Some.ask.now in
    read_so _ (found_rows (rw c.in-Ok-Some.field-0-is at c.in-Ok-Some.ensures.queries)) (λ s desk at. tt)
    (λ s desk spelled _ at. c.in-Err-again.ensures.there (kept_line at.tables s ask c.in-Ok-Some.kept at.stands desk (rw (← c.agent.ensures.agent, ← c.as_str.ensures.text, ← c.key.ensures.key, ← c.as_str-in-Some.ensures.text) at.found)))

pub returns : goal.returns
returns g c =
    query_fails c.in-Err.ensures.queries c.fault_of.ensures.memory
    (λ t s st desk spelled _. reply_texts t s st desk _ _)
