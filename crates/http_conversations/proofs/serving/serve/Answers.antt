-- The result of serving says how the execution continues.
use Rattle.saga_core.specs.StreamScenes.{scene}
use Rattle.desk_http.proofs.WorldLemmas.{messages_go_on, messages_stop}
use Rattle.http_conversations.specs.declared.serving.Served.{Served}
use Rattle.http_conversations.proofs.ServeLemmas.{all_of, some_of}
use Rattle.http_conversations.proofs.serving.serve.Goals as goal

-- it continues with all messages
pub returns-clause-world : goal.returns-clause-world
returns-clause-world g c = λ sound.
    let book = g.B.Book in
    let contents = g.W.Write.contents in
    let new = c.serve_messages.new.book in
    let x = scene (contents c.args.writer.now) (contents c.serve_messages.new.writer) (book.stands new) (book.leaves new) in
    let known = g.R.Read.remaining c.args.reader.now in
    messages_go_on {stood = book.stands c.args.book.now} (λ (served : Served). served.pages) x known _ (g.met.B.Book.settled new)
    (λ s was. all_of x s known _ (c.serve_messages.ensures.served.answers sound s was))

-- it continues with a prefix of the messages
pub returns-clause-world_at_fault : goal.returns-clause-world_at_fault
returns-clause-world_at_fault g c = λ sound.
    let book = g.B.Book in
    let contents = g.W.Write.contents in
    let new = c.serve_messages.new.book in
    let x = scene (contents c.args.writer.now) (contents c.serve_messages.new.writer) (book.stands new) (book.leaves new) in
    let known = g.R.Read.remaining c.args.reader.now in
    messages_stop {stood = book.stands c.args.book.now} (λ (served : Served). served.pages) x known _ (g.met.B.Book.settled new)
    (λ s was. some_of x s known _ (c.serve_messages.ensures.served.answers sound s was))
