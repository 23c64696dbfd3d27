-- The result of a run says how the execution continues.
use Rattle.std.proofs.Common.{arith}
use Rattle.saga_core.specs.StreamScenes.{scene}
use Rattle.recovery.proofs.LineWorldLemmas.{lines_go_on, lines_stop}
use Rattle.recovery.proofs.runs.run_lines.Goals as goal

-- it continues with all lines
pub returns-clause-world : goal.returns-clause-world
returns-clause-world g c = λ sound.
    let book = g.B.Book in
    let contents = g.W.Write.contents in
    lines_go_on {stood = book.stands c.args.book.now}
    (scene (contents c.args.writer.now) (contents c.answer_input.new.writer)
    (book.stands c.answer_input.new.book) (book.leaves c.answer_input.new.book))
    (g.R.Read.remaining c.args.reader.now) _ (g.met.B.Book.settled c.answer_input.new.book)
    (c.answer_input.ensures.all sound)

-- it continues with a prefix of the lines
pub returns-clause-world_at_fault : goal.returns-clause-world_at_fault
returns-clause-world_at_fault g c = grind (arith, lines_stop, g.met.B.Book.settled, c.answer_input.ensures.some)
