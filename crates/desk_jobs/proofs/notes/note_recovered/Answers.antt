-- What was noted is a prefix of the note of some events, if anything was.
use Rattle.std.proofs.Common.{inr}
use Rattle.desk_jobs.proofs.notes.note_recovered.Goals as goal

pub returns-then-made-ne0 : goal.returns-then-made-ne0
returns-then-made-ne0 g c = record {
  none = λ is. absurd (c.if-made-ne0.true is);
  note = λ _. c.write_note.ensures.note;
  either = inr c.write_note.ensures.note;
  some = inr (c.args.made, c.write_note.ensures.note);
}
