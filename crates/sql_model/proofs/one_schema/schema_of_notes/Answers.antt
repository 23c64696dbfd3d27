-- The law is used as it stands.
use Rattle.std.proofs.Common.{refl}
use Rattle.sql_model.specs.SchemaExamples.{note_7, notes_are_sound, notes_schema}
use Rattle.sql_model.proofs.one_schema.schema_of_notes.Goals as goal

pub returns : goal.returns
returns c = record {
  one = λ other sound. c.schemas.ensures.one notes_schema other note_7 refl notes_are_sound sound;
}
