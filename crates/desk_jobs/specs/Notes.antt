-- The notes of a job: that its opening recovered events, and which field of an allotment file is wrong.
use Rattle.std.specs.Prelude.{◌≡◌, ◌≢◌, ◌⊎◌, ℕ, List, [], ◌∷◌, ◌++◌, ◌&&◌, Bool, true, false, codes, decimal, map, take, nat_le, if◌then◌else◌, Option, Some, None, option_map, option_and_then}
use Rattle.std.specs.Io.KnownBytes.{Keeps}
use Rattle.commands.specs.Texts.{sentence}
use Rattle.commands.specs.declared.replies.CsvCause.{CsvCause}
use Rattle.commands.specs.declared.replies.CsvCause.TheVariants as csv
use Rattle.commands.specs.declared.replies.Refusal.TheVariants as refusal
use Rattle.allotment_csv.specs.WrongFields.{FieldText, column_name, wrong_field_in}
use Rattle.saga_core.specs.Written.{WroteFront}
use Rattle.saga_core.specs.StreamScenes.{ended}
use Rattle.program_ends.specs.declared.ends.End.{End}
use Rattle.program_ends.specs.declared.ends.End.TheVariants as finish

-- the note of so many recovered events: `recovered events (see 'desk history'): 3`
abbrev pub recovered_note : ℕ → List ℕ
recovered_note made =
    ended (sentence (codes "recovered events (see 'desk history'):" ∷ decimal made ∷ []))

-- nothing was written, or a prefix of the note of so many events
abbrev pub NotesOrKeeps : ℕ → Option (List ℕ) → Option (List ℕ) → Type 0
NotesOrKeeps made held holds = Keeps held holds ⊎ WroteFront held holds (recovered_note made)

-- nothing was written, or a prefix of the note of some events
abbrev pub MayNote : Option (List ℕ) → Option (List ℕ) → Type 0
MayNote held holds = Keeps held holds ⊎ ((made : ℕ) × WroteFront held holds (recovered_note made))

-- What was noted of a recovery with so many events: nothing if there are none, else a prefix of the note.
pub record NotesEvents (made : ℕ) (held holds : Option (List ℕ)) : Type 0 where
  pub none : made ≡ 0 → Keeps held holds
  pub note : made ≢ 0 → WroteFront held holds (recovered_note made)
  pub either : NotesOrKeeps made held holds
  pub some : MayNote held holds

-- a byte as it is shown: printable ASCII as itself, all others as `?`
abbrev pub shown_byte : ℕ → ℕ
shown_byte byte = if nat_le 32 byte && nat_le byte 126 then byte else 63

-- the first 60 bytes of a text, as they are shown
abbrev pub shown_text : List ℕ → List ℕ
shown_text text = map shown_byte (take 60 text)

-- the note of a wrong field: `row 3, night: 2030-13-01`
abbrev pub field_note : ℕ → FieldText → List ℕ
field_note row field =
    ended (codes "row " ++ decimal row ++ codes ", " ++ column_name field.0 ++ codes ": " ++ shown_text field.1)

-- the fault is of one field
abbrev pub is_of_field : CsvCause → Bool
is_of_field csv.Kind = true
is_of_field csv.Code = true
is_of_field csv.Night = true
is_of_field csv.Places = true
is_of_field _ = false

-- the row that was refused because of one of its fields
abbrev pub refused_row : End → Option ℕ
refused_row (finish.Refused (refusal.BadCsv row fault)) = if is_of_field fault then Some row else None
refused_row _ = None

-- the row of a file that was refused because of one of its fields, and that field
abbrev pub refused_field : List ℕ → End → Option (ℕ × FieldText)
refused_field bytes end =
    option_and_then (λ row. option_map (λ (f : FieldText). (row, f)) (wrong_field_in bytes row)) (refused_row end)

-- nothing was written if no field is wrong, and a prefix of its note if one is
abbrev pub NotesField : Option (ℕ × FieldText) → Option (List ℕ) → Option (List ℕ) → Type 0
NotesField None held holds = Keeps held holds
NotesField (Some field) held holds = WroteFront held holds (field_note field.0 field.1)

-- nothing was written, or a prefix of the note of some field
abbrev pub NotesSome : Option (List ℕ) → Option (List ℕ) → Type 0
NotesSome held holds = (field : Option (ℕ × FieldText)) × NotesField field held holds

-- perhaps the note of a recovery, and then perhaps that of a wrong field
pub record MayNoteAll (held holds : Option (List ℕ)) : Type 0 where
  pub between : Option (List ℕ)
  pub recovered : MayNote held between
  pub field : NotesSome between holds
