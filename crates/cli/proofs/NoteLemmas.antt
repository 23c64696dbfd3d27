-- What is noted where a job stops before its notes, or has only one. For `loads` and `programs`.
use Rattle.std.proofs.Common.{ℕ, List, Option, None, inl}
use Rattle.saga_core.proofs.ByteLemmas.{keeps_same}
use Rattle.desk_jobs.specs.Notes.{MayNote, MayNoteAll}

-- of two notes there is the first at most
pub first_alone : (held holds : Option (List ℕ)) → MayNote held holds → MayNoteAll held holds
first_alone held holds noted = record { between = holds; recovered = noted; field = (None, keeps_same holds) }

-- there is no note
pub none_noted : (held : Option (List ℕ)) → MayNoteAll held held
none_noted held = first_alone held held (inl (keeps_same held))
