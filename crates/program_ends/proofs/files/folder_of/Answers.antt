use Rattle.program_ends.proofs.FolderLemmas.{last_slash_cuts}
use Rattle.program_ends.proofs.files.folder_of.Goals as goal

pub returns-in-Some : goal.returns-in-Some
returns-in-Some c =
    record { folder = last_slash_cuts _ _ _ _ c.in-Some.ensures.cases c.folder_before.ensures.folder }
