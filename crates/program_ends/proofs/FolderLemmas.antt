-- The folder of a path, by its last slash.
use Rattle.std.proofs.Common.{◌≡◌, ◌∙◌, ℕ, List, ◌∷◌, ◌++◌, ap, inr, subst, sym, take}
use Rattle.std.proofs.Math.Utf8.{encode}
use Rattle.std.proofs.lemmas.List.{take-append-drop}
use Rattle.std.specs.Str.Pattern.{RFindsChar, SplitsAroundMatch}
use Rattle.program_ends.specs.FileCauses.{folder_before, HasNoSlash, IsFolder}

-- a path is what stands before its last slash, the slash, and what stands behind it
pub last_slash_cuts : (path before name folder : List ℕ) → SplitsAroundMatch (RFindsChar 47) path before name
    → folder ≡ folder_before before → IsFolder path folder
unfolding encode
last_slash_cuts path before name folder split is =
    let front = split.3 in
    let back = split.4 in
    let whole : path ≡ take split.0 path ++ 47 ∷ name =
    sym (take-append-drop split.0 path) ∙ (rw back (ap (λ (rest : List ℕ). take split.0 path ++ rest) split.2.1.split)) in
    inr (before, name, subst (λ (b : List ℕ). path ≡ b ++ 47 ∷ name) (sym front) whole, subst HasNoSlash (sym back) split.2.0, is)
