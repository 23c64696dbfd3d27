-- The version of the program.
use Rattle.std.specs.Prelude.{codes, [], ◌∷◌, ◌++◌}
use Rattle.clap.specs.Words.{Text}

-- the version, of three numbers; the newest numbered heading of CHANGES.md has the same version
abbrev pub version_text : Text
version_text = codes "0.2.0"

-- the line of the version, with its line feed: `desk 0.2.0`
abbrev pub version_line : Text
version_line = codes "desk " ++ (version_text ++ (10 ∷ []))
