-- The time of a line.
use Rattle.std.specs.Prelude.{◌≡◌, ℕ, ℤ, pos, ◌*◌, List, ◌++◌, Option, Some, false, codes}
use Rattle.jiff_core.specs.declared.civil.datetime.DateTime.{DateTime}
use Rattle.jiff_core.specs.DateTime.{civil_nanos}
use Rattle.jiff_fmt.specs.Text.{datetime_text}

-- so many milliseconds, in nanoseconds
abbrev pub nanos_of : ℕ → ℤ
nanos_of millis = pos (millis * 1_000_000)

-- the text is that of the instant so many milliseconds after 1970-01-01T00:00:00Z: what a clock at UTC shows, with three digits
-- of the second, and then `Z`
abbrev pub IsTimeText : ℕ → List ℕ → Type 0
IsTimeText millis text =
    (shown : DateTime) × (civil_nanos shown ≡ nanos_of millis) × (text ≡ datetime_text false 84 (Some 3) shown ++ codes "Z")

-- the text is the line with its time in front: the time, a space, and the line as it is written without a time
abbrev pub IsTimedLine : ℕ → (line text : List ℕ) → Type 0
IsTimedLine millis line text =
    (time : List ℕ) × IsTimeText millis time × (text ≡ time ++ (codes " [INFO  desk] " ++ line))
