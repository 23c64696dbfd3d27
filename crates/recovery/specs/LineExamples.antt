-- A worked example: a line, and the request that it makes.
use Rattle.std.specs.Prelude.{ℕ, List, codes, refl}
use Rattle.std.specs.Fmt.{digits}
use Rattle.commands.specs.Request.{Request, Abort}
use Rattle.recovery.specs.Lines.{IsLineOf}

-- journey 1 is sent back to position 2
abbrev pub back_to_2 : Request
back_to_2 = Abort 1 2

abbrev pub back_to_2_text : List ℕ
back_to_2_text = codes "abort 1 2"

pub back_to_2_has_this_line : IsLineOf back_to_2_text back_to_2
unfolding digits
back_to_2_has_this_line = (refl, refl)
