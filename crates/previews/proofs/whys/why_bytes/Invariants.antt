-- The head and the lines of the nights so far.
use Rattle.std.proofs.Common.{◌≡◌, ◌++◌, take}
use Rattle.std.specs.List.{flat_map}
use Rattle.previews.specs.Layouts.{why_head, why_row}
use Rattle.previews.proofs.whys.why_bytes.Given as goal

abbrev pub invariant-loop-night : goal.invariant-loop-night
invariant-loop-night l =
    l.text.items ≡ why_head l.format l.preview ++ flat_map (why_row l.format l.preview) (take l.night-index l.nights)
