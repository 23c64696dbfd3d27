use Rattle.std.proofs.Common.{◌≡◌, map, take}
use Rattle.serde_json.specs.View.{view}
use Rattle.previews.specs.Layouts.{free_data}
use Rattle.previews.specs.declared.nights.FreeNight.{FreeNight}
use Rattle.previews.proofs.bodies.nights_value.Given as goal

-- the values so far are those of the nights so far
abbrev pub invariant-loop-night : goal.invariant-loop-night
invariant-loop-night l =
    map view l.values.items ≡ map (λ (n : FreeNight). free_data n.night n.free) (take l.night-index l.nights)
