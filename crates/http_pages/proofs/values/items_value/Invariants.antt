use Rattle.std.proofs.Common.{◌≡◌, map, take}
use Rattle.serde_json.specs.View.{view}
use Rattle.http_pages.specs.Bodies.{item_data}
use Rattle.http_pages.proofs.values.items_value.Given as goal

-- the values so far are those of the items so far
abbrev pub invariant-loop-item : goal.invariant-loop-item
invariant-loop-item l = map view l.values.items ≡ map item_data (take l.item-index l.history)
