use Rattle.std.proofs.Common.{◌≡◌, map, take}
use Rattle.serde_json.specs.View.{view}
use Rattle.http_pages.specs.Bodies.{brief_data}
use Rattle.http_pages.proofs.values.briefs_value.Given as goal

-- the values so far are those of the journeys so far
abbrev pub invariant-loop-brief : goal.invariant-loop-brief
invariant-loop-brief l = map view l.values.items ≡ map (brief_data l.owners) (take l.brief-index l.briefs)
