use Rattle.std.proofs.Common.{◌≡◌, drop, codes}
use Rattle.std.specs.List.{list_any}
use Rattle.http_messages.specs.Heads.{is_alike}
use Rattle.http_messages.proofs.FieldLemmas.{values_in}
use Rattle.http_messages.proofs.heads.Head.closes.Given as goal

-- some field says it just if one of those that are left does
abbrev pub invariant-loop-field : goal.invariant-loop-field
invariant-loop-field l =
    list_any (λ value. is_alike value (codes "close")) (values_in l.self-inside.front.now (codes "connection") l.fields)
    ≡ list_any (λ value. is_alike value (codes "close")) (values_in l.self-inside.front.now (codes "connection") (drop l.field-index l.fields))
