-- Field after field, none says it, until one does.
use Rattle.std.proofs.Common.{arith, codes, take}
use Rattle.http_messages.proofs.FieldLemmas.{values_from}
use Rattle.http_messages.proofs.heads.Head.closes.Goals as goal
use Rattle.http_messages.proofs.heads.Head.closes.Goals.{else-is_alike-via-then-is_alike+else-is_alike-2, else-is_alike-via-else-is_alike}

-- the field says nothing
pub loop-field-preserved : goal.loop-field-preserved
loop-field-preserved c =
    let head = c.self.inside in
    let next = values_from head.front.now (codes "connection") (take head.line.headers head.fields) c.loop-field.field-index _ _ _ c.loop-field-test.true
    c.of.ensures c.is_alike.ensures.alike in
    elim c.else-is_alike.branch [
      | else-is_alike-via-then-is_alike+else-is_alike-2 w ↦ grind (arith, next)
      | else-is_alike-via-else-is_alike w ↦ grind (arith, next)
    ]
