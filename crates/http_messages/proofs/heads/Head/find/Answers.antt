-- Field after field, what is found is what came before those that are left.
use Rattle.std.proofs.Common.{arith, take}
use Rattle.http_messages.proofs.FieldLemmas.{values_from}
use Rattle.http_messages.proofs.heads.Head.find.Goals as goal
use Rattle.http_messages.proofs.heads.Head.find.Goals.{then-is_alike, else-is_alike}

-- a field of the name adds its value, and another one nothing
pub loop-field-preserved : goal.loop-field-preserved
loop-field-preserved c =
    let head = c.self.inside in
    let next = values_from head.front.now c.args.name.now (take head.line.headers head.fields) c.loop-field.field-index _ _ _ c.loop-field-test.true
    c.of.ensures c.is_alike.ensures.alike in
    elim c.if-is_alike.branch [
      | then-is_alike w ↦ grind (arith, next)
      | else-is_alike w ↦ grind (arith, next)
    ]
