use Rattle.std.proofs.Common.{drop}
use Rattle.http_messages.specs.Fields.{IsFoundBefore}
use Rattle.http_messages.proofs.FieldLemmas.{values_in}
use Rattle.http_messages.proofs.heads.Head.find.Given as goal

-- so much is found before the fields that are left
abbrev pub invariant-loop-field : goal.invariant-loop-field
invariant-loop-field l =
    IsFoundBefore (values_in l.self-inside.front.now l.name (drop l.field-index l.fields)) l.found (values_in l.self-inside.front.now l.name l.fields)
