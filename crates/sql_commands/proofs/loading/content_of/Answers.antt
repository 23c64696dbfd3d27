-- One more row, followed by a line feed.
use Rattle.std.proofs.Common.{◌<◌, ◌++◌, ◌∙◌, ℕ, List, length, ap, ap₂, arith, string_bytes}
use Rattle.sql_commands.proofs.LoadRows.{text_more}
use Rattle.sql_commands.proofs.loading.content_of.Goals as goal

pub loop-row-preserved : goal.loop-row-preserved
loop-row-preserved c =
    let before = string_bytes c.loop-row.content in
    let within : c.loop-row.row-index < length c.args.rows.now = omega (arith, c.loop-row-test.true) in
    c.in_ok-push.ensures.bytes
    ∙ ap₂ (λ (a b : List ℕ). a ++ b)
    (c.in_ok-push_str.ensures.bytes ∙ ap (λ (line : List ℕ). before ++ line) (c.as_str.ensures.value ∙ c.in_ok-line.ensures))
    (c.push.ensures.ascii (omega arith))
    ∙ text_more c.args.rows.now c.loop-row.row-index c.row-item.result before within c.row-item.is c.loop-row.invariant
