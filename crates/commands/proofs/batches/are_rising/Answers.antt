use Rattle.std.proofs.Common.{◌≡◌, true, ◌+◌, ap, sym, ◌∙◌, drop, Some, ◌&&◌}
use Rattle.commands.specs.CellKeys.{row_key, is_above, rises_above}
use Rattle.commands.proofs.RepeatLemmas.{rises_at}
use Rattle.commands.proofs.batches.are_rising.Goals as goal

-- the current row is above the last one, and the later ones have to rise above it
pub loop-row-preserved : goal.loop-row-preserved
loop-row-preserved c =
    let rows = c.args.rows.now in
    let i = c.loop-row.row-index in
    let r = c.row-item.result in
    let last = c.loop-row.last in
    let above : is_above last (row_key r) ≡ true
    = ap (is_above last) (sym c.key_of.ensures.key) ∙ sym c.is_above.ensures.above ∙ c.if-not-is_above.false in
    c.loop-row.invariant
    ∙ rises_at rows i r last c.loop-row-test.true c.row-item.is
    ∙ ap (λ b. b && rises_above (Some (row_key r)) (drop (i + 1) rows)) above
    ∙ ap (λ k. rises_above (Some k) (drop (i + 1) rows)) (sym c.key_of-in-loop-row.ensures.key)
