use Rattle.std.proofs.Common.{◌≡◌, Bool, true, false, sym, ap, ◌∙◌, take, subst, not, arith}
use Rattle.std.specs.BTreeSet as set
use Rattle.commands.specs.CellKeys.{cell_key_cmp}
use Rattle.commands.proofs.RepeatLemmas.{has_row_of, repeat_among-rising, repeat_at-new, repeat_at-old, has_cells_of-next}
use Rattle.commands.proofs.batches.first_repeat.Goals as goal

-- of a test and its contrary one fails
contrary : (added has : Bool) → added ≡ not has → (b : Bool) → added ≡ b → has ≡ not b
contrary added has e b is = grind arith

-- rows that rise have no cell twice
pub returns-then-are_rising-clause-repeat : goal.returns-then-are_rising-clause-repeat
returns-then-are_rising-clause-repeat c = grind (arith, repeat_among-rising)

-- the set has the cell already, so a row before has it
pub returns-then-not-branch : goal.returns-then-not-branch
returns-then-not-branch c =
    let rows = c.args.rows.now in
    let i = c.loop-i.i in
    let r = c.index-rows-i.result in
    let has : has_row_of (take i rows) r.cell ≡ true
    = sym (c.loop-i.invariant.1 r.cell)
    ∙ ap (set.contains cell_key_cmp c.loop-i.seen) (sym c.key_of.ensures.key)
    ∙ contrary _ _ c.in_ok-insert.ensures.added false c.if-not-branch.true in
    record {
      repeat = sym (c.loop-i.invariant.0 ∙ repeat_at-old rows i r c.loop-i-test.true c.index-rows-i.is has);
      within = c.loop-i-test.true;
    }

-- the set had not the cell, and has it now
pub loop-i-preserved : goal.loop-i-preserved
loop-i-preserved c =
    let rows = c.args.rows.now in
    let i = c.loop-i.i in
    let r = c.index-rows-i.result in
    let new : has_row_of (take i rows) r.cell ≡ false
    = sym (c.loop-i.invariant.1 r.cell)
    ∙ ap (set.contains cell_key_cmp c.loop-i.seen) (sym c.key_of.ensures.key)
    ∙ contrary _ _ c.in_ok-insert.ensures.added true c.if-not-branch.false in (
      c.loop-i.invariant.0 ∙ repeat_at-new rows i r c.loop-i-test.true c.index-rows-i.is new,
      has_cells_of-next c.loop-i.seen c.insert.new.self rows i r c.loop-i-test.true c.index-rows-i.is
          c.loop-i.invariant.1
          (subst (λ k. set.Updates cell_key_cmp c.loop-i.seen c.insert.new.self k true) c.key_of.ensures.key
          c.in_ok-insert.ensures.updates),
    )
