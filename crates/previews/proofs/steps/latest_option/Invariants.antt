use Rattle.std.proofs.Common.{◌-◌, ◌^◌, ◌≤◌, List}
use Rattle.commands.specs.declared.items.Item.{Item}
use Rattle.reports.proofs.TakeLemmas.{Goes}
use Rattle.previews.proofs.LatestLemmas.{Read}
use Rattle.previews.proofs.steps.latest_option.Given as goal

-- the option of the items that were read
abbrev pub invariant-loop-item : goal.invariant-loop-item
invariant-loop-item g l =
    let source = g.R.RowSource in
    record {
      read : source.is_sound l.rows → (all : List Item) → source.rests l.fn.rows all
          → Read l.step (source.rests l.rows) all l.latest;
      given : source.given l.fn.rows ≤ source.given l.rows;
      takes : Goes source l.fn.rows l.rows;
    }

-- fewer items are returned than can be counted
abbrev pub decreases-loop-item : goal.decreases-loop-item
decreases-loop-item g l = 2 ^ 64 - g.R.RowSource.given l.rows
