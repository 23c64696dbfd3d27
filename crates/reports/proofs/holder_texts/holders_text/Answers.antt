-- The report is written in its parts: its head, its rows and its ending.
use Rattle.std.proofs.Common.{◌++◌, ap₂, length, List, ℕ}
use Rattle.std.specs.List.{flat_map}
use Rattle.reports.specs.HolderLayouts.{holder_row}
use Rattle.reports.proofs.TakeLemmas.{writes_same}
use Rattle.reports.proofs.holder_texts.holders_text.Goals as goal

pub returns : goal.returns
returns g c = record {
  writes = writes_same c.send_report.ensures.writes (λ all.
      ap₂ (λ (head ending : List ℕ). head ++ flat_map (holder_row c.args.format) all ++ ending) c.holders_head.ensures.head (c.of_list-ending.ensures.ending (length all)));
}
