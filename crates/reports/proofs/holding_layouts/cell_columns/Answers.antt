-- The format writes the columns.
use Rattle.std.proofs.Common.{append_assoc, string_bytes, arith}
use Rattle.reports.proofs.FillLemmas.{code_left, kind_left}
use Rattle.reports.proofs.holding_layouts.cell_columns.Goals as goal

pub returns : goal.returns
returns c = grind (arith, string_bytes, kind_left, code_left, append_assoc)
