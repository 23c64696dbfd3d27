-- The text comes over the blanks.
use Rattle.std.proofs.Common.{arith}
use Rattle.reports.proofs.ColumnLemmas.{text_over}
use Rattle.reports.proofs.columns.put_text.Goals as goal

pub returns-clause-text : goal.returns-clause-text
returns-clause-text c = λ width done is here.
    text_over width c.args.at _ done c.args.text.now c.copy_from_slice.new.self c.args.line.now is here c.copy_from_slice.ensures.after (omega arith)
