-- The digits come over the blanks before their end.
use Rattle.std.proofs.Common.{arith, subst, decimal}
use Rattle.reports.specs.Columns.{PutsDigits}
use Rattle.reports.proofs.ColumnLemmas.{digits_over}
use Rattle.reports.proofs.columns.put_number.Goals as goal

pub returns-clause-number : goal.returns-clause-number
returns-clause-number c =
    let w = c.write_digits in
    subst (λ n. PutsDigits c.args.line.now w.new.buf c.args.end (decimal n)) c.from.ensures (λ width done is short within.
    digits_over width c.args.end w.result done (decimal c.from.result) c.args.line.now w.new.buf is w.ensures.start (omega arith) within w.ensures.written w.ensures.before)
