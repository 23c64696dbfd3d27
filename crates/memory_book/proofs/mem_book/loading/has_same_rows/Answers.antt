use Rattle.std.proofs.Common.{◌∙◌, rules, tests}
use Rattle.memory_book.proofs.RowLemmas.{same_rows}
use Rattle.memory_book.proofs.mem_book.loading.has_same_rows.Goals as goal

-- row by row, cell and places are compared
pub returns : goal.returns
returns c = record {
  same =
      c.eq.ensures
      ∙ same_rows _ (λ r s. search (rules, tests)) c.args.rows.now c.args.known.now;
}
