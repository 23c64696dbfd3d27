-- The first row of a taken option is chosen.
use Rattle.std.proofs.Common.{◌∙◌, ap, sym, option_copied}
use Rattle.sql_reads.proofs.ReadLemmas.{also_ok}
use Rattle.sql_reads.specs.OptionChoice.{IsOfRow, IsTakenChosen}
use Rattle.sql_reads.proofs.plan_rows.choose_taken.Goals as goal

pub returns-in-Some-clause-chosen : goal.returns-in-Some-clause-chosen
returns-in-Some-clause-chosen c =
    let row = c.in-Some.row.now in
    also_ok c.choice_of.result (IsOfRow row row.opt) (IsTakenChosen c.args.rows.now)
    (λ choice told. record {
      row = row;
      there = sym c.find_taken.ensures.first ∙ ap option_copied c.in-Some.is;
      is = told;
    }) c.choice_of.ensures.row
