-- The rows of a step give its option.
use Rattle.std.proofs.Common.{sym, ◌≡◌, subst, rules}
use Rattle.sql_reads.specs.OptionChoice.{HasTaken, IsTakenChosen, IsLastChoice}
use Rattle.sql_reads.proofs.ChoiceLemmas.{last_told}
use Rattle.sql_reads.proofs.OptionReasons.{has_taken, option_texts}
use Rattle.sql_reads.proofs.ReadLemmas.{also_ok, found_rows, query_fails, read_so}
use Rattle.sql_reads.proofs.plan_rows.last_choice.Goals as goal

-- the option that was taken last is marked
pub returns-in-Ok-clause-read : goal.returns-in-Ok-clause-read
returns-in-Ok-clause-read g c =
    let id = c.args.id in
    let rows = c.in-Ok.rows.items in
    let same : c.as_slice.result.now ≡ rows = search rules in
    read_so c.choose_taken.result (found_rows c.in-Ok.ensures.queries)
    (λ s desk at.
    also_ok c.choose_taken.result (IsTakenChosen c.as_slice.result.now) (IsLastChoice id c.args.step s)
    (λ choice chosen. last_told at.tables s at.stands desk id c.args.step rows at.found choice
    (subst (λ xs. IsTakenChosen xs choice) same chosen))
    c.choose_taken.ensures.chosen)
    (λ s desk spelled has at.
    c.choose_taken.ensures.there (subst HasTaken (sym same) (has_taken at.tables s at.stands desk id c.args.step rows at.found has)))

pub returns-in-Err-clause-read : goal.returns-in-Err-clause-read
returns-in-Err-clause-read g c =
    query_fails c.in-Err.ensures.queries c.fault_of.ensures.memory
    (λ t s st desk spelled has. option_texts t s st desk c.args.id c.args.step has.journey has.at)
