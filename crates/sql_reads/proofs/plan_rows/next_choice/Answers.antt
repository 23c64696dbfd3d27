-- The rows of a step give its option.
use Rattle.std.proofs.Common.{sym, ◌≡◌, ◌+◌, min, length, subst, rules}
use Rattle.sql_reads.specs.OptionChoice.{AreOfStep, IsRowChosen, IsNextChoice}
use Rattle.sql_reads.proofs.ChoiceLemmas.{next_told}
use Rattle.sql_reads.proofs.OptionReasons.{of_step, option_texts}
use Rattle.sql_reads.proofs.ReadLemmas.{also_ok, found_rows, query_fails, read_so}
use Rattle.sql_reads.proofs.plan_rows.next_choice.Goals as goal

-- each row tells a want, and a step has from 1 option
pub returns-in-Ok-clause-read : goal.returns-in-Ok-clause-read
returns-in-Ok-clause-read g c =
    let id = c.args.id in
    let rows = c.in-Ok.rows.items in
    let same : c.as_slice.result.now ≡ rows = search rules in
    read_so c.choose_next.result (found_rows c.in-Ok.ensures.queries)
    (λ s desk at.
    also_ok c.choose_next.result (IsRowChosen c.as_slice.result.now (min (c.args.used + 1) (length c.as_slice.result.now))) (IsNextChoice id c.args.step c.args.used s)
    (λ choice chosen. next_told at.tables s at.stands desk id c.args.step rows at.found choice
    c.args.used (subst (λ xs. IsRowChosen xs (min (c.args.used + 1) (length xs)) choice) same chosen))
    c.choose_next.ensures.chosen)
    (λ s desk spelled has at.
    c.choose_next.ensures.there (subst AreOfStep (sym same) (of_step at.tables s at.stands desk id c.args.step rows at.found has)))

pub returns-in-Err-clause-read : goal.returns-in-Err-clause-read
returns-in-Err-clause-read g c =
    query_fails c.in-Err.ensures.queries c.fault_of.ensures.memory
    (λ t s st desk spelled has. option_texts t s st desk c.args.id c.args.step has.journey has.at)
