-- The row with that number is chosen.
use Rattle.std.proofs.Common.{◌≡◌, ◌+◌, min, length, refl, sym, subst, rules, IfOk, ltb-true}
use Rattle.std.proofs.lemmas.Option.{slice_get_read}
use Rattle.sql_reads.proofs.ReadLemmas.{also_ok}
use Rattle.sql_reads.specs.OptionChoice.{IsOfRow, IsRowChosen}
use Rattle.sql_reads.proofs.plan_rows.choose_next.Goals as goal

pub returns-in-Some-clause-chosen : goal.returns-in-Some-clause-chosen
returns-in-Some-clause-chosen c =
    let rows = c.args.rows.now in
    let option = c.min-option.result in
    let is : option ≡ min (c.args.used + 1) (length rows) = search rules in
    subst (λ n. IfOk c.choice_of.result (IsRowChosen rows n)) is
    (also_ok c.choice_of.result (IsOfRow c.in-Some.row.now option) (IsRowChosen rows option)
    (λ choice told. record {
      row = c.in-Some.row.now;
      from_one = search rules;
      there = slice_get_read rows (length rows) _ c.in-Some.row.now refl (ltb-true _ _ (sym c.in-Some.ensures.lookup.0)) c.in-Some.ensures.lookup.1;
      is = told;
    }) c.choice_of.ensures.row)
