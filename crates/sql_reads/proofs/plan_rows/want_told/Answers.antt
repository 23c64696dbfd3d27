-- The row of a want that keeps its limits gives that want.
use Rattle.std.proofs.Common.{◌≡◌, sym, rules, Ok, true, subst, string_bytes}
use Rattle.allotment.specs.Limits.{is_night}
use Rattle.allotment.proofs.LawLemmas.{number_read}
use Rattle.sql_reads.specs.PlanRows.{TellsWant}
use Rattle.sql_reads.proofs.GoodPlans.{want_good, kept_is, not_both}
use Rattle.sql_reads.proofs.plan_rows.want_told.Goals as goal
use Rattle.sql_reads.proofs.plan_rows.want_told.Goals.{in_default-new-via-in-Ok-new+else-is_of_want, in_default-new-via-in_default-new}

pub returns-clause-there : goal.returns-clause-there
returns-clause-there c want good tells =
    let made = want_good c.args.row.now want c.in-Some.kind c.in-Some-from_day.night (string_bytes c.in-Ok.first) good tells
    (number_read c.args.row.now.kind c.in-Some.kind (search rules)) (kept_is is_night _ _ (search rules)) c.in-Ok.ensures in
    let is : c.new.result ≡ Ok want = search (rules, made) in
    absurd (elim c.in_default-new.branch [
      | in_default-new-via-in-Ok-new+else-is_of_want w ↦
          let same : w.in-Ok-new.want ≡ want = cc in
          let yes : w.is_of_want.result ≡ true = w.is_of_want.ensures.1 (subst (TellsWant c.args.row.now) (sym same) tells) in not_both w.is_of_want.result yes w.if-is_of_want.false
      | in_default-new-via-in_default-new w ↦ w.in_default-new.not-Ok want is
    ])
