-- The option that was read is that of the row after those so far.
use Rattle.std.proofs.Common.{ap, sym, subst, ◌∙◌, ◌++◌, ◌∷◌, [], map, take, rules}
use Rattle.std.proofs.lemmas.List.{map_more, map_push}
use Rattle.sqlite_trees.proofs.ListLemmas.{all-get_or}
use Rattle.desk_sql.specs.FoundRows.{shows_step, ten_of}
use Rattle.desk_sql.specs.Readable.{AreWantTexts, ShowsOne, step_shown}
use Rattle.desk_sql.proofs.steps.read_steps.Goals as goal

pub loop-row-preserved : goal.loop-row-preserved
loop-row-preserved c =
    let rows = c.args.rows.now in
    let i = c.loop-row.row-index in
    ap (map shows_step) c.in_ok-push.ensures.items ∙ map_push shows_step c.loop-row.steps.items c.in_ok-step.step
    ∙ ap (λ ys. ys ++ shows_step c.in_ok-step.step ∷ []) c.loop-row.invariant
    ∙ ap (λ y. map ten_of (take i rows) ++ y ∷ []) (c.in_ok-step.ensures.shown ∙ ap ten_of c.row-item.is)
    ∙ sym (map_more ten_of rows i c.row-item.result c.loop-row-test.true)

-- the row at which it failed is one that can be read
pub returns-in_err-step-clause-reason : goal.returns-in_err-step-clause-reason
returns-in_err-step-clause-reason c good =
    let one = subst (ShowsOne step_shown AreWantTexts) (sym c.row-item.is)
    (all-get_or (ShowsOne step_shown AreWantTexts) c.args.rows.now c.loop-row.row-index c.row-item.result good c.loop-row-test.true) in
    let memory = c.in_err-step.ensures.reason one.0 one.1 one.2 in
    search rules
