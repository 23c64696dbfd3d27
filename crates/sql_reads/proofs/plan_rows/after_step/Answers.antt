-- Each row is that of the next option.
use Rattle.std.proofs.Common.{◌≡◌, ◌+◌, ◌<◌, ◌++◌, drop, sym, arith, rules, ltb-true, ltb-false}
use Rattle.plan.specs.PlanModel.{option_count}
use Rattle.sql_model.specs.Beginning.{rows_of_step}
use Rattle.sql_reads.proofs.ReadPlans.{option_more, step_whole}
use Rattle.sql_reads.proofs.GoodPlans.{step_left, next_left, more_left, heads, tails}
use Rattle.sql_reads.proofs.plan_rows.after_step.Goals as goal

pub loop-option-preserved : goal.loop-option-preserved
loop-option-preserved c = search (rules, arith, ltb-true, option_more, step_left, tails, next_left)

pub returns-in_err-row-clause-there : goal.returns-in_err-row-clause-there
returns-in_err-row-clause-there c id begins =
    let n = c.loop-option.option in
    let low : n < option_count c.args.plan.now c.args.step = search rules in
    let left = step_left id c.args.rows.now (c.args.from + n) c.args.plan.now c.args.step n begins.0 low (c.loop-option.invariant.left id begins.0 begins.1) in
    let inside = more_left id c.args.rows.now (c.args.from + n) left.0 (drop (n + 1) (rows_of_step id c.args.plan.now c.args.step) ++ begins.0) left.2 in
    absurd (omega (arith, ltb-false _ _ (sym c.in_err-row.ensures.lookup.0), inside))

pub returns-then-not-is_option-clause-there : goal.returns-then-not-is_option-clause-there
returns-then-not-is_option-clause-there c id begins = search (rules, arith, ltb-true, step_left, heads, next_left)

pub returns-clause-told : goal.returns-clause-told
returns-clause-told c =
    let n = c.loop-option.option in
    let all : n ≡ c.options-options.result = search rules in
    let count : n ≡ option_count c.args.plan.now c.args.step = search rules in
    rw (← all) (step_whole c.args.rows.now c.args.from n c.args.plan.now c.args.step count c.loop-option.invariant.within c.loop-option.invariant.told)
