-- Each option of the step gets a row.
-- More than 60 lines: a loop, two ways out, what one call asks for and two lemmas of its own.
use mir.Val.{bool_byte}
use Rattle.std.proofs.Common.{◌+◌, ◌<◌, ◌≤◌, Bool, length, ap, arith, rules, length-append}
use Rattle.plan.proofs.LimitLemmas.{few_options, limited}
use Rattle.sql_model.specs.Beginning.{adds_steps}
use Rattle.sql_model.proofs.PlanParts.{first_rows_of_step-more, first_rows_of_step-all}
use Rattle.sql_writes.proofs.OptionLemmas.{adds_steps-append, next_option, next_option_fits, one_row}
use Rattle.sql_writes.proofs.Doing.{numbered, open_and, open_as, open_fail}
use Rattle.sql_writes.proofs.Permitting.{codes_short}
use Rattle.sql_writes.proofs.begins.write_options.Goals as goal

-- a flag is a small number
flag_small : (b : Bool) → bool_byte b < 9223372036854775808
flag_small b = search (rules, arith)

flag_low : (b : Bool) → bool_byte b ≤ 1
flag_low b = search (rules, arith)

-- all numbers of an option are small
pub insert_step-requires : goal.insert_step-requires
insert_step-requires g c = search (rules, arith, flag_small, limited, few_options)

-- one more row is written
pub loop-option-preserved : goal.loop-option-preserved
loop-option-preserved g c =
    let plan = c.args.plan.now in
    let more = first_rows_of_step-more c.args.numbers.journeys plan (c.args.before + 1) c.loop-option.option (omega arith) in
    record {
      bound = c.loop-option.invariant.bound;
      did = open_as (open_and c.loop-option.invariant.did (numbered c.in_ok-insert_step.ensures.writes (λ _ _. tt)).if_open)
          (λ _ t _ _. search (rules, adds_steps-append, ← more)) (search (rules, arith, ap length more, length-append, one_row));
    }

-- a row that fails does so for a reason
pub returns-in_err-insert_step : goal.returns-in_err-insert_step
returns-in_err-insert_step g c = record {
  did = open_fail (open_and c.loop-option.invariant.did (numbered c.in_err-insert_step.ensures.writes (λ _ _. tt)).if_open)
      (λ t permits. search (rules, arith, next_option, flag_low, codes_short))
      (search (rules, arith, next_option_fits, one_row)) (search rules);
}

-- all rows of the step are written
pub returns : goal.returns
returns g c =
    let all = first_rows_of_step-all c.args.numbers.journeys c.args.plan.now (c.args.before + 1) c.loop-option.option (omega arith) in
    let size = ap length all in
    record {
      did = open_as c.loop-option.invariant.did (λ _ t _ _. (tt, ap (λ rows. adds_steps rows t) all)) (omega (arith, size));
    }
