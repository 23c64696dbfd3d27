-- First the journey's row, then its steps, then the numbers of meta.
use Rattle.std.proofs.Common.{arith, rules}
use Rattle.sql_writes.proofs.Doing.{did_and, did_as, did_fail, keyed}
use Rattle.sql_writes.proofs.Permitting.{added_there}
use Rattle.sql_writes.proofs.begins.write_begin.Goals as goal

pub returns-in_err-insert_journey : goal.returns-in_err-insert_journey
returns-in_err-insert_journey g c = search (rules, arith, did_fail, keyed)

pub returns-in_err-write_steps : goal.returns-in_err-write_steps
returns-in_err-write_steps g c = record {
  did = did_fail (did_and (keyed c.in_ok-insert_journey.ensures.writes) c.in_err-write_steps.ensures.did)
      (λ t permits. (permits.journey.below, record { journey = added_there _ t; options = permits.options })) (omega arith) (search rules);
}

pub returns-in_err-update_meta : goal.returns-in_err-update_meta
returns-in_err-update_meta g c = record {
  did = did_fail (did_and (did_and (keyed c.in_ok-insert_journey.ensures.writes) c.in_ok-write_steps.ensures.did)
      (keyed c.in_err-update_meta.ensures.writes).if_open)
      (λ t permits. ((permits.journey.below, tt), tt)) (omega arith) (search rules);
}

pub returns : goal.returns
returns g c = record {
  did = did_as (did_and (did_and (keyed c.in_ok-insert_journey.ensures.writes) c.in_ok-write_steps.ensures.did)
      (keyed c.in_ok-update_meta.ensures.writes).if_open) (λ _ t _ below. search rules) (omega arith);
}
