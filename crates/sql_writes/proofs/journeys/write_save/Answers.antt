-- First the save-point's row, then the item.
use Rattle.std.proofs.Common.{arith, rules}
use Rattle.sql_writes.proofs.Doing.{did_and, did_fail, did_like, numbered}
use Rattle.sql_writes.proofs.journeys.write_save.Goals as goal

pub returns-in_err-insert_mark : goal.returns-in_err-insert_mark
returns-in_err-insert_mark g c = search (rules, arith, did_fail, numbered)

pub returns : goal.returns
returns g c = record {
  did = did_like (did_and (numbered c.in_ok-insert_mark.ensures.writes (λ _ _. tt)) c.write_item.ensures.did.if_open)
      (search rules) (search rules) (omega arith);
}
