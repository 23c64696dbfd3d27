-- The nights of the range are those of the product, up to the last one.
use Rattle.std.proofs.Common.{◌≡◌, subst, arith, rules, IfOk}
use Rattle.desk_sql.specs.declared.stock.NightRange.{NightRange}
use Rattle.sql_writes.proofs.Doing.{did_like, numbered}
use Rattle.sql_writes.proofs.Permitting.{codes_short}
use Rattle.sql_writes.proofs.RunWrites.{short_nights, same_nights, same_count}
use Rattle.sql_writes.proofs.runs.set_places.Goals as goal

pub returns-clause-did : goal.returns-clause-did
returns-clause-did g c =
    let first = c.args.first.now in
    let range : NightRange = record { kind = c.from.result; supplier = c.as_str.result; product = c.as_str-2.result; first = c.from-2.result; last = c.from-3.result } in
    let allot : c.from-4.result ≡ first.1.allot = search rules in
    let free : c.from-5.result ≡ first.1.free = search rules in
    did_like (numbered c.set_nights.ensures.writes (λ _ it. it))
    (λ t _. (
      tt,
      same_nights range first c.args.last c.from-4.result c.from-5.result t (search rules) (search rules) (search rules) (search rules) (search rules) allot free,
    ))
    (λ t cells. record { free_is = omega (arith, first.1.within, allot, free); short = short_nights range t cells }) (omega arith)

-- the rows are counted
pub returns-clause-known : goal.returns-clause-known
returns-clause-known g c clean t may =
    let first = c.args.first.now in
    let range : NightRange = record { kind = c.from.result; supplier = c.as_str.result; product = c.as_str-2.result; first = c.from-2.result; last = c.from-3.result } in
    subst (λ n. IfOk c.set_nights.result (λ known. known ≡ n))
    (same_count range first c.args.last t (search rules) (search rules) (search rules) (search rules) (search rules)) (c.set_nights.ensures.count clean t may)

pub returns-clause-short : goal.returns-clause-short
returns-clause-short g c = grind (arith, codes_short)
