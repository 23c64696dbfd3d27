use Rattle.std.proofs.Common.{◌≡◌, ◌<◌, ◌∙◌, sym, ap, refl, take, length, arith, rules}
use Rattle.sqlite_rules.proofs.ListLemmas.{all_more}
use Rattle.sql_writes.specs.Loads.{puts_each}
use Rattle.sql_writes.specs.Runs.{HasShortTexts}
use Rattle.sql_writes.proofs.Doing.{open_and, open_as, open_fail, open_none}
use Rattle.sql_writes.proofs.RunLemmas.{apart_put, put_each-append, short_each, take-more, take-whole}
use Rattle.sql_writes.proofs.loads.put_all.Goals as goal

pub loop-cell-init : goal.loop-cell-init
loop-cell-init g c = record { short = tt; did = open_none (λ t _. refl) }

-- one more cell got its places
pub loop-cell-preserved : goal.loop-cell-preserved
loop-cell-preserved g c =
    let cells = c.args.cells.now in
    let n = c.loop-cell.cell-index in
    let within : n < length cells = omega (arith, c.loop-cell-test.true) in
    let more = take-more cells n _ within c.loop-cell-item.is in
    record {
      short = all_more HasShortTexts cells n _ within c.loop-cell-item.is c.loop-cell.invariant.short c.put_places.ensures.short;
      did = open_as (open_and c.loop-cell.invariant.did c.in_ok-put_places.ensures.did.if_open)
          (λ _ t _ apart. (
            (apart, apart_put (take n cells) t apart),
            ap (λ rows. record t { stock = rows }) (sym (put_each-append (take n cells) _ t.stock))
                ∙ ap (λ xs. puts_each xs t) (sym more),
          ))
          (omega arith);
    }

-- a cell whose places are not written has a reason
pub returns-in_err-put_places : goal.returns-in_err-put_places
returns-in_err-put_places g c =
    let cells = c.args.cells.now in
    let n = c.loop-cell.cell-index in
    let within : n < length cells = omega (arith, c.loop-cell-test.true) in
    record {
      did = open_fail (open_and c.loop-cell.invariant.did c.in_err-put_places.ensures.did.if_open)
          (λ t may. (may.apart, short_each (take n cells) t c.loop-cell.invariant.short may.cells)) (omega (arith, within)) (search rules);
    }

-- all cells got their places
pub returns : goal.returns
returns g c =
    let cells = c.args.cells.now in
    let n = c.loop-cell.cell-index in
    let all : n ≡ length cells = omega (arith, c.loop-cell.auto.cell-index-end, c.loop-cell-test.false) in
    record {
      did = open_as c.loop-cell.invariant.did (λ _ t _ fit. (fit, ap (λ xs. puts_each xs t) (take-whole n cells all))) (omega (arith, all));
    }
