use Rattle.std.proofs.Common.{◌≡◌, ◌<◌, ◌∙◌, sym, ap, take, length, arith, rules, append-nil}
use Rattle.sql_writes.specs.Runs.{adds_each}
use Rattle.sql_writes.proofs.Doing.{open_and, open_as, open_fail, open_none}
use Rattle.sql_writes.proofs.RunLemmas.{take-more, take-whole, adds-more}
use Rattle.sql_writes.proofs.RunWrites.{next_new}
use Rattle.sql_writes.proofs.runs.add_all.Goals as goal

pub loop-cell-init : goal.loop-cell-init
loop-cell-init g c = open_none (λ t _. ap (λ rows. record t { stock = rows }) (sym (append-nil t.stock)))

-- one more row is added
pub loop-cell-preserved : goal.loop-cell-preserved
loop-cell-preserved g c =
    let cells = c.args.cells.now in
    let n = c.loop-cell.cell-index in
    let more = take-more cells n _ (omega (arith, c.loop-cell-test.true)) c.loop-cell-item.is in
    open_as (open_and c.loop-cell.invariant c.in_ok-add_places.ensures.did.if_open)
    (λ _ t _ _. ((tt, tt), adds-more (take n cells) _ t ∙ ap (λ xs. adds_each xs t) (sym more))) (omega arith)

-- a row that is not added has a reason
pub returns-in_err-add_places : goal.returns-in_err-add_places
returns-in_err-add_places g c =
    let cells = c.args.cells.now in
    let n = c.loop-cell.cell-index in
    let within : n < length cells = omega (arith, c.loop-cell-test.true) in
    record {
      did = open_fail (open_and c.loop-cell.invariant c.in_err-add_places.ensures.did.if_open)
          (λ t new. (tt, next_new cells n _ t within c.loop-cell-item.is new)) (omega (arith, within)) (search rules);
    }

-- all rows are added
pub returns : goal.returns
returns g c =
    let cells = c.args.cells.now in
    let n = c.loop-cell.cell-index in
    let all : n ≡ length cells = omega (arith, c.loop-cell.auto.cell-index-end, c.loop-cell-test.false) in
    record {
      did = open_as c.loop-cell.invariant (λ _ t _ _. (tt, ap (λ xs. adds_each xs t) (take-whole n cells all))) (omega (arith, all));
    }
