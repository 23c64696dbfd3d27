use Rattle.std.proofs.Common.{◌≡◌, ◌+◌, ◌∙◌, ap, sym, subst, length, length-append, [], ◌∷◌, arith}
use Rattle.allotment_csv.specs.Fronts.{IsFront}
use Rattle.allotment_csv.specs.Reading.{records_left}
use Rattle.allotment_csv.proofs.FrontLemmas.{IsReadTo, read_to_more, read_to_end, read_to_stop, read_to_many}
use Rattle.allotment_csv.proofs.fronts.read_front.Goals as goal
use Rattle.allotment_csv.proofs.fronts.read_front.Goals.{then-branch, else-branch}

-- the current record is one more row
pub loop-reader-preserved : goal.loop-reader-preserved
loop-reader-preserved c =
    let inv = c.loop-reader.invariant in
    let found = rw c.if-not-branch.false at c.in_ok-next_record.ensures.next in
    let items = c.in_ok-push-in-Ok.ensures.items in
    let len = c.in_ok-push-in-Ok.ensures.len in
    let more : length c.push.new.self.items ≡ length c.loop-reader.rows.items + 1
    = ap length items ∙ length-append c.loop-reader.rows.items (c.in-Ok.row ∷ []) in (
      found.1,
      subst (IsReadTo (records_left c.args.reader.now) (records_left c.next_record.new.reader)) (sym items)
          (read_to_more (records_left c.args.reader.now) _ _ c.loop-reader.rows.items _ c.in-Ok.row inv.1 found.0
          c.in-Ok.ensures.0 c.in-Ok.ensures.1),
      more ∙ ap (λ n. n + 1) inv.2 ∙ sym len,
      omega (arith, len, c.loop-reader-test.true, c.len.ensures),
    )

-- the current record is no row
pub returns-in-Err-clause-front : goal.returns-in-Err-clause-front
returns-in-Err-clause-front c =
    let inv = c.loop-reader.invariant in
    let found = rw c.if-not-branch.false at c.in_ok-next_record.ensures.next in
    read_to_stop (records_left c.args.reader.now) _ _ c.loop-reader.rows.items _ c.in-Err.cause inv.1 found.0
    c.in-Err.ensures (omega (arith, inv.2, c.loop-reader-test.true, c.len.ensures))

-- there are as many rows as there may be, and then another record or none
pub returns-clause-front : goal.returns-clause-front
returns-clause-front c =
    let inv = c.loop-reader.invariant in
    let all = records_left c.args.reader.now in
    let rows = c.loop-reader.rows.items in
    elim c.if-branch.branch [
      | then-branch w ↦
          let found = rw w.if-branch.true at c.in_ok-next_record-2.ensures.next in
          subst (IsFront all rows) (sym w.wrong-is)
          (read_to_many all _ _ rows _ inv.1 found.0
          (omega (arith, inv.2, inv.3, c.loop-reader-test.false, c.len.ensures)))
      | else-branch w ↦
          let none = rw w.if-branch.false at c.in_ok-next_record-2.ensures.next in
          subst (IsFront all rows) (sym w.wrong-is)
          (read_to_end all _ rows inv.1 none (omega (arith, inv.2, inv.3)))
    ]
