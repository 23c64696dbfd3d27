-- The nights of the range are those of the want.
use Rattle.std.proofs.Common.{arith}
use Rattle.sql_model.proofs.Ranges.{takes_range}
use Rattle.sql_writes.proofs.Doing.{did_like, numbered}
use Rattle.sql_writes.proofs.Permitting.{may_take}
use Rattle.sql_writes.proofs.journeys.take_want.Goals as goal

pub returns : goal.returns
returns g c =
    let w = c.args.want in
    let range = c.range_of-range.result in
    let is = c.range_of-range.ensures.range in
    record {
      did = did_like (numbered c.take_nights.ensures.writes (λ _ it. it))
          (λ t fit. rw (c.from.ensures, c.count.ensures) (fit range is, takes_range range w t is))
          (λ t it. rw (c.from.ensures, c.count.ensures) (may_take w range t is it)) (omega arith);
    }
