-- The ending is that of the format, for this count.
use Rattle.std.proofs.Common.{subst}
use Rattle.reports.specs.Writing.{Sends}
use Rattle.reports.proofs.parts.end_stock.Goals as goal

pub returns : goal.returns
returns g c =
    let sends =
    subst (λ text. Sends (g.W.Write.contents c.args.out.now) (g.W.Write.contents c.send.new.out) text c.send.result) (c.of_list.ensures.ending c.args.count)
    c.send.ensures.sends in
    record { sent = sends.sent; front = sends.front; no_store = sends.no_store }
