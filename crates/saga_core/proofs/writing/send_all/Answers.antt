-- What was written stays a prefix of the bytes.
use Rattle.std.proofs.Common.{subst, take}
use Rattle.std.specs.Io.KnownBytes.{Appends}
use Rattle.saga_core.proofs.ByteLemmas.{appends_more, front_grows, front_within, rest_from}
use Rattle.saga_core.proofs.writing.send_all.Goals as goal

pub loop-at-preserved : goal.loop-at-preserved
loop-at-preserved g c =
    let contents = g.W.Write.contents in
    let at = c.loop-at.at in
    let bytes = c.args.bytes.now in
    let count = c.in_ok-count.count in
    record {
      within = front_within bytes at count c.loop-at.invariant.within c.in_ok-count.ensures.bound;
      sent = subst (Appends (contents c.args.writer.now) (contents c.write_some.new.writer)) (front_grows bytes at count)
          (appends_more (contents c.args.writer.now) (contents c.loop-at.writer) (contents c.write_some.new.writer) (take at bytes)
          (take count (rest_from at bytes)) c.loop-at.invariant.sent c.in_ok-count.ensures.sent);
    }
