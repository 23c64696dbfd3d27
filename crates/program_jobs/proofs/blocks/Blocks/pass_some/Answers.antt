-- What the writer took is no longer unsent.
use Rattle.std.proofs.Common.{◌≤◌, length, subst, take}
use Rattle.std.specs.Io.KnownBytes.{Appends}
use Rattle.saga_core.proofs.ByteLemmas.{rest_from}
use Rattle.program_jobs.proofs.BlockLemmas.{passes}
use Rattle.program_jobs.proofs.blocks.Blocks.pass_some.Goals as goal

pub returns-in-Ok : goal.returns-in-Ok
returns-in-Ok g c =
    let s = c.args.self.now in
    let count = c.in-Ok.count in
    let before = g.W.Write.contents s.writer.now in
    let after = g.W.Write.contents c.write.new.self in
    record {
      kept = passes s.writer.ghost_name s.passed count s.at s.bytes.now.items before after
          (subst (λ l. count ≤ length (rest_from s.at l)) c.as_slice.ensures.value c.in-Ok.ensures.bound)
          (subst (λ l. Appends before after (take count (rest_from s.at l))) c.as_slice.ensures.value c.in-Ok.ensures.bytes);
    }
