use Rattle.std.specs.Io.KnownBytes.{Keeps}
use Rattle.program_jobs.specs.Blocks.{blocks_contents}
use Rattle.program_jobs.proofs.blocks.Blocks.pass_on.Given as goal

-- what is there, and waits, is as before
abbrev pub invariant-loop : goal.invariant-loop
invariant-loop g l = Keeps (blocks_contents g.W.Write.contents l.fn.self) (blocks_contents g.W.Write.contents l.self)
