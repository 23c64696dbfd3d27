-- What the call asks for was done; or memory ran out for the words of a load, and nothing was.
use Rattle.std.proofs.Common.{ap, inl, inr, refl}
use Rattle.program_ends.specs.declared.ended.Ended.{Ended}
use Rattle.cli.proofs.CallLemmas.{nothing_ends}
use Rattle.cli.proofs.programs.carry_out.Goals as goal

pub returns-in-Ok-clause-did : goal.returns-in-Ok-clause-did
returns-in-Ok-clause-did g c =
    inr (record { asked = c.in-Ok.action; is = c.in-Ok.ensures.action; did = c.do_here.ensures.did })

pub returns-in-Ok-clause-ends : goal.returns-in-Ok-clause-ends
returns-in-Ok-clause-ends g c = c.do_here.ensures.ends c.args.call.job c.args.call.socket c.in-Ok.ensures.action

pub returns-clause-did : goal.returns-clause-did
returns-clause-did g c =
    inl (record {
      load = c.in-Err.ensures.memory;
      end = ap (λ (e : Ended). e.end) c.from.ensures;
      untouched = record { only = record { unread = refl; unnoted = refl }; unwritten = refl };
    })

pub returns-clause-ends : goal.returns-clause-ends
returns-clause-ends g c =
    nothing_ends _ _ c.args.call.job c.in-Err.ensures.memory (ap (λ (e : Ended). e.end) c.from.ensures)
    (record { only = record { unread = refl; unnoted = refl }; unwritten = refl })
