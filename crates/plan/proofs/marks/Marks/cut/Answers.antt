-- The flags above pos are taken down, and the set has what it had up to pos.
use Rattle.std.proofs.Common.{◌≡◌, ◌-◌, ◌+◌, min, false, replicate, arith, rules}
use Rattle.plan.proofs.FlagsLemmas.{is_taken_in-cut, AreFlags-cut}
use Rattle.plan.proofs.marks.Marks.cut.Goals as goal

pub invariant_of-self : goal.invariant_of-self
invariant_of-self c =
    let at : c.min-above.result ≡ min (c.args.pos + 1) 24 = omega (arith, c.saturating_add.ensures, c.min-above.ensures) in
    let down : c.fill.new.self ≡ replicate (24 - c.min-above.result) false = search rules in
    rw down (AreFlags-cut c.self.inside.taken c.args.pos c.min-above.result _ c.self.invariant at (omega arith))

pub returns : goal.returns
returns c =
    let at : c.min-above.result ≡ min (c.args.pos + 1) 24 = omega (arith, c.saturating_add.ensures, c.min-above.ensures) in
    let down : c.fill.new.self ≡ replicate (24 - c.min-above.result) false = search rules in
    rw (← c.self.view_is, down) (record {
      kept = λ q. is_taken_in-cut c.self.inside.taken c.args.pos c.min-above.result _ q c.self.invariant at (omega arith);
    })
