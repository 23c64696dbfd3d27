-- The flag that is read says whether p is in the set, and no flag outside 1 to the last mark stands.
use Rattle.std.proofs.Common.{◌≡◌, ◌∙◌, ap, sym, subst, rules}
use Rattle.plan.specs.Marks.{is_taken_in, AreInRange}
use Rattle.plan.specs.Flags.{is_flagged, is_taken_in-flagged}
use Rattle.plan.proofs.FlagsLemmas.{AreInRange-flagged}
use Rattle.plan.proofs.marks.Marks.has.Goals as goal

pub returns-clause-taken : goal.returns-clause-taken
returns-clause-taken c =
    let read : c.unwrap_or.result ≡ is_flagged c.self.inside.taken c.args.p = search rules in
    read
    ∙ sym (is_taken_in-flagged c.self.inside.taken c.args.p c.self.invariant)
    ∙ ap (λ marks. is_taken_in marks c.args.p) c.self.view_is

pub returns-clause-in_range : goal.returns-clause-in_range
returns-clause-in_range c =
    subst AreInRange c.self.view_is (AreInRange-flagged c.self.inside.taken c.self.invariant)
