-- The flag of p is raised, and p joins the set that was there.
use Rattle.std.proofs.Common.{◌∙◌, ◌==◌, ◌||◌, ap}
use Rattle.plan.specs.Marks.{is_taken_in}
use Rattle.plan.proofs.FlagsLemmas.{is_taken_in-set}
use Rattle.plan.proofs.marks.Marks.add.Goals as goal

pub returns : goal.returns
returns c = record {
  added =
      λ q.
      is_taken_in-set c.self.inside.taken c.args.p q c.self.invariant
      c.requires.from_one c.requires.in_range
      ∙ ap (λ marks. (q == c.args.p) || is_taken_in marks q) c.self.view_is;
}
