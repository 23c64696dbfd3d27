-- Each law is used as it stands.
use Rattle.std.proofs.Common.{true, [], ◌++◌, refl, arith}
use Rattle.saga_core.specs.ChainExamples.{begun, stepped, crashed_within_the_step}
use Rattle.saga_core.specs.Chains.{GoesOnTo}
use Rattle.saga_core.specs.Worlds.{continued, KeepLimits, Progress}
use Rattle.saga_core.proofs.laws.session_that_crashes.Goals as goal

-- the asks keep the limits
in_limits : KeepLimits begun
in_limits = (refl, (refl, tt))

-- the step is in progress
abbrev within : Progress stepped
within = record {
  answered = [];
  under_way = stepped;
  later = [];
  in_order = refl;
  at_most_one = omega arith;
  limits = (refl, tt);
}

pub returns : goal.returns
returns c =
    let law = c.chains.ensures in
    let goes : GoesOnTo (continued [] begun []) stepped crashed_within_the_step =
    law.crashes (continued [] begun []) stepped within true in
    let all = law.adds [] begun stepped crashed_within_the_step in_limits goes in
    record {
      all = law.all [] begun in_limits;
      whole = law.whole [] begun refl;
      reopened = law.reopens crashed_within_the_step
          (law.world [] (begun ++ stepped) crashed_within_the_step tt refl all);
      begins = law.begins [] (begun ++ stepped) stepped crashed_within_the_step all;
    }
