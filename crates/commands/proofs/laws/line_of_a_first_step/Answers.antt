-- The law is used as it stands.
use Rattle.std.proofs.Common.{◌∙◌, sym}
use Rattle.commands.specs.Examples.{first_step_done, first_step_is_accepted, first_step_has_this_line}
use Rattle.commands.proofs.laws.line_of_a_first_step.Goals as goal

pub returns : goal.returns
returns c = record {
  alone = λ other good same.
      c.replies_have_one_line.ensures.once other first_step_done good first_step_is_accepted
      (same ∙ sym first_step_has_this_line);
}
