-- The law is used as it stands.
use Rattle.std.proofs.Common.{◌∙◌, sym}
use Rattle.recovery.specs.LineExamples.{back_to_2, back_to_2_text, back_to_2_has_this_line}
use Rattle.recovery.proofs.line_laws.line_of_an_abort.Goals as goal

pub returns : goal.returns
returns c =
    let law = c.commands_have_one_line.ensures.lines in
    record {
      made = (law back_to_2_text back_to_2).1 back_to_2_has_this_line;
      alone = λ text made. ((law text back_to_2).0 made).1 ∙ sym back_to_2_has_this_line.1;
    }
