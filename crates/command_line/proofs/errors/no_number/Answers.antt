-- What is allowed is the number's text.
use Rattle.std.proofs.Common.{◌∙◌, subst}
use Rattle.clap.specs.Words.{Text}
use Rattle.command_line.specs.Errors.{value_error, with_name}
use Rattle.command_line.specs.Explaining.{ShowsText}
use Rattle.command_line.proofs.errors.no_number.Goals as goal

pub returns-in-Ok : goal.returns-in-Ok
returns-in-Ok c = record {
  text = subst
      (λ (allowed : Text). ShowsText (value_error c.args.word.now (with_name c.args.option.now c.args.name.now) allowed) c.no_value_of.result)
      (c.as_str.ensures.value ∙ c.in-Ok.ensures.ok) c.no_value_of.ensures.text;
}
