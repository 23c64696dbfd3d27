-- What follows an option is as it was, but for the option.
use Rattle.std.proofs.Common.{subst, sym}
use Rattle.command_line.specs.Subcommands.{flagged, needed, optional, rule_said, IsWordOf}
use Rattle.command_line.proofs.SubcommandLemmas.{long_word}
use Rattle.command_line.proofs.subcommand_words.Word.arg.Goals as goal

pub returns-in-NeededAfter : goal.returns-in-NeededAfter
returns-in-NeededAfter c =
    let arg = c.value-in-NeededAfter in record {
      word = subst (λ word. IsWordOf (rule_said word) c.long.result) (sym c.in-NeededAfter.is)
          (long_word arg.result c.long.result _ (needed c.in-NeededAfter.id.now) c.long.ensures arg.ensures.word);
    }

pub returns-in-After : goal.returns-in-After
returns-in-After c =
    let arg = c.extra-in-After in record {
      word = subst (λ word. IsWordOf (rule_said word) c.long-in-After.result) (sym c.in-After.is)
          (long_word arg.result c.long-in-After.result _ (optional c.in-After.id.now) c.long-in-After.ensures arg.ensures.word);
    }

pub returns-in-Flag : goal.returns-in-Flag
returns-in-Flag c = record {
  word = subst (λ word. IsWordOf (rule_said word) c.long-in-Flag.result) (sym c.in-Flag.is)
      (long_word c.flag.result c.long-in-Flag.result _ (flagged c.in-Flag.id.now) c.long-in-Flag.ensures c.flag.ensures.word);
}
