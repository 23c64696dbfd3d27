use Rattle.std.proofs.Common.{drop, map}
use Rattle.clap.specs.declared.builder.Command.{Command}
use Rattle.command_line.specs.Subcommands.{rule_said, AddsRules}
use Rattle.command_line.proofs.subcommand_words.with_words.Given as goal

-- a command to which the values that are left are added has all of them
abbrev pub invariant-loop-word : goal.invariant-loop-word
invariant-loop-word l = (done : Command) → AddsRules l.command (map rule_said (drop l.word-index l.words)) done
    → AddsRules l.initial.command (map rule_said l.words) done
