use Rattle.std.proofs.Common.{◌≡◌, drop, map}
use Rattle.clap.specs.Words.{app_of}
use Rattle.command_line.specs.Subcommands.{app_for, with_subcommands}
use Rattle.command_line.proofs.subcommands.with_subcommands.Given as goal

-- with those that are left, the command has all of them
abbrev pub invariant-loop-subcommand : goal.invariant-loop-subcommand
invariant-loop-subcommand l = with_subcommands (app_of l.command) (map app_for (drop l.subcommand-index l.subcommands))
    ≡ with_subcommands (app_of l.initial.command) (map app_for l.subcommands)
