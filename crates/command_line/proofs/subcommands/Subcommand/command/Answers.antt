-- A subcommand has its file, and the values of its rules behind it; its help changes nothing of what it reads.
use Rattle.std.proofs.Common.{map, subst}
use Rattle.std.proofs.lemmas.Result.{IfOk-weaker}
use Rattle.command_line.specs.Subcommands.{rule_said, AddsRules}
use Rattle.command_line.proofs.SubcommandLemmas.{one_more, reads_same, with_values}
use Rattle.command_line.proofs.subcommands.Subcommand.command.Goals as goal

pub returns-clause-reads : goal.returns-clause-reads
returns-clause-reads c =
    let s = c.args.self in
    let whole = c.in_ok-whole.whole in
    let added = one_more c.bare.result c.in_ok-over_file.over_file whole c.value.result _ (map rule_said c.words.result.now)
    c.in_ok-over_file.ensures c.value.ensures.word c.in_ok-whole.ensures.asks in
    let made = with_values s c.bare.result whole c.bare.ensures.bare
    (subst (λ rules. AddsRules c.bare.result rules whole) c.words.ensures.rules added) in
    IfOk-weaker c.with_help.result _ _ (λ command same. reads_same s whole command same made) c.with_help.ensures.reads
