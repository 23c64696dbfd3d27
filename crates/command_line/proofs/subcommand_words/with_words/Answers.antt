-- One more value, and those behind it, are those that were left; and none is left at the end.
use Rattle.std.proofs.Common.{◌≡◌, ◌+◌, suc, [], map, drop, arith, subst, sym}
use Rattle.std.proofs.Math.Seq.{drop-cons}
use Rattle.std.proofs.lemmas.List.{drop_all}
use Rattle.command_line.specs.Subcommands.{rule_said, AddsRules}
use Rattle.command_line.proofs.SubcommandLemmas.{none_more, one_more}
use Rattle.command_line.proofs.subcommand_words.with_words.Goals as goal

pub loop-word-preserved : goal.loop-word-preserved
loop-word-preserved c = λ done left.
    let words = c.args.words.now in
    let i = c.loop-word.word-index in
    let now = c.in_ok-command.command in
    let next : i + 1 ≡ suc i = omega arith in
    c.loop-word.invariant done
    (subst (λ ws. AddsRules c.loop-word.command (map rule_said ws) done) (sym (drop-cons words i _ (omega (arith, c.loop-word-test.true))))
    (one_more c.loop-word.command now done c.arg.result _ (map rule_said (drop (suc i) words)) c.in_ok-command.ensures
    c.arg.ensures.word (subst (λ n. AddsRules now (map rule_said (drop n words)) done) next left)))

pub returns : goal.returns
returns c =
    let words = c.args.words.now in
    let done = c.loop-word.command in
    let none : drop c.loop-word.word-index words ≡ [] = drop_all c.loop-word.word-index words c.loop-word-test.false in
    record {
      asks = c.loop-word.invariant done (subst (λ ws. AddsRules done (map rule_said ws) done) (sym none) (none_more done));
    }
