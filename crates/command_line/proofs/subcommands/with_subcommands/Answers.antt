-- One more subcommand, and those behind it, are those that were left; and none is left at the end.
use Rattle.std.proofs.Common.{◌≡◌, ◌∙◌, ◌+◌, suc, [], map, drop, get_or, arith, ap, sym}
use Rattle.std.proofs.Math.Seq.{drop-cons}
use Rattle.std.proofs.lemmas.List.{drop_all}
use Rattle.clap.specs.Words.{App, app_of, with_subcommand}
use Rattle.command_line.specs.Subcommands.{app_for, with_subcommands}
use Rattle.command_line.specs.declared.subcommands.Subcommand.TheVariants.{Run}
use Rattle.command_line.proofs.subcommands.with_subcommands.Goals as goal

pub loop-subcommand-preserved : goal.loop-subcommand-preserved
loop-subcommand-preserved c =
    let all = c.args.subcommands.now in
    let i = c.loop-subcommand.subcommand-index in
    let old = app_of c.loop-subcommand.command in
    let next : i + 1 ≡ suc i = omega arith in
    let added : app_of c.in_ok-command.command ≡ with_subcommand old (app_for (get_or all i Run)).top =
    c.in_ok-command.ensures.shape c.in_ok-one.ensures.reads.globals
    ∙ ap (λ (one : App). with_subcommand old one.top) c.in_ok-one.ensures.reads.app in
    ap (λ n. with_subcommands (app_of c.in_ok-command.command) (map app_for (drop n all))) next
    ∙ ap (λ app. with_subcommands app (map app_for (drop (suc i) all))) added
    ∙ sym (ap (λ left. with_subcommands old (map app_for left)) (drop-cons all i Run (omega (arith, c.loop-subcommand-test.true))))
    ∙ c.loop-subcommand.invariant

pub returns : goal.returns
returns c =
    let all = c.args.subcommands.now in
    let done = app_of c.loop-subcommand.command in
    let none : drop c.loop-subcommand.subcommand-index all ≡ [] = drop_all c.loop-subcommand.subcommand-index all c.loop-subcommand-test.false in
    record { app = sym (ap (λ left. with_subcommands done (map app_for left)) none) ∙ c.loop-subcommand.invariant }
