-- The settings and the help stand around the word that asks for an explanation and the subcommands.
use Rattle.std.proofs.Common.{◌≡◌, ◌∙◌, [], ◌∷◌, map, true, ap}
use Rattle.clap.specs.Simple.{app_of_fields, on_top}
use Rattle.clap.specs.Words.{app_of, with_rule}
use Rattle.command_line.specs.Help.{all_subcommands, bare_program}
use Rattle.command_line.specs.Subcommands.{app_for, explain_flag, with_subcommands}
use Rattle.command_line.proofs.SubcommandLemmas.{app_of-rules}
use Rattle.command_line.proofs.help.program_command.Goals as goal

pub returns-clause-app : goal.returns-clause-app
returns-clause-app c =
    let bare : app_of c.arg_required_else_help-bare.result ≡ bare_program =
    ap app_of_fields c.arg_required_else_help-bare.ensures
    ∙ ap (on_top (λ s. record s { arg_required_else_help = true })) (ap app_of_fields c.subcommand_required.ensures
    ∙ ap (on_top (λ s. record s { subcommand_required = true })) (ap app_of_fields c.no_binary_name.ensures
    ∙ ap (on_top (λ s. record s { no_binary_name = true })) c.new.ensures.app)) in
    let explains : app_of c.in_ok-explains.explains ≡ with_rule bare_program explain_flag =
    app_of-rules c.arg_required_else_help-bare.result c.in_ok-explains.explains (explain_flag ∷ []) c.in_ok-explains.ensures.asks
    ∙ ap (λ app. with_rule app explain_flag) bare in
    ap app_of_fields c.after_long_help.ensures
    ∙ ap app_of_fields c.version.ensures
    ∙ ap (on_top (λ s. record s { has_version = true })) (ap app_of_fields c.about.ensures
    ∙ c.in_ok-whole.ensures.app
    ∙ ap (λ app. with_subcommands app (map app_for all_subcommands)) explains)
