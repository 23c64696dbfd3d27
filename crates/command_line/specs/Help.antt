-- The help of each subcommand and of the program: its texts, which help_texts has, and the commands of clap that show them.
use Rattle.std.specs.Prelude.{◌≡◌, ◌==◌, ◌++◌, true, List, [], ◌∷◌, map, codes, Option, Some, option_map, IsSomeAnd}
use Rattle.std.specs.List.{before_first}
use Rattle.std.specs.Borrow.{Bor}
use Rattle.clap.specs.Built.{SameCore}
use Rattle.clap.specs.Simple.{on_top}
use Rattle.clap.specs.Words.{App, Text, app_of, new_app, with_rule}
use Rattle.clap.specs.declared.builder.Command.{Command}
use Rattle.clap.specs.declared.builder.command.Command.TheViews.{out-Command}
use Rattle.command_line.specs.Subcommands.{app_for, explain_flag, name_of, with_subcommands}
use Rattle.command_line.specs.Version.{version_text}
use Rattle.command_line.specs.declared.subcommands.Subcommand.{Subcommand}
use Rattle.command_line.specs.declared.subcommands.Subcommand.TheVariants.{Run, Serve, Recover, Load, Stock, Summary, Holders, Unfinished, Journeys, History, Why, Migrate, Index}
use Rattle.help_texts.specs.declared.cells.TheConstants.{HOLDERS, HOLDERS_NOTES, STOCK, STOCK_NOTES, SUMMARY, SUMMARY_NOTES}
use Rattle.help_texts.specs.declared.journeys.TheConstants.{HISTORY, HISTORY_NOTES, JOURNEYS, JOURNEYS_NOTES, UNFINISHED, UNFINISHED_NOTES, WHY, WHY_NOTES}
use Rattle.help_texts.specs.declared.program.TheConstants.{PROGRAM}
use Rattle.help_texts.specs.declared.writers.TheConstants.{INDEX, INDEX_NOTES, LOAD, LOAD_NOTES, MIGRATE, MIGRATE_NOTES, RECOVER, RECOVER_NOTES, RUN, RUN_NOTES, SERVE, SERVE_NOTES}

-- the help of a subcommand: what it reads and prints, and the notes after that
abbrev pub help_of : Subcommand → Text × Text
help_of Run = (RUN.now, RUN_NOTES.now)
help_of Serve = (SERVE.now, SERVE_NOTES.now)
help_of Recover = (RECOVER.now, RECOVER_NOTES.now)
help_of Load = (LOAD.now, LOAD_NOTES.now)
help_of Stock = (STOCK.now, STOCK_NOTES.now)
help_of Summary = (SUMMARY.now, SUMMARY_NOTES.now)
help_of Holders = (HOLDERS.now, HOLDERS_NOTES.now)
help_of Unfinished = (UNFINISHED.now, UNFINISHED_NOTES.now)
help_of Journeys = (JOURNEYS.now, JOURNEYS_NOTES.now)
help_of History = (HISTORY.now, HISTORY_NOTES.now)
help_of Why = (WHY.now, WHY_NOTES.now)
help_of Migrate = (MIGRATE.now, MIGRATE_NOTES.now)
help_of Index = (INDEX.now, INDEX_NOTES.now)

-- what it says of the file: a desk that is opened for commands is created if absent
abbrev pub file_help : Subcommand → Text
file_help Run = codes "The database file, created if absent"
file_help Serve = codes "The database file, created if absent"
file_help Recover = codes "The database file, created if absent"
file_help Load = codes "The database file, created if absent"
file_help _ = codes "The database file, which must exist"

-- the first line of a text, without its line feed
abbrev pub first_line : Text → Text
first_line text = before_first (λ byte. byte == 10) text

-- a text that clap shows is this one
abbrev pub Shows : Option (Bor Text) → Text → Type 0
Shows shown text = option_map (λ t. t.now) shown ≡ Some text

-- the command has the help of a subcommand: the first line in short, the whole with the notes after it in long; its usage
-- begins with `desk` and the name
pub record HasHelp (s : Subcommand) (command : Command) : Type 0 where
  pub about : Shows (out-Command command).about (first_line (help_of s).0)
  pub long_about : Shows (out-Command command).long_about (help_of s).0
  pub notes : Shows (out-Command command).after_long_help (help_of s).1
  pub called : IsSomeAnd (out-Command command).bin_name (λ name. name.bytes.items ≡ codes "desk " ++ name_of s)

-- a command reads words as another one does
pub record ReadsAs (old new : Command) : Type 0 where
  pub app : app_of new ≡ app_of old
  pub core : SameCore old new

-- all subcommands, in the order of the usage
abbrev pub all_subcommands : List Subcommand
all_subcommands =
    Run ∷ Serve ∷ Recover ∷ Load ∷ Stock ∷ Summary ∷ Holders ∷ Unfinished ∷ Journeys ∷ History ∷ Why ∷ Migrate ∷ Index ∷ []

-- the program without its words: a subcommand is required, and its help is shown where there is no word
abbrev pub bare_program : App
bare_program =
    on_top (λ s. record s { no_binary_name = true; subcommand_required = true; arg_required_else_help = true }) (new_app (codes "desk"))

-- how clap reads the words of the program: the one that asks for an explanation, and then a subcommand
abbrev pub program_app : App
program_app =
    on_top (λ s. record s { has_version = true }) (with_subcommands (with_rule bare_program explain_flag) (map app_for all_subcommands))

-- the command has the help of the program
pub record HasProgramHelp (command : Command) : Type 0 where
  pub about : Shows (out-Command command).about (codes "A booking desk for travel agencies")
  pub version : Shows (out-Command command).version version_text
  pub notes : Shows (out-Command command).after_long_help PROGRAM.now
