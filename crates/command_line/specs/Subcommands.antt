-- The subcommands: the word that names each, and how clap reads the words after it.
use Rattle.std.specs.Prelude.{◌≡◌, ◌≤◌, Bool, true, false, List, [], ◌∷◌, map, All, codes, bytes_eq, if◌then◌else◌, Option, Some, None, is_some}
use Rattle.clap.specs.Words.{App, Rule, Text, app_of, args_of, groups_of, first_value, found_of, fault_of, new_app, new_rule, with_rule, with_subcommand, rule_of, AddsArg, AddsInTurn, IsParsedFrom, IsPlainArg}
use Rattle.clap.specs.Facts.{least_values}
use Rattle.clap.specs.Simple.{on_top}
use Rattle.clap.specs.declared.builder.ArgAction.TheVariants.{Set, SetTrue}
use Rattle.clap.specs.declared.builder.Arg.{Arg}
use Rattle.clap.specs.declared.builder.Command.{Command}
use Rattle.clap.specs.declared.builder.command.Command.TheViews.{out-Command}
use Rattle.clap.specs.declared.parser.ArgMatches.{ArgMatches}
use Rattle.command_line.specs.declared.subcommand_words.Word.{Word}
use Rattle.command_line.specs.declared.subcommand_words.Word.TheVariants.{Needed, Extra, NeededAfter, After, Flag}
use Rattle.command_line.specs.declared.subcommands.Subcommand.{Subcommand}
use Rattle.command_line.specs.declared.subcommands.Subcommand.TheVariants.{Run, Serve, Recover, Load, Stock, Summary, Holders, Unfinished, Journeys, History, Why, Migrate, Index}

-- the word that names a subcommand
abbrev pub name_of : Subcommand → Text
name_of Run = codes "run"
name_of Serve = codes "serve"
name_of Recover = codes "recover"
name_of Load = codes "load"
name_of Stock = codes "stock"
name_of Summary = codes "summary"
name_of Holders = codes "holders"
name_of Unfinished = codes "unfinished"
name_of Journeys = codes "journeys"
name_of History = codes "history"
name_of Why = codes "why"
name_of Migrate = codes "migrate"
name_of Index = codes "index"

-- the subcommand prints a report
abbrev pub is_report : Subcommand → Bool
is_report Run = false
is_report Serve = false
is_report Recover = false
is_report Load = false
is_report Migrate = false
is_report Index = false
is_report _ = true

-- the subcommand that a word names
abbrev pub subcommand_in : Text → Option Subcommand
subcommand_in word =
    if bytes_eq word (codes "run") then Some Run
    else if bytes_eq word (codes "serve") then Some Serve
    else if bytes_eq word (codes "recover") then Some Recover
    else if bytes_eq word (codes "load") then Some Load
    else if bytes_eq word (codes "stock") then Some Stock
    else if bytes_eq word (codes "summary") then Some Summary
    else if bytes_eq word (codes "holders") then Some Holders
    else if bytes_eq word (codes "unfinished") then Some Unfinished
    else if bytes_eq word (codes "journeys") then Some Journeys
    else if bytes_eq word (codes "history") then Some History
    else if bytes_eq word (codes "why") then Some Why
    else if bytes_eq word (codes "migrate") then Some Migrate
    else if bytes_eq word (codes "index") then Some Index
    else None

-- the subcommand that `help` asks about, where these are all the words
abbrev pub helped_in : List Text → Option Subcommand
helped_in (help ∷ name ∷ []) = if bytes_eq help (codes "help") then subcommand_in name else None
helped_in words = None

-- a required value
abbrev pub needed : Text → Rule
needed id = record (new_rule id) { action = Some Set; required = true }

-- a value that may be left out
abbrev pub optional : Text → Rule
optional id = record (new_rule id) { action = Some Set }

-- a flag, which is given or not
abbrev pub flagged : Text → Rule
flagged id = record (new_rule id) { action = Some SetTrue }

-- a value follows an option of this name
abbrev pub named_by : Text → Rule → Rule
named_by name rule = record rule { long = Some name }

-- the word that asks for an explanation of faults, before the subcommand
abbrev pub explain_flag : Rule
explain_flag = named_by (codes "explain") (flagged (codes "explain"))

-- the path of the socket of a desk that serves follows `--at`, and the format of a report `--format`
abbrev pub at_path : Rule
at_path = named_by (codes "at") (optional (codes "PATH"))

abbrev pub report_format : Rule
report_format = named_by (codes "format") (optional (codes "FORMAT"))

-- how clap reads a value
abbrev pub rule_said : Word → Rule
rule_said (Needed id help) = needed id.now
rule_said (Extra id help) = optional id.now
rule_said (NeededAfter id name help) = named_by name.now (needed id.now)
rule_said (After id name help) = named_by name.now (optional id.now)
rule_said (Flag id name help) = named_by name.now (flagged id.now)

-- the cells that are asked for: their kind, supplier, product, and their first and last night
abbrev pub cell_rules : List Rule
cell_rules =
    named_by (codes "kind") (optional (codes "KIND")) ∷ named_by (codes "supplier") (optional (codes "SUPPLIER"))
    ∷ named_by (codes "product") (optional (codes "PRODUCT")) ∷ named_by (codes "from") (optional (codes "FROM"))
    ∷ named_by (codes "to") (optional (codes "TO")) ∷ report_format ∷ at_path ∷ []

-- the journeys that are asked for: their agent and state
abbrev pub journey_rules : List Rule
journey_rules =
    named_by (codes "agent") (optional (codes "AGENT")) ∷ named_by (codes "state") (optional (codes "STATE"))
    ∷ report_format ∷ at_path ∷ []

-- one required value, a format and a socket
abbrev pub one_rules : Text → List Rule
one_rules id = needed id ∷ report_format ∷ at_path ∷ []

-- the values that a subcommand reads, in their order
abbrev pub rules_for : Subcommand → List Rule
rules_for Run = needed (codes "FILE") ∷ []
rules_for Serve =
    needed (codes "FILE") ∷ named_by (codes "port") (needed (codes "PORT"))
    ∷ named_by (codes "connections") (optional (codes "N")) ∷ named_by (codes "house") (optional (codes "PATH"))
    ∷ named_by (codes "page") (flagged (codes "PAGE")) ∷ named_by (codes "log") (flagged (codes "LOG"))
    ∷ named_by (codes "wide") (flagged (codes "WIDE")) ∷ []
rules_for Recover = needed (codes "FILE") ∷ []
rules_for Load = needed (codes "FILE") ∷ needed (codes "CSV") ∷ named_by (codes "batch") (needed (codes "NAME")) ∷ []
rules_for Stock = needed (codes "FILE") ∷ named_by (codes "calendar") (flagged (codes "CALENDAR")) ∷ cell_rules
rules_for Summary = needed (codes "FILE") ∷ cell_rules
rules_for Holders = needed (codes "FILE") ∷ optional (codes "CELL") ∷ cell_rules
rules_for Unfinished = needed (codes "FILE") ∷ journey_rules
rules_for Journeys = needed (codes "FILE") ∷ journey_rules
rules_for History = needed (codes "FILE") ∷ one_rules (codes "ID")
rules_for Why = needed (codes "FILE") ∷ one_rules (codes "ID")
rules_for Migrate = needed (codes "FILE") ∷ []
rules_for Index = needed (codes "FILE") ∷ []

-- the names of these values
abbrev pub ids_in : List Rule → List Text
ids_in = map (λ r. r.id)

-- the names of those that are required
abbrev pub needed_in : List Rule → List Text
needed_in [] = []
needed_in (rule ∷ more) = if rule.required then rule.id ∷ needed_in more else needed_in more

-- the names of the values that a subcommand requires
abbrev pub needed_for : Subcommand → List Text
needed_for s = needed_in (rules_for s)

-- a subcommand without values, whose words start after its name
abbrev pub bare_app : Text → App
bare_app name = on_top (λ s. record s { no_binary_name = true }) (new_app name)

-- the same, with these values
abbrev pub with_rules : App → List Rule → App
with_rules app [] = app
with_rules app (rule ∷ more) = with_rules (with_rule app rule) more

-- a subcommand with the values that it reads
abbrev pub app_for : Subcommand → App
app_for s = with_rules (bare_app (name_of s)) (rules_for s)

-- the same, with these subcommands
abbrev pub with_subcommands : App → List App → App
with_subcommands app [] = app
with_subcommands app (sub ∷ more) = with_subcommands (with_subcommand app sub.top) more

-- the list is not empty
abbrev pub has_any : {X : Type 0} → List X → Bool
has_any [] = false
has_any (x ∷ more) = true

-- clap refuses the words, or shows its help
abbrev pub is_refused_by : App → List Text → Bool
is_refused_by app words = has_any (fault_of app words)

-- a command has an argument that its subcommands have too
abbrev pub has_globals : Command → Bool
has_globals command = (out-Command command).has_globals

-- a subcommand of a command takes the place of its required arguments
abbrev pub negates_needs : Command → Bool
negates_needs command = (out-Command command).subcommand_negates_reqs

-- an argument is one value
pub record IsValue (arg : Arg) : Type 0 where
  pub action : arg.action ≡ Some Set
  pub whole : arg.val_delim ≡ None
  pub least : 1 ≤ least_values arg

-- an argument is a value, or one that nothing requires, whatever the other arguments are
pub record IsWord (arg : Arg) : Type 0 where
  pub plain : IsPlainArg arg
  pub global : arg.global ≡ false
  pub needed : arg.required ≡ true → IsValue arg

-- the same, which clap reads by this rule
pub record IsWordOf (rule : Rule) (arg : Arg) : Type 0 where
  pub read : rule_of arg ≡ rule
  pub word : IsWord arg

-- arguments of these rules were added to a command, one after another
abbrev pub AddsRules : Command → List Rule → Command → Type 0
AddsRules start rules command =
    (xs : List Arg) × AddsInTurn AddsArg start xs command × All IsWord xs × (map rule_of xs ≡ rules)

-- each parse by the command has a value of this name
abbrev pub Requires : Command → Text → Type 0
Requires command id =
    (m : ArgMatches) → IsParsedFrom command m → is_some (first_value (found_of m) id) ≡ true

-- a command of a subcommand of this name, to which nothing was added yet
pub record IsBare (name : Text) (command : Command) : Type 0 where
  pub app : app_of command ≡ bare_app name
  pub args : args_of command ≡ []
  pub groups : groups_of command ≡ []
  pub globals : has_globals command ≡ false
  pub negates : negates_needs command ≡ false

-- the command reads the words after a subcommand, by its rules, and each parse has the values that are required
pub record ReadsWords (s : Subcommand) (command : Command) : Type 0 where
  pub app : app_of command ≡ app_for s
  pub each : All (Requires command) (needed_for s)
  pub globals : has_globals command ≡ false
