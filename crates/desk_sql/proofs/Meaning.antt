-- Each text has under the desk's schemas the meaning that Meanings gives it. For the lemmas of each statement.
use Rattle.std.proofs.Common.{◌≡◌, ℕ, List, false}
use Rattle.sqlite.specs.Command.{Command}
use Rattle.sqlite.specs.Command.TheVariants.{Insert}
use Rattle.sqlite.specs.Source.TheVariants.{Values}
use Rattle.sqlite.specs.Term.{Term}
use Rattle.sqlite.specs.Query.{Query}
use Rattle.sqlite.specs.Listing.{understood, reads_listing}
use Rattle.sqlite.proofs.Callers.{IsPlain, command_of}
use Rattle.desk_sql.specs.declared.versions.Version.{Version}
use Rattle.sqlite_schema.specs.declared.schema.Index.{Index}
use Rattle.sqlite_schema.specs.declared.schema.Schema.{Schema}
use Rattle.desk_sql.specs.Schema.{desk_with, schema_with}
use Rattle.desk_sql.specs.Queries.{IsSelect}
use Rattle.desk_sql.specs.Meanings

-- under this schema the text is this command, has no RETURNING and does not read the time
pub record MeansUnder (schema : Schema) (text : List ℕ) (command : Command) : Type 0 where
  pub is : command_of (understood schema text) ≡ command
  pub plain : IsPlain (understood schema text)

-- the same on the desk's tables, whatever indexes they have beside those of their keys
abbrev pub Means : List ℕ → Command → Type 0
Means text command = (extra : List Index) → MeansUnder (desk_with extra) text command

-- under this schema the text is this query on its tables, and a SELECT under any schema
pub record SelectsUnder (schema : Schema) (text : List ℕ) (query : Query) (names : List (List ℕ)) : Type 0 where
  pub is : command_of (understood schema text) ≡ Meanings.select query names
  pub plain : IsPlain (understood schema text)
  pub unlisted : reads_listing schema text ≡ false
  pub selects : IsSelect text

-- the same on the desk's tables of this version, whatever indexes they have beside those of their keys
abbrev pub MeansIn : Version → List ℕ → Query → List (List ℕ) → Type 0
MeansIn v text query names = (extra : List Index) → SelectsUnder (schema_with v extra) text query names

-- the same, for each version
abbrev pub MeansEach : List ℕ → Query → List (List ℕ) → Type 0
MeansEach text query names = (v : Version) → MeansIn v text query names

abbrev pub insert : ℕ → List Term → ℕ → Command
insert at terms width = Insert at (Values terms width)
