-- The values that a subcommand reads from the words are those of clap's rules.
-- More than 60 lines: two ways out and four lemmas of its own.
use Rattle.std.proofs.Common.{◌≡◌, ◌∙◌, true, sym, ap, [], ◌∷◌, map, refl, inl, inr, ◌≢◌}
use Rattle.std.proofs.Math.Path.{fun_ext}
use Rattle.std.proofs.lemmas.Bool.{and_parts}
use Rattle.std.specs.String.{string_bytes}
use Rattle.clap.specs.Words.{HasKind, Kinds, IsAmong, app_of, fault_of, first_of, found_of, matches_of, is_simple, is_simple_and_free, kind_of}
use Rattle.clap.proofs.OnLiterals.{clap_on_literals}
use Rattle.clap.proofs.WalkLemmas.{first_value-rows}
use Rattle.clap.specs.declared.error.Error.{Error}
use Rattle.clap.specs.declared.error.kind.ErrorKind.{ErrorKind}
use Rattle.clap.specs.declared.error.kind.ErrorKind.TheVariants.{OutOfMemory}
use Rattle.command_line.specs.Subcommands.{app_for, has_any}
use Rattle.command_line.specs.declared.subcommands.Subcommand.{Subcommand}
use Rattle.command_line.specs.declared.subcommands.Subcommand.TheVariants.{Run, Serve, Recover, Load, Stock, Summary, Holders, Unfinished, Journeys, History, Why, Migrate, Index}
use Rattle.command_line.proofs.words.matches_in.Goals as goal

is_free : (s : Subcommand) → is_simple_and_free (app_for s) ≡ true
unfolding clap_on_literals
is_free Run = refl
is_free Serve = refl
is_free Recover = refl
is_free Load = refl
is_free Stock = refl
is_free Summary = refl
is_free Holders = refl
is_free Unfinished = refl
is_free Journeys = refl
is_free History = refl
is_free Why = refl
is_free Migrate = refl
is_free Index = refl

is_exact : (s : Subcommand) → is_simple (app_for s) ≡ true
is_exact s = (and_parts (is_simple (app_for s)) _ (is_free s)).0

-- a list that has a kind is not empty
kinds_there : (kind : ErrorKind) (kinds : Kinds) → IsAmong kind kinds → has_any kinds ≡ true
kinds_there kind [] none = absurd none
kinds_there kind (k ∷ more) among = refl

-- unless it is out of memory, an error of clap has one of the kinds
kinds_of_error : (e : Error) (kinds : Kinds) → HasKind kinds e → kind_of e ≢ OutOfMemory → has_any kinds ≡ true
kinds_of_error e kinds (inl memory) other = absurd (other memory)
kinds_of_error e kinds (inr among) other = kinds_there (kind_of e) kinds among

-- the values are those of the command that was built, and where clap returns matches, it refuses nothing
pub returns-in-Ok-clause-reads : goal.returns-in-Ok-clause-reads
returns-in-Ok-clause-reads c =
    let is_app = c.in_ok-command.ensures.reads.app in
    let words = map string_bytes c.args.words.now in
    let rows = (c.in-Ok.ensures.matches (ap is_simple is_app ∙ is_exact c.args.subcommand)).0 ∙ ap (λ app. matches_of app words) is_app in (
      fun_ext (λ id. first_value-rows (found_of c.in-Ok.matches) id ∙ ap (first_of id) rows),
      ap (λ kinds. has_any kinds) (ap (λ app. fault_of app words) (sym is_app)
          ∙ c.in-Ok.ensures.kinds (ap is_simple_and_free is_app ∙ is_free c.args.subcommand)),
    )

-- an error other than out of memory is a refusal
pub returns-in-Err-clause-reads : goal.returns-in-Err-clause-reads
returns-in-Err-clause-reads c = λ text.
    let is_app = c.in_ok-command.ensures.reads.app in
    let words = map string_bytes c.args.words.now in
    let failed = c.in-Err.ensures.kinds (ap is_simple_and_free is_app ∙ is_free c.args.subcommand) in
    ap (λ app. has_any (fault_of app words)) (sym is_app) ∙ kinds_of_error c.in-Err.error (fault_of (app_of c.in_ok-command.command) words) failed (c.fault_after.ensures.usage text)
