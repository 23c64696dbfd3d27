-- A command to which the values of a subcommand were added reads them, and each parse has them all.
use Rattle.std.proofs.Common.{◌≡◌, ◌∙◌, ◌<◌, ◌≤◌, ◌⊎◌, ℕ, Bor, Some, zero, suc, Bool, true, false, not, List, [], ◌∷◌, map, length, codes, sym, ap, ap₂, refl, inl, inr, arith, subst, ◌||◌, ◌&&◌, bytes_eq, if◌then◌else◌}
use Rattle.std.proofs.lemmas.Bool.{or_parts, and_parts, not-true}
use Rattle.std.specs.List.{All, list_all, list_any, slice_index_or}
use Rattle.clap.specs.Words.{Rule, Text, AddsArg, AddsInTurn, app_of, args_of, groups_of, rule_of}
use Rattle.clap.specs.Built.{BuildsTo, FitsChain, HasDistinctIds, IsAuto, IsPlainArg, KeepsGroups, SameCore, SameRules}
use Rattle.clap.proofs.CallerLemmas.{required_in_chain}
use Rattle.clap.proofs.OnLiterals.{clap_on_literals}
use Rattle.clap.specs.declared.builder.Arg.{Arg}
use Rattle.clap.specs.declared.builder.Command.{Command}
use Rattle.command_line.specs.Help.{ReadsAs}
use Rattle.command_line.specs.Subcommands.{has_any, has_globals, ids_in, name_of, named_by, needed_in, rules_for, with_rules, AddsRules, IsBare, IsWord, IsWordOf, ReadsWords, Requires}
use Rattle.command_line.specs.declared.subcommands.Subcommand.{Subcommand}
use Rattle.command_line.specs.declared.subcommands.Subcommand.TheVariants.{Run, Serve, Recover, Load, Stock, Summary, Holders, Unfinished, Journeys, History, Why, Migrate, Index}

-- the arguments after the first one are such too
rest_values : (x : Arg) (xs : List Arg) → All IsWord (x ∷ xs) → All IsWord xs
rest_values x xs all = λ k d lt. all (suc k) d (omega arith)

-- how clap reads the words when each value was added
app_of-chain : (start cmd : Command) (xs : List Arg) → AddsInTurn AddsArg start xs cmd → All IsWord xs
    → app_of cmd ≡ with_rules (app_of start) (map rule_of xs)
app_of-chain start cmd [] chain values = ap app_of (sym chain)
app_of-chain start cmd (x ∷ xs) chain values =
    app_of-chain chain.0 cmd xs chain.2 (rest_values x xs values)
    ∙ ap (λ app. with_rules app (map rule_of xs)) (chain.1.shape (values 0 x (omega arith)).global)

-- the same, by the rules alone
pub app_of-rules : (start cmd : Command) (rules : List Rule) → AddsRules start rules cmd → app_of cmd ≡ with_rules (app_of start) rules
app_of-rules start cmd rules added = app_of-chain start cmd added.0 added.1 added.2 ∙ ap (λ rs. with_rules (app_of start) rs) added.3

-- none of the values is one that subcommands have too
no_globals : (start cmd : Command) (xs : List Arg) → AddsInTurn AddsArg start xs cmd → All IsWord xs
    → has_globals start ≡ false → has_globals cmd ≡ false
no_globals start cmd [] chain values none = ap has_globals (sym chain) ∙ none
no_globals start cmd (x ∷ xs) chain values none =
    no_globals chain.0 cmd xs chain.2 (rest_values x xs values)
    (chain.1.globals ∙ ap₂ (λ a b. a || b) none (values 0 x (omega arith)).global)

-- what a build makes of a command, it makes of one with the same arguments and settings
builds_same : (old new built : Command) → SameCore old new → BuildsTo new built → BuildsTo old built
builds_same old new built same builds = record {
  globals = builds.globals ∙ same.2;
  negates = builds.negates ∙ same.3;
  kept = subst (λ xs. (k : ℕ) (d : Arg) → k < length xs
      → (k < length (args_of built)) × SameRules (slice_index_or xs k d) (slice_index_or (args_of built) k d)) same.0 builds.kept;
  plain = λ plain. builds.plain (subst (All IsPlainArg) (sym same.0) plain.0, same.1 ∙ plain.1);
  needs_subcommand = builds.needs_subcommand ∙ same.4;
  extra = subst (λ xs. (k : ℕ) (d : Arg) → length xs ≤ k → k < length (args_of built)
      → IsAuto (slice_index_or (args_of built) k d)) same.0 builds.extra;
  groups = subst (λ gs. KeepsGroups gs (groups_of built)) same.1 builds.groups;
  same_groups = λ none.
      let kept = builds.same_groups (subst (All (λ a. a.groups.items ≡ [])) (sym same.0) none) in
      (kept.0, kept.1 ∙ same.1);
}

-- so it reads the words that that one reads
pub reads_same : (s : Subcommand) (old new : Command) → ReadsAs old new → ReadsWords s old → ReadsWords s new
reads_same s old new same reads = record {
  app = same.app ∙ reads.app;
  each = λ k id lt m parsed.
      reads.each k id lt m (record { built = parsed.built; from = builds_same old new parsed.built same.core parsed.from; parsed = parsed.parsed });
  globals = same.core.2 ∙ reads.globals;
}

-- the two names are the same
abbrev is_same : Text → Text → Bool
is_same id other = bytes_eq other id || bytes_eq id other

-- no two of the names are the same
abbrev pub differ : List Text → Bool
differ [] = true
differ (id ∷ more) = not (list_any (is_same id) more) && differ more

-- the name is not empty, and is not that of an argument which clap adds
abbrev pub is_own : Text → Bool
is_own id = has_any id && not (bytes_eq id (codes "help") || bytes_eq id (codes "version"))

-- the names fit the values of one subcommand
abbrev pub fit_together : List Text → Bool
fit_together ids = list_all is_own ids && differ ids

-- a test that fails on each name fails on each value
none_passes : (p : Text → Bool) (xs : List Arg) (k : ℕ) (d : Arg) → list_any p (ids_in (map rule_of xs)) ≡ false
    → k < length xs → p (slice_index_or xs k d).id.now ≡ false
none_passes p [] k d none lt = absurd (omega arith)
none_passes p (x ∷ xs) zero d none lt = (or_parts (p x.id.now) (list_any p (ids_in (map rule_of xs))) none).0
none_passes p (x ∷ xs) (suc k) d none lt =
    none_passes p xs k d (or_parts (p x.id.now) (list_any p (ids_in (map rule_of xs))) none).1 (omega arith)

-- a test that passes on each name passes on each value
each_passes : (p : Text → Bool) (xs : List Arg) (k : ℕ) (d : Arg) → list_all p (ids_in (map rule_of xs)) ≡ true
    → k < length xs → p (slice_index_or xs k d).id.now ≡ true
each_passes p [] k d all lt = absurd (omega arith)
each_passes p (x ∷ xs) zero d all lt = (and_parts (p x.id.now) (list_all p (ids_in (map rule_of xs))) all).0
each_passes p (x ∷ xs) (suc k) d all lt =
    each_passes p xs k d (and_parts (p x.id.now) (list_all p (ids_in (map rule_of xs))) all).1 (omega arith)

-- a value differs by its name from the later ones, which differ from each other
apart_from_later : (x : Arg) (xs : List Arg) → list_any (is_same x.id.now) (ids_in (map rule_of xs)) ≡ false
    → HasDistinctIds xs → HasDistinctIds (x ∷ xs)
apart_from_later x xs none later = λ j k d e in_j in_k same. at j k d e in_j in_k same
  where
    apart : (k : ℕ) (d : Arg) → k < length xs
        → (bytes_eq (slice_index_or xs k d).id.now x.id.now ≡ false) × (bytes_eq x.id.now (slice_index_or xs k d).id.now ≡ false)
    apart k d lt = or_parts (bytes_eq (slice_index_or xs k d).id.now x.id.now) (bytes_eq x.id.now (slice_index_or xs k d).id.now)
        (none_passes (is_same x.id.now) xs k d none lt)

    at : (j k : ℕ) (d e : Arg) → j < length (x ∷ xs) → k < length (x ∷ xs)
        → bytes_eq (slice_index_or (x ∷ xs) j e).id.now (slice_index_or (x ∷ xs) k d).id.now ≡ true → j ≡ k
    at zero zero d e in_j in_k same = refl
    at zero (suc k) d e in_j in_k same = let other = (apart k d (omega arith)).1 in cc
    at (suc j) zero d e in_j in_k same = let other = (apart j e (omega arith)).0 in cc
    at (suc j) (suc k) d e in_j in_k same = ap suc (later j k d e (omega arith) (omega arith) same)

-- values with distinct names have distinct ids
differ_by_id : (xs : List Arg) → differ (ids_in (map rule_of xs)) ≡ true → HasDistinctIds xs
differ_by_id [] all = λ j k d e in_j in_k same. absurd (omega arith)
differ_by_id (x ∷ xs) all =
    let parts = and_parts (not (list_any (is_same x.id.now) (ids_in (map rule_of xs)))) (differ (ids_in (map rule_of xs))) all in
    apart_from_later x xs (not-true (list_any (is_same x.id.now) (ids_in (map rule_of xs))) parts.0) (differ_by_id xs parts.1)

-- such a name is not empty, and clap adds no argument of that name
own_fits : (id : Text) → is_own id ≡ true
    → (id ≡ [] → ⊥) × ((id ≡ codes "help") ⊎ (id ≡ codes "version") → ⊥)
own_fits id own = (
  λ empty. (let bad : is_own [] ≡ true = subst (λ t. is_own t ≡ true) empty own in cc),
  λ auto. elim auto [
    | inl h ↦ let bad : is_own (codes "help") ≡ true = subst (λ t. is_own t ≡ true) h own in cc
    | inr h ↦ let bad : is_own (codes "version") ≡ true = subst (λ t. is_own t ≡ true) h own in cc
  ],
)

-- such values can be added one after another
fits_chain : (xs : List Arg) → All IsWord xs → list_all is_own (ids_in (map rule_of xs)) ≡ true → All FitsChain xs
fits_chain xs values own = λ k d lt.
    let here = values k d lt in
    let named = own_fits (slice_index_or xs k d).id.now (each_passes is_own xs k d own lt) in
    (here.plain, here.global, named.0, named.1)

-- what each required argument has, the names of the required ones have
needed_have : (P : Text → Type 0) (xs : List Arg)
    → ((k : ℕ) (d : Arg) → k < length xs → (slice_index_or xs k d).required ≡ true → P (slice_index_or xs k d).id.now)
    → All P (needed_in (map rule_of xs))
needed_have P [] each = λ k id lt. absurd (omega arith)
needed_have P (x ∷ xs) each = from x.required refl (needed_have P xs (λ k d lt. each (suc k) d (omega arith)))
  where
    with_first : P x.id.now → All P (needed_in (map rule_of xs)) → (k : ℕ) (id : Text)
        → k < length (x.id.now ∷ needed_in (map rule_of xs))
        → P (slice_index_or (x.id.now ∷ needed_in (map rule_of xs)) k id)
    with_first here later zero id lt = here
    with_first here later (suc k) id lt = later k id (omega arith)

    from : (b : Bool) → x.required ≡ b → All P (needed_in (map rule_of xs))
        → All P (if b then x.id.now ∷ needed_in (map rule_of xs) else needed_in (map rule_of xs))
    from true is later = with_first (each 0 x (omega arith) is) later
    from false is later = later

-- each parse by a command with such values has those that are required
all_required : (name : Text) (start cmd : Command) (xs : List Arg) → AddsInTurn AddsArg start xs cmd → IsBare name start
    → All IsWord xs → fit_together (ids_in (map rule_of xs)) ≡ true → All (Requires cmd) (needed_in (map rule_of xs))
all_required name start cmd xs chain bare values good =
    let ids = ids_in (map rule_of xs) in
    let tests = and_parts (list_all is_own ids) (differ ids) good in
    needed_have (Requires cmd) xs (λ k d lt is m parsed.
    let word = values k d lt in
    let here = word.needed is in
    required_in_chain start cmd xs k d m chain bare.args bare.groups bare.globals bare.negates
    (fits_chain xs values tests.0) (differ_by_id xs tests.1) lt (is, here.action, here.whole, here.least) parsed)

-- the names of the values of each subcommand fit together
ids_fit : (s : Subcommand) → fit_together (ids_in (rules_for s)) ≡ true
unfolding clap_on_literals
ids_fit Run = refl
ids_fit Serve = refl
ids_fit Recover = refl
ids_fit Load = refl
ids_fit Stock = refl
ids_fit Summary = refl
ids_fit Holders = refl
ids_fit Unfinished = refl
ids_fit Journeys = refl
ids_fit History = refl
ids_fit Why = refl
ids_fit Migrate = refl
ids_fit Index = refl

-- a command to which the values of a subcommand were added reads its words
pub with_values : (s : Subcommand) (start cmd : Command) → IsBare (name_of s) start → AddsRules start (rules_for s) cmd → ReadsWords s cmd
with_values s start cmd bare added =
    let xs = added.0 in
    let fit = subst (λ rs. fit_together (ids_in rs) ≡ true) (sym added.3) (ids_fit s) in record {
      app = app_of-rules start cmd (rules_for s) added ∙ ap (λ app. with_rules app (rules_for s)) bare.app;
      each = subst (λ rs. All (Requires cmd) (needed_in rs)) added.3 (all_required (name_of s) start cmd xs added.1 bare added.2 fit);
      globals = no_globals start cmd xs added.1 added.2 bare.globals;
    }

-- one more argument, before the others
and_word : (x : Arg) (xs : List Arg) → IsWord x → All IsWord xs → All IsWord (x ∷ xs)
and_word x xs here rest = λ k d lt. at k d lt
  where
    at : (k : ℕ) (d : Arg) → k < length (x ∷ xs) → IsWord (slice_index_or (x ∷ xs) k d)
    at zero d lt = here
    at (suc k) d lt = rest k d (omega arith)

-- no value
no_value : All IsWord []
no_value = λ k d lt. absurd (omega arith)

-- one more argument, before those that were added by their rules
pub one_more : (start over cmd : Command) (x : Arg) (rule : Rule) (rules : List Rule) → AddsArg start x over
    → IsWordOf rule x → AddsRules over rules cmd → AddsRules start (rule ∷ rules) cmd
one_more start over cmd x rule rules added is later = (
  x ∷ later.0,
  (over, added, later.1),
  and_word x later.0 is.word later.2,
  ap (λ r. r ∷ map rule_of later.0) is.read ∙ ap (λ rs. rule ∷ rs) later.3,
)

-- none was added
pub none_more : (start : Command) → AddsRules start [] start
none_more start = ([], refl, no_value, refl)

-- what follows an option is as it was, but for the option
pub long_word : (a b : Arg) (name : Bor Text) (rule : Rule) → b ≡ record a { long = Some name } → IsWordOf rule a
    → IsWordOf (named_by name.now rule) b
long_word a b name rule e is = record {
  read = ap rule_of e ∙ ap (named_by name.now) is.read;
  word = subst IsWord (sym e) (record {
    plain = is.word.plain;
    global = is.word.global;
    needed = λ required. let value = is.word.needed required in record { action = value.action; whole = value.whole; least = value.least };
  });
}
