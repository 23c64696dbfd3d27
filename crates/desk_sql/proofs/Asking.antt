-- What a query on one table finds whenever it is run, and what its contract says of one run. For each statement that reads.
use Rattle.std.proofs.Common.{◌≡◌, ◌≤◌, ◌⊎◌, inl, inr, ℕ, ℤ, List, [], ◌∷◌, map, filter, Bool, Option, Some, None, Result, Err, IfOk, IfErr, refl, sym, ap, subst, ◌∙◌, arith, option_map}
use Rattle.std.specs.List.{AllByRecursion}
use Rattle.sqlite.specs.declared.error.Error.{Error}
use Rattle.sqlite.specs.declared.error.Error.TheVariants.{QueryReturnedNoRows}
use Rattle.sqlite.specs.Order.{Row}
use Rattle.sqlite.specs.Term.{Term}
use Rattle.sqlite_value.specs.declared.keys.Key.{Key}
use Rattle.sqlite.specs.Query.{Query, Output, IsAnswer, output, output_cmp}
use Rattle.sqlite.specs.Program.{overlay}
use Rattle.sqlite.specs.Store.{Ghosts}
use Rattle.sqlite.specs.Held.{Held, state}
use Rattle.sqlite.specs.State.{State, HasCleanDisk, IsUnchanged, QueriesRow, Shown, FailsToQuery}
use Rattle.sqlite_trees.specs.Tree.{Trees}
use Rattle.sqlite_rules.specs.Lists.{Has}
use Rattle.desk_sql.specs.declared.versions.Version.{Version}
use Rattle.desk_sql.specs.Lists.{numbered_row, IsTableOf, IsNumbered, IsListed, IsOneOf, IsLeastOf}
use Rattle.desk_sql.specs.Rows.{Tables, ShowsIn}
use Rattle.desk_sql.specs.Calls.{MaySeeIn, Quiet}
use Rattle.desk_sql.specs.FoundRows.{IfRow, ReadsOne}
use Rattle.desk_sql.specs.Causes.{IsUp, IsMemory, HasReason}
use Rattle.desk_sql.specs.Queries.{IsSelect, one_row, GivesRow, GivesRows}
use Rattle.desk_sql.specs.Statements.{QueriesIn}
use Rattle.desk_sql.specs.Meanings.{sorted_rows}
use Rattle.desk_sql.proofs.Answering.{Answers, numbered_answers, table_answers, all_shown, first_of, none_of, listed}
use Rattle.desk_sql.proofs.Ascending.{IsUpTo, output_total}
use Rattle.desk_sql.proofs.Causing.{Takes, one_table, query_reason}
use Rattle.desk_sql.proofs.Finding.{first_row, no_row, whole_answer}
use Rattle.desk_sql.proofs.Meaning.{MeansIn}
use Rattle.desk_sql.proofs.Reading.{passes, env_of}
use Rattle.desk_sql.proofs.Selecting.{ok_then, err_then}

-- the text is this query, and takes these values
pub record SaysQuery (v : Version) (text : List ℕ) (q : Query) (names : List (List ℕ)) (params : Row) : Type 0 where
  pub means : MeansIn v text q names
  pub takes : Takes v text q params

-- each answer of the query is the values that pass, in its order, and it fails for a reason
pub record Asks {X : Type 0} (v : Version) (text : List ℕ) (params : Row) (q : Query) (out : X → Output) (passing : Tables → List X) : Type 1 where
  pub selects : IsSelect text
  pub first : (old new : State) (t : Tables) → MaySeeIn v old t → (row : Row) → GivesRow text params old new (Some row)
      → (tail : List Row) × Answers q out (passing t) (row ∷ tail)
  pub none : (old new : State) (t : Tables) → MaySeeIn v old t → GivesRow text params old new None → passing t ≡ []
  pub all : (old new : State) (t : Tables) → MaySeeIn v old t → (rows : List Row) → GivesRows text params old new rows
      → Answers q out (passing t) rows
  pub reason : (old new : State) (t : Tables) → MaySeeIn v old t → IsUp old → (e : Error) → FailsToQuery text params old new e → HasReason old new e

pub asks : {X : Type 0} {v : Version} {text : List ℕ} {names : List (List ℕ)} {params : Row} (tree : ℕ) (tests project : List Term)
    (order : List (Term × Key)) → SaysQuery v text (sorted_rows tree tests project order) names params → (out : X → Output) (passing : Tables → List X)
    → ((db : Trees) (t : Tables) → ShowsIn v db t → (rows : List Row) → IsAnswer (sorted_rows tree tests project order) (overlay db []) params rows
    → Answers (sorted_rows tree tests project order) out (passing t) rows)
    → Asks v text params (sorted_rows tree tests project order) out passing
asks {text = text} {names = names} {params = params} tree tests project order says out passing are =
    let q = sorted_rows tree tests project order in
    record {
      selects = (says.means []).selects;
      first = λ old new t sees row given. (
          let got = first_row text q names says.means params old new (λ h. (sees h).schema) row given.1 in
          (got.1.0, are old.now.trees t (sees given.0.0.was_open).rows (row ∷ got.1.0) got.1.1));
      none = λ old new t sees given. (
          let got = no_row text q names says.means params old new (λ h. (sees h).schema) QueryReturnedNoRows refl given.1 in
          none_of q out (passing t) (are old.now.trees t (sees given.0.0.was_open).rows [] got.1));
      all = λ old new t sees rows given. are old.now.trees t (sees given.0.0.was_open).rows rows
          (whole_answer text q names says.means params old new (λ h. (sees h).schema) rows given.1).1;
      reason = λ old new t sees up e why. (
          let of = (sees up.is_open).schema in
          query_reason (one_table tree tests project order) says.means old new up of (says.takes of.extra) e why);
    }

-- a table whose rowids are free, for a query that shows none of them
pub asks_chosen : {X : Type 0} {v : Version} {text : List ℕ} {names : List (List ℕ)} {params : Row} (tree : ℕ) (tests project : List Term)
    (order : List (Term × Key)) → SaysQuery v text (sorted_rows tree tests project order) names params
    → ((db : Trees) → overlay db [] tree ≡ db tree) → (columns : X → Row) (values : Tables → List X)
    → ((db : Trees) (t : Tables) → ShowsIn v db t → IsTableOf columns (db tree) (values t)) → (out : X → Output)
    → ((p : ℤ × X) → output (sorted_rows tree tests project order) (env_of params (numbered_row columns p)) ≡ out p.1) → (test : X → Bool)
    → ((p : ℤ × X) → passes tests params (numbered_row columns p) ≡ test p.1)
    → Asks v text params (sorted_rows tree tests project order) out (λ t. filter test (values t))
asks_chosen {params = params} tree tests project order says seen columns values shown out out_is test test_is =
    asks tree tests project order says out (λ t. filter test (values t)) (λ db t shows rows asked.
    table_answers tree tests project order db params rows asked (seen db) columns (values t) (shown db t shows) out out_is test test_is)

-- a table whose rowids are its values' own numbers
pub asks_own : {X : Type 0} {v : Version} {text : List ℕ} {names : List (List ℕ)} {params : Row} (tree : ℕ) (tests project : List Term)
    (order : List (Term × Key)) → SaysQuery v text (sorted_rows tree tests project order) names params
    → ((db : Trees) → overlay db [] tree ≡ db tree) → (number : X → ℕ) (row_of : X → Row) (values : Tables → List X)
    → ((db : Trees) (t : Tables) → ShowsIn v db t → IsNumbered number row_of (db tree) (values t)) → (test : X → Bool)
    → ((x : X) → passes tests params (row_of x) ≡ test x)
    → Asks v text params (sorted_rows tree tests project order) (λ x. output (sorted_rows tree tests project order) (env_of params (row_of x)))
    (λ t. filter test (values t))
asks_own {params = params} tree tests project order says seen number row_of values shown test test_is =
    asks tree tests project order says (λ x. output (sorted_rows tree tests project order) (env_of params (row_of x))) (λ t. filter test (values t))
    (λ db t shows rows asked.
    numbered_answers tree tests project order db params rows asked (seen db) number row_of (values t) (shown db t shows) test test_is)

-- what is read of the answer that the query gives is what the tables have; it can be read where the rows fit
pub record Finds (v : Version) (text : List ℕ) (params : Row) {A V : Type 0} (Gives : Row → State → State → A → Type 0)
    (Reads : A → V → Type 0) (Found : Tables → V → Type 0) (Fits : Tables → Type 0) (Good : A → Type 0) : Type 1 where
  pub selects : IsSelect text
  pub found : (old new : State) (t : Tables) → MaySeeIn v old t → (a : A) (f : V) → Reads a f → IsUnchanged old new × Gives
      params old new a → Found t f
  pub good : (old new : State) (t : Tables) → MaySeeIn v old t → Fits t → (a : A) → IsUnchanged old new × Gives params old new a → Good a
  pub reason : (old new : State) (t : Tables) → MaySeeIn v old t → IsUp old → (e : Error) → FailsToQuery text params old new e → HasReason old new e

-- the same, of the first row, and of all rows
abbrev pub FindsOne : Version → List ℕ → Row → {V C : Type 0} → (V → C) → (Row → C) → (Tables → Option V → Type 0) → (Tables → Type 0)
    → (Row → Type 0) → Type 1
FindsOne v text params show read Found Fits Good =
    Finds v text params (λ given old new row. QueriesRow text given old new (one_row row)) (ReadsOne show read) Found Fits (IfRow Good)

abbrev pub FindsList : Version → List ℕ → Row → {V C : Type 0} → (V → C) → (Row → C) → (Tables → List V → Type 0) → (Tables → Type 0)
    → (Row → Type 0) → Type 1
FindsList v text params show read Found Fits Good =
    Finds v text params (Shown text) (λ rows found. map show found ≡ map read rows) Found Fits (AllByRecursion Good)

-- A query whose rows show what is read of them.
module _ {X V C : Type 0} {v : Version} {text : List ℕ} {params : Row} {q : Query} {out : X → Output} {passing : Tables → List X}
    (it : Asks v text params q out passing) (row_of : V → X) (show : V → C) (read : Row → C)
    (back : (t : Tables) (f : V) (x : X) → Has (passing t) x → show f ≡ read ((out x).1) → row_of f ≡ x)
    (Fits : Tables → Type 0) (Good : Row → Type 0) (good_is : (t : Tables) → Fits t → (x : X) → Has (passing t) x → Good ((out x).1)) where
  -- the first row is that of a value that passes, and no value that passes is before it
  first_of_all : (IsFound : Tables → Option X → Type 0)
      → ((t : Tables) (x : X) → Has (passing t) x
      → ((y : X) → Has (passing t) y → (y ≡ x) ⊎ IsUpTo (output_cmp q) (output_total q) (out x) (out y)) → IsFound t (Some x))
      → ((t : Tables) → passing t ≡ [] → IsFound t None)
      → FindsOne v text params show read (λ t found. IsFound t (option_map row_of found)) Fits Good
  first_of_all IsFound some none = record { selects = it.selects; found = found; good = good; reason = it.reason }
    where
      found : (old new : State) (t : Tables) → MaySeeIn v old t → (row : Option Row) (f : Option V) → ReadsOne show read row f
          → GivesRow text params old new row → IsFound t (option_map row_of f)
      found old new t sees (Some row) (Some f) shown given =
          let all = it.first old new t sees row given in
          let x = first_of q out (passing t) row all.0 all.1 in
          subst (λ z. IsFound t (Some z)) (sym (back t f x.0 x.1 (shown ∙ ap read x.2))) (some t x.0 x.1 x.3)
      found old new t sees None None shown given = none t (it.none old new t sees given)
      found old new t sees (Some row) None shown given = absurd shown
      found old new t sees None (Some f) shown given = absurd shown

      good : (old new : State) (t : Tables) → MaySeeIn v old t → Fits t → (row : Option Row) → GivesRow text params old new row → IfRow Good row
      good old new t sees fits (Some row) given =
          let all = it.first old new t sees row given in
          (all_shown q out (passing t) (row ∷ all.0) all.1 Good (good_is t fits)).0
      good old new t sees fits None given = tt

  -- the value is one of those that pass, or the one of them with the least number
  pub one_of : FindsOne v text params show read (λ t found. IsOneOf (passing t) (option_map row_of found)) Fits Good
  one_of = first_of_all (λ t. IsOneOf (passing t)) (λ t x there up. there) (λ t none. none)

  pub least_of : (number : X → ℕ) → ((x y : X) → IsUpTo (output_cmp q) (output_total q) (out x) (out y) → number x ≤ number y)
      → FindsOne v text params show read (λ t found. IsLeastOf number (passing t) (option_map row_of found)) Fits Good
  least_of number up_is = first_of_all (λ t. IsLeastOf number (passing t)) (λ t x there up. (
    there,
    λ y h. elim (up y h) [
      | inl is ↦ (let e = ap number is in omega (arith, e))
      | inr low ↦ up_is x y low
    ],
  )) (λ t none. none)

  pub lists : (UpTo : X → X → Type 0) → ((x y : X) → IsUpTo (output_cmp q) (output_total q) (out x) (out y) → UpTo x y)
      → FindsList v text params show read (λ t found. IsListed UpTo (passing t) (map row_of found)) Fits Good
  lists UpTo up_is = record {
    selects = it.selects;
    found = λ old new t sees rows found was given.
        listed q out (passing t) rows (it.all old new t sees rows given) row_of show read found was (back t) UpTo up_is;
    good = λ old new t sees fits rows given. all_shown q out (passing t) rows (it.all old new t sees rows given) Good (good_is t fits);
    reason = it.reason;
  }

-- One run, as contracts say it.
module _ {v : Version} {text : List ℕ} {params : Row} {A V W : Type 0} {Gives : Row → State → State → A → Type 0} {Reads : A → V → Type 0}
    {Found : Tables → V → Type 0} {Fits : Tables → Type 0} {Good : A → Type 0} (it : Finds v text params Gives Reads Found Fits Good) (items : W → V)
    {S : Type 0} {g : Ghosts S} {old new : Held S} (quiet : Quiet g old new) where
  -- the answer is given, and read unless there is no memory
  pub is_read : (a : A) (result : Result W Error)
      → (HasCleanDisk (state g new) → IsUnchanged (state g old) (state g new) × Gives params (state g old) (state g new) a)
      → IfOk result (λ found. Reads a (items found)) → (Good a → IfErr result IsMemory) → QueriesIn g old new v result
      (λ t found. Found t (items found)) Fits
  is_read a result gives reads memory = record {
    found = λ clean t sees. ok_then _ _ result
        (λ f shown. ((gives clean).0, it.found (state g old) (state g new) t sees a (items f) shown (gives clean))) reads;
    reason = λ clean t sees fits up. err_then _ _ result (λ _ none. inl none) (memory (it.good (state g old) (state g new) t sees fits a (gives clean)));
    quiet = quiet;
  }

  -- it cannot be read
  pub not_read : (a : A) {result : Result W Error} {e : Error}
      → (HasCleanDisk (state g new) → IsUnchanged (state g old) (state g new) × Gives params (state g old) (state g new) a)
      → (Good a → IsMemory e) → result ≡ Err e → QueriesIn g old new v result (λ t found. Found t (items found)) Fits
  not_read a {e = e} gives memory is = rw is (is_read a (Err e) gives tt memory)

  -- the query fails
  pub not_asked : {result : Result W Error} {e : Error} → (HasCleanDisk (state g new) → FailsToQuery text params (state g old) (state g new) e)
      → result ≡ Err e → QueriesIn g old new v result (λ t found. Found t (items found)) Fits
  not_asked {e = e} fails is = rw is (record {
    found = λ _ _ _. tt;
    reason = λ clean t sees fits up. it.reason (state g old) (state g new) t sees up e (fails clean);
    quiet = quiet;
  })

  -- the same, where the query was given values that are those that it takes
  pub is_read_at : (a : A) (result : Result W Error) (given : Row)
      → (HasCleanDisk (state g new) → IsUnchanged (state g old) (state g new) × Gives given (state g old) (state g new) a) → given ≡ params
      → IfOk result (λ found. Reads a (items found)) → (Good a → IfErr result IsMemory) → QueriesIn g old new v result
      (λ t found. Found t (items found)) Fits
  is_read_at a result given gives same = is_read a result (rw same at gives)

  pub not_asked_at : {result : Result W Error} {e : Error} (given : Row)
      → (HasCleanDisk (state g new) → FailsToQuery text given (state g old) (state g new) e) → given ≡ params
      → result ≡ Err e → QueriesIn g old new v result (λ t found. Found t (items found)) Fits
  not_asked_at given fails same = not_asked (rw same at fails)
